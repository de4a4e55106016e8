-- The events of a script are events, and their rounds never fall.
use Rattle.std.specs.Option.{option_and_then}
use Rattle.std.proofs.Common.{◌≡◌, ◌≤◌, ℕ, ◌+◌, List, [], ◌∷◌, Bool, true, false, Option, Some, None, Result, Ok, Err, refl, arith, ap, subst, nat_le, ◌&&◌, if◌then◌else◌}
use Rattle.std.proofs.lemmas.Bool.{leb-true}
use Rattle.std.proofs.lemmas.List.Elements.{All-from_recursion}
use Rattle.std.specs.List.{AllByRecursion as ByRecursion}
use Rattle.std.specs.Str.Lines.{lines}
use Rattle.vv_base.specs.Digits.{decimal_from, decimal_of, is_decimal}
use Rattle.vv_base.specs.Names.{is_object_name, tested}
use Rattle.sys_script.specs.Events.{AreEvents, IsEvent, NeverFalls}
use Rattle.sys_script.specs.EventLine.{◌>>=◌, after_blank, event_in, front, is_allowed, or_kind, round_in, what_in, when}
use Rattle.sys_script.specs.Script.{at_script_line, events_from, in_front, is_passed_over, script_of}
use Rattle.sys_script.specs.declared.event.Event.{Event}
use Rattle.sys_script.specs.declared.event.ScriptFault.{ScriptFault}
use Rattle.sys_script.specs.declared.event.ScriptKind.{ScriptKind}
use Rattle.sys_script.specs.declared.event.ScriptKind.TheVariants.{BadRound, BadName, BadEvent, BadText, RoundFalls}
use Rattle.sys_script.specs.declared.event.Typed.{Typed}

-- where a choice by a test gives a value, the test passes
pub passed : {A : Type 0} (test : Bool) (x y : A) → (if test then Some x else None) ≡ Some y → (test ≡ true) × (x ≡ y)
passed true x y is = (refl, cc)
passed false x y is = (cc, cc)

second : (a b : Bool) → (a && b) ≡ true → b ≡ true
second true b both = both
second false b both = cc

at_least : (number : Option ℕ) (round : ℕ) → option_and_then (λ n. if nat_le 1 n then Some n else None) number ≡ Some round → (number ≡ Some round) × (1 ≤ round)
at_least None round is = (cc, absurd cc)
at_least (Some n) round is =
    let test : (nat_le 1 n ≡ true) × (n ≡ round) = passed (nat_le 1 n) n round is in
    (ap (λ m. Some m) test.1, omega (arith, leb-true 1 n test.0, test.1))

round_within : (text : List ℕ) (round : ℕ) → round_in text ≡ Some round → (1 ≤ round) × (round ≤ 1000000)
round_within text round is =
    let least : (decimal_of text 1000000 ≡ Some round) × (1 ≤ round) = at_least (decimal_of text 1000000) round is in
    let most : (is_decimal text && nat_le (decimal_from 0 text) 1000000 ≡ true) × (decimal_from 0 text ≡ round) = passed (is_decimal text && nat_le (decimal_from 0 text) 1000000) (decimal_from 0 text) round least.0 in
    (least.1, omega (arith, leb-true (decimal_from 0 text) 1000000 (second (is_decimal text) (nat_le (decimal_from 0 text) 1000000) most.0), most.1))

name_passes : (text name : List ℕ) → tested is_object_name text ≡ Some name → is_object_name name ≡ true
name_passes text name is =
    let test : (is_object_name text ≡ true) × (text ≡ name) = passed (is_object_name text) text name is in
    rw (← test.1, test.0)

-- the last two tests passed
both_passed : (allowed rises : Bool) (made event : Event) → (when BadText allowed >>= λ _. when RoundFalls rises >>= λ _. Ok made) ≡ Ok event → (allowed ≡ true) × (rises ≡ true) × (made ≡ event)
both_passed true true made event is = (refl, refl, cc)
both_passed true false made event is = (cc, cc, cc)
both_passed false rises made event is = (cc, cc, cc)

record IsOf (last : ℕ) (number : Option ℕ) (name : Option (List ℕ)) (asked : Option Typed) (event : Event) : Type 0 where
  round : number ≡ Some event.round
  terminal : name ≡ Some event.terminal
  what : asked ≡ Some event.what
  allowed : is_allowed event.what ≡ true
  rises : nat_le last event.round ≡ true

is_of : (last : ℕ) (round : Option ℕ) (name : Option (List ℕ)) (what : Option Typed) (event : Event)
    → (or_kind BadRound round >>= λ r. or_kind BadName name >>= λ n. or_kind BadEvent what >>= λ w. when BadText (is_allowed w) >>= λ _. when RoundFalls (nat_le last r) >>= λ _. Ok (record { round = r; terminal = n; what = w })) ≡ Ok event
    → IsOf last round name what event
is_of last None name what event is = record { round = cc; terminal = cc; what = cc; allowed = cc; rises = cc }
is_of last (Some r) None what event is = record { round = cc; terminal = cc; what = cc; allowed = cc; rises = cc }
is_of last (Some r) (Some n) None event is = record { round = cc; terminal = cc; what = cc; allowed = cc; rises = cc }
is_of last (Some r) (Some n) (Some w) event is =
    let made : Event = record { round = r; terminal = n; what = w } in
    let both : (is_allowed w ≡ true) × (nat_le last r ≡ true) × (made ≡ event) = both_passed (is_allowed w) (nat_le last r) made event is in
    let Here : Event → Type 0 = λ x. IsOf last (Some r) (Some n) (Some w) x in
    subst Here both.2 (record { round = refl; terminal = refl; what = refl; allowed = both.0; rises = both.1 })

event_of_line : (last : ℕ) (line : List ℕ) (event : Event) → event_in last line ≡ Ok event → IsEvent event × (last ≤ event.round)
unfolding event_in
event_of_line last line event is =
    let parts : IsOf last (round_in (front line)) (tested is_object_name (front (after_blank line))) (what_in (after_blank (after_blank line))) event = is_of last _ _ _ event is in
    let round : (1 ≤ event.round) × (event.round ≤ 1000000) = round_within (front line) event.round parts.round in
    (record { from = round.0; to = round.1; terminal = name_passes (front (after_blank line)) event.terminal parts.terminal; what = parts.allowed }, leb-true _ _ parts.rises)

abbrev Follow : ℕ → List Event → Type 0
Follow last events = ByRecursion IsEvent events × NeverFalls last events

-- an event in front of others
first_follows : (last : ℕ) (event : Event) (more : Result (List Event) ScriptFault) (events : List Event) → IsEvent event × (last ≤ event.round)
    → ((rest : List Event) → more ≡ Ok rest → Follow event.round rest) → in_front event more ≡ Ok events → Follow last events
first_follows last event (Ok rest) events first others is =
    let whole : event ∷ rest ≡ events = cc in
    let after : Follow event.round rest = others rest refl in
    subst (Follow last) whole ((first.0, after.0), (first.1, after.1))
first_follows last event (Err fault) events first others is = absurd cc

-- a line, passed over or read
line_follows : (is_passed : Bool) (last : ℕ) (read : Result Event ScriptFault) (others : Result (List Event) ScriptFault) (after_it : Event → Result (List Event) ScriptFault) (events : List Event)
    → (others ≡ Ok events → Follow last events)
    → ((event : Event) → read ≡ Ok event → IsEvent event × (last ≤ event.round))
    → ((event : Event) (rest : List Event) → after_it event ≡ Ok rest → Follow event.round rest)
    → (if is_passed then others else (read >>= λ event. in_front event (after_it event))) ≡ Ok events → Follow last events
line_follows true last read others after_it events skip first later is = skip is
line_follows false last (Ok event) others after_it events skip first later is = first_follows last event (after_it event) events (first event refl) (later event) is
line_follows false last (Err fault) others after_it events skip first later is = absurd cc

of_line : (number : ℕ) (read : Result Event ScriptKind) (event : Event) → at_script_line number read ≡ Ok event → read ≡ Ok event
of_line number (Ok x) event is = cc
of_line number (Err kind) event is = cc

all_follow : (number last : ℕ) (lines : List (List ℕ)) (events : List Event) → events_from number last lines ≡ Ok events → Follow last events
all_follow number last [] events is =
    let none : [] ≡ events = cc in
    subst (Follow last) none (tt, tt)
all_follow number last (line ∷ more) events is =
    line_follows (is_passed_over line) last (at_script_line number (event_in last line)) (events_from (number + 1) last more) (λ event. events_from (number + 1) event.round more) events
    (λ rest. all_follow (number + 1) last more events rest)
    (λ event read. event_of_line last line event (of_line number (event_in last line) event read))
    (λ event rest read. all_follow (number + 1) event.round more rest read)
    is

pub are_events : (bytes : List ℕ) (events : List Event) → script_of bytes ≡ Ok events → AreEvents events
unfolding script_of
are_events bytes events is =
    let all : Follow 0 events = all_follow 1 0 (lines bytes) events is in
    record { each = All-from_recursion IsEvent events all.0; order = all.1 }
