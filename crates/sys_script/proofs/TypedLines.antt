-- What lines that are typed say, and the meaning of the script that is made of them.
use Rattle.std.proofs.Common.{◌≡◌, ◌≤◌, ◌<◌, ◌+◌, ◌^◌, ◌==◌, decimal, ℕ, List, [], ◌∷◌, ◌++◌, length, take, drop, get_or, Bool, true, false, ◌||◌, not, nat_le, nat_lt, if◌then◌else◌, Option, Some, None, Result, Ok, Err, is_ok, bytes_eq, codes, refl, sym, ◌∙◌, ap, subst, arith, lit≤}
use Rattle.std.proofs.lemmas.Bool.{le-leb, ltb-true, ltb-false}
use Rattle.std.proofs.lemmas.Bool.Decides.{nat_tests}
use Rattle.std.proofs.lemmas.Fmt.{decimal_nonempty}
use Rattle.std.proofs.lemmas.List.{append_assoc, take-append-drop, take_all}
use Rattle.std.proofs.lemmas.List.Sums.{passes_at_first, split_at_first, take_while-cons}
use Rattle.std.proofs.lemmas.Slice.Eq.{bytes_eq-Decides}
use Rattle.std.specs.List.{list_all, position_or_len}
use Rattle.std.specs.Str.Lines.{lines}
use Rattle.vv_base.specs.Names.{is_object_name, tested}
use Rattle.sys_script.specs.EventLine.{◌>>=◌, after_blank, event_in, front, is_allowed, or_kind, round_in, what_in, when}
use Rattle.sys_script.specs.Script.{events_from, is_passed_over, script_of}
use Rattle.sys_script.specs.Texts.{is_text_character}
use Rattle.sys_script.specs.Typed.{MeansTyped, SaysWithRound, events_typed, if_said, rounds_typed, says_event, script_typed, typed_in}
use Rattle.sys_script.specs.declared.event.Event.{Event}
use Rattle.sys_script.specs.declared.event.ScriptKind.{ScriptKind}
use Rattle.sys_script.specs.declared.event.ScriptKind.TheVariants.{BadRound, BadName, BadEvent, BadText, RoundFalls}
use Rattle.sys_script.specs.declared.event.Typed.{Typed}
use Rattle.sys_script.specs.declared.event.Typed.TheVariants.{Break, Line}
use Rattle.sys_script.proofs.Ordered.{passed}
use Rattle.sys_script.proofs.WrittenAgain.{AreFrom, after_at, both, decimal_from_48, from_test, front_at, is_read, joined, lines_at, lower, name_from_48, round_read, shown_from}

-- What a line says, by its parts.
abbrev event_of : ℕ → List ℕ → Typed → Event
event_of round name what = record { round = round; terminal = name; what = what }

-- what is said in a round where it is allowed, and with its parts
abbrev Allowed : ℕ → List ℕ → Typed → Bool → Result Event ScriptKind
Allowed round name what allowed = when BadText allowed >>= λ _. Ok (event_of round name what)

abbrev With : ℕ → Option (List ℕ) → Option Typed → Result Event ScriptKind
With round name what = or_kind BadName name >>= λ n. or_kind BadEvent what >>= λ w. Allowed round n w (is_allowed w)

-- and after a round that is read
abbrev After : ℕ → Option ℕ → Option (List ℕ) → Option Typed → Result Event ScriptKind
After last number name what = or_kind BadRound number >>= λ r. or_kind BadName name >>= λ n. or_kind BadEvent what >>= λ w. when BadText (is_allowed w) >>= λ _. when RoundFalls (nat_le last r) >>= λ _. Ok (event_of r n w)

-- A line with its round in front.
after_round : (last round : ℕ) (number : Option ℕ) (name : Option (List ℕ)) (what : Option Typed) → number ≡ Some round → nat_le last round ≡ true
    → After last number name what ≡ With round name what
after_round last round number name what is rises = rw (is, rises)

pub with_round : (last round : ℕ) (line : List ℕ) → 1 ≤ round → round ≤ 1000000 → last ≤ round → event_in last (decimal round ++ 32 ∷ line) ≡ typed_in round line
unfolding event_in typed_in
with_round last round line from to rises =
    let digits : AreFrom 33 (decimal round) = lower 48 33 (decimal round) (lit≤ tt) (decimal_from_48 round (omega (arith, to))) in
    let number : round_in (front (decimal round ++ 32 ∷ line)) ≡ Some round = rw (front_at (decimal round) line digits, round_read round from to) in
    let rest : List ℕ = after_blank (decimal round ++ 32 ∷ line) in
    after_round last round (round_in (front (decimal round ++ 32 ∷ line))) (tested is_object_name (front rest)) (what_in (after_blank rest)) number (le-leb last round rises)
    ∙ ap (λ text. With round (tested is_object_name (front text)) (what_in (after_blank text))) (after_at (decimal round) line digits)

pub says_with_round : SaysWithRound
says_with_round round line from to = with_round round round line from to (omega arith)

-- The round of a line changes nothing of whether it says an event, nor why not.
alike : (round : ℕ) (name : List ℕ) (what : Typed) (allowed : Bool) → is_ok (Allowed round name what allowed) ≡ is_ok (Allowed 1 name what allowed)
alike round name what true = refl
alike round name what false = refl

all_alike : (round : ℕ) (name : Option (List ℕ)) (what : Option Typed) → is_ok (With round name what) ≡ is_ok (With 1 name what)
all_alike round None what = refl
all_alike round (Some n) None = refl
all_alike round (Some n) (Some w) = alike round n w (is_allowed w)

pub says_in_each : (round : ℕ) (line : List ℕ) → is_ok (typed_in round line) ≡ is_ok (typed_in 1 line)
unfolding typed_in
says_in_each round line = all_alike round (tested is_object_name (front line)) (what_in (after_blank line))

kind_alike : (round : ℕ) (name : List ℕ) (what : Typed) (allowed : Bool) (kind : ScriptKind) → Allowed round name what allowed ≡ Err kind → Allowed 1 name what allowed ≡ Err kind
kind_alike round name what true kind is = absurd cc
kind_alike round name what false kind is = is

kinds_alike : (round : ℕ) (name : Option (List ℕ)) (what : Option Typed) (kind : ScriptKind) → With round name what ≡ Err kind → With 1 name what ≡ Err kind
kinds_alike round None what kind is = is
kinds_alike round (Some n) None kind is = is
kinds_alike round (Some n) (Some w) kind is = kind_alike round n w (is_allowed w) kind is

pub refused_in_each : (round : ℕ) (line : List ℕ) (kind : ScriptKind) → typed_in round line ≡ Err kind → typed_in 1 line ≡ Err kind
unfolding typed_in
refused_in_each round line kind is = kinds_alike round (tested is_object_name (front line)) (what_in (after_blank line)) kind is

-- A line that is passed over says no event.
unnamed : (round : ℕ) (line : List ℕ) (what : Option Typed) → is_object_name line ≡ false → is_ok (With round (tested is_object_name line) what) ≡ false
unnamed round line what is = rw is

comment : (b : ℕ) (line : List ℕ) → (b == 35) ≡ true → is_object_name (front (b ∷ line)) ≡ false
comment b line is =
    let sign : b ≡ 35 = grind (arith, nat_tests) in
    subst (λ x. is_object_name (front (x ∷ line)) ≡ false) (sym sign) (rw (take_while-cons (λ x. not (x == 32)) 35 line))

pub passed_over_says_none : (round : ℕ) (line : List ℕ) → is_passed_over line ≡ true → is_ok (typed_in round line) ≡ false
unfolding typed_in
passed_over_says_none round [] is = refl
passed_over_says_none round (b ∷ line) is = unnamed round (front (b ∷ line)) (what_in (after_blank (b ∷ line))) (comment b line is)

-- A line that says an event has bytes from 32 on alone.
record IsSaid (in_round : ℕ) (name : Option (List ℕ)) (asked : Option Typed) (event : Event) : Type 0 where
  round : event.round ≡ in_round
  terminal : name ≡ Some event.terminal
  what : asked ≡ Some event.what
  allowed : is_allowed event.what ≡ true

allowed_so : (allowed : Bool) (made event : Event) → (when BadText allowed >>= λ _. Ok made) ≡ Ok event → (allowed ≡ true) × (made ≡ event)
allowed_so true made event is = (refl, cc)
allowed_so false made event is = (cc, cc)

is_said : (round : ℕ) (name : Option (List ℕ)) (what : Option Typed) (event : Event) → With round name what ≡ Ok event → IsSaid round name what event
is_said round None what event is = absurd cc
is_said round (Some n) None event is = absurd cc
is_said round (Some n) (Some w) event is =
    let made : Event = record { round = round; terminal = n; what = w } in
    let both : (is_allowed w ≡ true) × (made ≡ event) = allowed_so (is_allowed w) made event is in
    let Here : Event → Type 0 = λ x. IsSaid round (Some n) (Some w) x in
    subst Here both.1 (record { round = refl; terminal = refl; what = refl; allowed = both.0 })

name_bytes : (text name : List ℕ) → tested is_object_name text ≡ Some name → AreFrom 32 text
name_bytes text name is =
    let test : (is_object_name text ≡ true) × (text ≡ name) = passed (is_object_name text) text name is in
    lower 48 32 text (lit≤ tt) (name_from_48 text test.0)

of_bytes : (text same : List ℕ) → bytes_eq text same ≡ true → AreFrom 32 same → AreFrom 32 text
of_bytes text same is all = subst (AreFrom 32) (sym ((bytes_eq-Decides text same).0 is)) all

line_bytes : (text : List ℕ) → bytes_eq (take 2 text) (codes "> ") ≡ true → is_allowed (Line (drop 2 text)) ≡ true → AreFrom 32 text
line_bytes text front allowed =
    subst (AreFrom 32) (take-append-drop 2 text)
    (joined 32 (take 2 text) (drop 2 text) (of_bytes (take 2 text) (codes "> ") front (lit≤ tt, (lit≤ tt, tt))) (from_test is_text_character 32 shown_from (drop 2 text) (both (nat_le (length (drop 2 text)) 1000) (list_all is_text_character (drop 2 text)) allowed).1))

asked_bytes : (text : List ℕ) (breaks none some : Bool) (what : Typed)
    → (if breaks then Some Break else if none then Some (Line []) else if some then Some (Line (drop 2 text)) else None) ≡ Some what → is_allowed what ≡ true
    → (breaks ≡ true → AreFrom 32 text) → (none ≡ true → AreFrom 32 text) → (some ≡ true → is_allowed (Line (drop 2 text)) ≡ true → AreFrom 32 text)
    → AreFrom 32 text
asked_bytes text true none some what is allowed first second third = first refl
asked_bytes text false true some what is allowed first second third = second refl
asked_bytes text false false true what is allowed first second third =
    let asked : what ≡ Line (drop 2 text) = cc in
    third refl (subst (λ w. is_allowed w ≡ true) asked allowed)
asked_bytes text false false false what is allowed first second third = absurd cc

what_bytes : (text : List ℕ) (what : Typed) → what_in text ≡ Some what → is_allowed what ≡ true → AreFrom 32 text
what_bytes text what is allowed =
    asked_bytes text (bytes_eq text (codes "break")) (bytes_eq text (codes ">")) (bytes_eq (take 2 text) (codes "> ")) what is allowed
    (λ same. of_bytes text (codes "break") same (lit≤ tt, (lit≤ tt, (lit≤ tt, (lit≤ tt, (lit≤ tt, tt))))))
    (λ same. of_bytes text (codes ">") same (lit≤ tt, tt))
    (λ same. line_bytes text same)

cut_bytes : (text : List ℕ) (within : Bool) → nat_lt (position_or_len (λ b. b == 32) text) (length text) ≡ within → AreFrom 32 (front text) → AreFrom 32 (after_blank text) → AreFrom 32 text
cut_bytes text true is first second =
    let within : position_or_len (λ b. b == 32) text < length text = ltb-true _ _ is in
    let blank : (get_or text (position_or_len (λ b. b == 32) text) 0 == 32) ≡ true = passes_at_first (λ b. b == 32) text 0 within in
    let from : 32 ≤ get_or text (position_or_len (λ b. b == 32) text) 0 = grind (arith, nat_tests) in
    subst (AreFrom 32) (sym (split_at_first (λ b. b == 32) text 0 within)) (joined 32 (front text) (get_or text (position_or_len (λ b. b == 32) text) 0 ∷ after_blank text) first (from, second))
cut_bytes text false is first second =
    let beyond : length text ≤ position_or_len (λ b. b == 32) text = ltb-false _ _ is in
    subst (AreFrom 32) (take_all (position_or_len (λ b. b == 32) text) text beyond) first

pub said_bytes : (round : ℕ) (line : List ℕ) (event : Event) → typed_in round line ≡ Ok event → AreFrom 32 line × (event.round ≡ round)
unfolding typed_in
said_bytes round line event is =
    let said : IsSaid round (tested is_object_name (front line)) (what_in (after_blank line)) event = is_said round _ _ event is in
    (cut_bytes line _ refl (name_bytes (front line) event.terminal said.terminal) (what_bytes (after_blank line) event.what said.what said.allowed), said.round)

-- The script of lines.
or_true : (first second : Bool) → second ≡ true → (first || second) ≡ true
or_true true second is = refl
or_true false second is = is

begun_counts : (is_begun : Bool) (lines : List (List ℕ)) → is_begun ≡ true → 1 ≤ rounds_typed is_begun lines
begun_counts is_begun [] is = rw is (lit≤ tt)
begun_counts is_begun ([] ∷ more) is = omega arith
begun_counts is_begun ((b ∷ line) ∷ more) is = begun_counts (is_begun || says_event (b ∷ line)) more (rw is refl)

-- a line of the script, in front of others
line_first : (number last round : ℕ) (line rest : List ℕ) (event : Event) (events : List Event) → 1 ≤ round → round ≤ 1000000 → last ≤ round → typed_in round line ≡ Ok event
    → events_from (number + 1) round (lines rest) ≡ Ok events → events_from number last (lines (decimal round ++ 32 ∷ (line ++ 10 ∷ rest))) ≡ Ok (event ∷ events)
line_first number last round line rest event events from to rises said others =
    let small : round < 2 ^ 64 = omega (arith, to) in
    let digits : AreFrom 48 (decimal round) = decimal_from_48 round small in
    let parts : AreFrom 32 line × (event.round ≡ round) = said_bytes round line event said in
    let whole : AreFrom 32 (decimal round ++ 32 ∷ line) = joined 32 (decimal round) (32 ∷ line) (lower 48 32 (decimal round) (lit≤ tt) digits) (lit≤ tt, parts.0) in
    rw (
      ← append_assoc (decimal round) (32 ∷ line) (10 ∷ rest),
      lines_at (decimal round ++ 32 ∷ line) rest whole,
      is_read (decimal round) (32 ∷ line) digits (decimal_nonempty round small),
      with_round last round line from to rises,
      said,
      parts.1,
      others,
    )

said_or_not : (number last : ℕ) (says : Bool) (made : Result Event ScriptKind) (first second : List ℕ) (events : List Event) → says ≡ is_ok made
    → ((event : Event) → made ≡ Ok event → says ≡ true → events_from number last (lines first) ≡ Ok (event ∷ events))
    → (says ≡ false → events_from number last (lines second) ≡ Ok events)
    → events_from number last (lines (if says then first else second)) ≡ Ok (if_said made events)
said_or_not number last true (Ok event) first second events is yes_said none = yes_said event refl refl
said_or_not number last true (Err kind) first second events is yes_said none = absurd cc
said_or_not number last false (Ok event) first second events is yes_said none = absurd cc
said_or_not number last false (Err kind) first second events is yes_said none = none refl

meaning : (number last round : ℕ) (is_begun : Bool) (typed : List (List ℕ)) → 1 ≤ round → last ≤ round → round + rounds_typed is_begun typed ≤ 1000001
    → events_from number last (lines (script_typed round typed)) ≡ Ok (events_typed round typed)
meaning number last round is_begun [] from rises within = refl
meaning number last round is_begun ([] ∷ more) from rises within = meaning number last (round + 1) false more (omega arith) (omega arith) (omega (arith, within))
meaning number last round is_begun ((b ∷ line) ∷ more) from rises within =
    said_or_not number last (says_event (b ∷ line)) (typed_in round (b ∷ line)) (decimal round ++ 32 ∷ ((b ∷ line) ++ 10 ∷ script_typed round more)) (script_typed round more) (events_typed round more) (sym (says_in_each round (b ∷ line)))
    (λ event made says.
    line_first number last round (b ∷ line) (script_typed round more) event (events_typed round more) from
    (omega (arith, within, begun_counts (is_begun || says_event (b ∷ line)) more (or_true is_begun (says_event (b ∷ line)) says)))
    rises made
    (meaning (number + 1) round round (is_begun || says_event (b ∷ line)) more from (omega arith) within))
    (λ says. meaning number last round (is_begun || says_event (b ∷ line)) more from rises within)

pub means_typed : MeansTyped
unfolding script_of
means_typed typed within = meaning 1 0 1 false typed (lit≤ tt) (lit≤ tt) (omega (arith, within))
