-- The lines of a round that have been taken, and what each further one results in.
use Rattle.std.proofs.Common.{◌≡◌, ◌≢◌, ◌<◌, ◌≤◌, ◌+◌, ◌-◌, ◌^◌, ◌==◌, ℕ, List, [], ◌∷◌, ◌++◌, length, map, min, Bool, true, false, Option, Some, None, Result, Ok, Err, if◌then◌else◌, All, inl, inr, refl, sym, ◌∙◌, ap, subst, arith, append_assoc, append-nil, length-append}
use Rattle.std.proofs.lemmas.Bool.Decides.{nat_tests}
use Rattle.std.proofs.lemmas.List.{map-append}
use Rattle.std.proofs.lemmas.List.Elements.{All-cons, All-head, All-nil, All-push, All-same, All-tail}
use Rattle.vv_base.specs.Names.{is_object_name}
use Rattle.vv_io.specs.Causes.{Rose}
use Rattle.vv_io.specs.Keys.{Gives, IsOut, Keys, Takes, Took, given_of}
use Rattle.vv_io.specs.Lines.{Seen}
use Rattle.sys_script.specs.Events.{IsEvent}
use Rattle.sys_script.specs.EventLine.{◌>>=◌, after_blank, front, is_allowed, or_kind, what_in, when}
use Rattle.sys_script.specs.Typed.{events_typed, if_said, refusal_message, refusal_messages, says_event, typed_in}
use Rattle.sys_script.specs.declared.event.Event.{Event}
use Rattle.sys_script.specs.declared.event.ScriptKind.{ScriptKind}
use Rattle.sys_script.specs.declared.event.ScriptKind.TheVariants.{BadEvent, BadName, BadText}
use Rattle.sys_script.specs.declared.event.Typed.{Typed}
use Rattle.sys_system.specs.Calls.{AreOf}
use Rattle.sys_live.proofs.Asking.{none_asked, one_asked}
use Rattle.sys_live.proofs.Words.{tells_both, tells_none}
use Rattle.sys_live.specs.Operator.{Operator}
use Rattle.sys_live.specs.Order.{AsksWhile}
use Rattle.sys_devices.specs.Shows.{ShowsUnlessMarked}
use Rattle.sys_live.specs.Typing.{EndsTypedRound, TookWell, TypesRound}
use Rattle.sys_live.specs.declared.typing.Count.{Count}
use Rattle.sys_live.specs.declared.typing.TypedRound.{TypedRound}
use Rattle.sys_live.specs.declared.typing.Typing.{Typing}
use Rattle.sys_live.specs.declared.typing.Typing.TheVariants.{GoesOn, Over, Broken, Lost}

abbrev pub IsFull : List ℕ → Type 0
IsFull line = line ≢ []

pub full_line : (line : List ℕ) → (length line == 0) ≡ false → IsFull line
full_line [] is empty = absurd cc
full_line (b ∷ line) is empty = cc

pub empty_line : (line : List ℕ) → (length line == 0) ≡ true → line ≡ []
empty_line [] is = refl
empty_line (b ∷ line) is = grind (arith, nat_tests)

-- What a line says is an event of its round.
said_is : (round : ℕ) (name : List ℕ) (what : Typed) (allowed : Bool) (event : Event) → 1 ≤ round → round ≤ 1000000 → is_object_name name ≡ true → is_allowed what ≡ allowed
    → (let made : Event = record { round = round; terminal = name; what = what } in (when BadText allowed >>= λ _. Ok made) ≡ Ok event) → IsEvent event × (event.round ≡ round)
said_is round name what true event from to named allowed is =
    let made : Event = record { round = round; terminal = name; what = what } in
    let same : made ≡ event = cc in
    let Here : Event → Type 0 = λ e. IsEvent e × (e.round ≡ round) in
    subst Here same (record { from = from; to = to; terminal = named; what = allowed }, refl)
said_is round name what false event from to named allowed is = absurd cc

named_is : (round : ℕ) (name : List ℕ) (named : Bool) (what : Option Typed) (event : Event) → 1 ≤ round → round ≤ 1000000 → is_object_name name ≡ named
    → (let made : Typed → Event = λ w. record { round = round; terminal = name; what = w } in (or_kind BadName (if named then Some name else None) >>= λ n. or_kind BadEvent what >>= λ w. when BadText (is_allowed w) >>= λ _. Ok (record (made w) { terminal = n })) ≡ Ok event)
    → IsEvent event × (event.round ≡ round)
named_is round name true (Some w) event from to named is = said_is round name w (is_allowed w) event from to named refl is
named_is round name true None event from to named is = absurd cc
named_is round name false what event from to named is = absurd cc

is_event_of : (round : ℕ) (line : List ℕ) (event : Event) → 1 ≤ round → round ≤ 1000000 → typed_in round line ≡ Ok event → IsEvent event × (event.round ≡ round)
unfolding typed_in
is_event_of round line event from to is = named_is round (front line) (is_object_name (front line)) (what_in (after_blank line)) event from to refl is

-- The events of lines of which none is empty.
if_said_all : (P : Event → Type 0) (made : Result Event ScriptKind) (more : List Event) → ((event : Event) → made ≡ Ok event → P event) → All P more → All P (if_said made more)
if_said_all P (Ok event) more each all = All-cons P event more (each event refl) all
if_said_all P (Err kind) more each all = all

all_typed : (P : Event → Type 0) (round : ℕ) (lines : List (List ℕ)) → ((line : List ℕ) (event : Event) → typed_in round line ≡ Ok event → P event) → All IsFull lines → All P (events_typed round lines)
all_typed P round [] each full = All-nil P
all_typed P round ([] ∷ more) each full = absurd (All-head IsFull [] more full refl)
all_typed P round ((b ∷ line) ∷ more) each full =
    if_said_all P (typed_in round (b ∷ line)) (events_typed round more) (each (b ∷ line)) (all_typed P round more each (All-tail IsFull (b ∷ line) more full))

each_is : (round : ℕ) (lines : List (List ℕ)) → 1 ≤ round → round ≤ 1000000 → All IsFull lines → All IsEvent (events_typed round lines)
each_is round lines from to full = all_typed IsEvent round lines (λ line event said. (is_event_of round line event from to said).0) full

each_of : (round : ℕ) (lines : List (List ℕ)) → 1 ≤ round → round ≤ 1000000 → All IsFull lines → All (λ e. e.round ≡ round) (events_typed round lines)
each_of round lines from to full = all_typed (λ e. e.round ≡ round) round lines (λ line event said. (is_event_of round line event from to said).1) full

said_before : (made : Result Event ScriptKind) (more others : List Event) → if_said made (more ++ others) ≡ if_said made more ++ others
said_before (Ok event) more others = refl
said_before (Err kind) more others = refl

-- one line more
events_more : (round : ℕ) (lines : List (List ℕ)) (line : List ℕ) → All IsFull lines → IsFull line → events_typed round (lines ++ line ∷ []) ≡ events_typed round lines ++ if_said (typed_in round line) []
events_more round [] [] full some = absurd (some refl)
events_more round [] (b ∷ line) full some = refl
events_more round ([] ∷ more) line full some = absurd (All-head IsFull [] more full refl)
events_more round ((b ∷ first) ∷ more) line full some =
    ap (λ events. if_said (typed_in round (b ∷ first)) events) (events_more round more line (All-tail IsFull (b ∷ first) more full) some)
    ∙ said_before (typed_in round (b ∷ first)) (events_typed round more) (if_said (typed_in round line) [])

told_more : (number : ℕ) (lines : List (List ℕ)) (line : List ℕ) → refusal_messages number (lines ++ line ∷ []) ≡ refusal_messages number lines ++ refusal_message (number + length lines) line
told_more number [] line = append-nil (refusal_message number line) ∙ ap (λ n. refusal_message n line) (omega arith)
told_more number (first ∷ more) line =
    let place : number + 1 + length more ≡ number + length (first ∷ more) = omega arith in
    ap (λ told. refusal_message number first ++ told) (told_more (number + 1) more line ∙ ap (λ n. refusal_messages (number + 1) more ++ refusal_message n line) place)
    ∙ sym (append_assoc (refusal_message number first) (refusal_messages (number + 1) more) (refusal_message (number + length (first ∷ more)) line))

-- One line more is given.
took_more : (E : Type 0) (lines : List (List ℕ)) (line : List ℕ) (before now after : Option (List (List ℕ))) → Took lines before now → (let r : Result (Option (List ℕ)) E = Ok (Some line) in Gives now after r) → Took (lines ++ line ∷ []) before after
took_more E lines line None None after took gives = gives
took_more E lines line None (Some x) after took gives = absurd cc
took_more E lines line (Some coming) None after (first, rest, is, same, now) gives = absurd cc
took_more E lines line (Some coming) (Some []) after (first, rest, is, same, now) gives = absurd gives
took_more E lines line (Some coming) (Some (next ∷ more)) after (first, rest, is, same, now) (given, left) =
    let others : rest ≡ next ∷ more = cc in (
      first ++ next ∷ [],
      more,
      is ∙ ap (λ xs. first ++ xs) others ∙ sym (append_assoc first (next ∷ []) more),
      ap (λ xs. xs ++ line ∷ []) same ∙ ap (λ x. map given_of first ++ x ∷ []) given ∙ sym (map-append given_of first (next ∷ [])),
      left,
    )

took_all : (E : Type 0) (lines : List (List ℕ)) (before now after : Option (List (List ℕ))) → Took lines before now → (let r : Result (Option (List ℕ)) E = Ok None in Gives now after r) → Took lines before after × IsOut after
took_all E lines None None after took gives = (gives, subst IsOut (sym gives) tt)
took_all E lines None (Some x) after took gives = absurd cc
took_all E lines (Some coming) None after (first, rest, is, same, now) gives = absurd cc
took_all E lines (Some coming) (Some []) after (first, rest, is, same, now) gives = ((first, rest, is, same, gives ∙ now), subst IsOut (sym gives) refl)
took_all E lines (Some coming) (Some (next ∷ more)) after (first, rest, is, same, now) gives = absurd gives

takes_more : {E : Type 0} (lines : List (List ℕ)) (line : List ℕ) (out : Seen) (before now after : Keys) → TookWell lines before now → (let r : Result (Option (List ℕ)) E = Ok (Some line) in Takes out now after r) → TookWell (lines ++ line ∷ []) before after
takes_more {E} lines line out before now after took takes = record {
  took = took_more E lines line before.coming now.coming after.coming took.took takes.gives;
  faults = takes.cause.kept ∙ took.faults;
}

takes_none : {E : Type 0} (lines : List (List ℕ)) (out : Seen) (before now after : Keys) → TookWell lines before now → (let r : Result (Option (List ℕ)) E = Ok None in Takes out now after r) → TookWell lines before after × IsOut after.coming
takes_none {E} lines out before now after took takes =
    let all : Took lines before.coming after.coming × IsOut after.coming = took_all E lines before.coming now.coming after.coming took.took takes.gives in
    (record { took = all.0; faults = takes.cause.kept ∙ took.faults }, all.1)

takes_fault : {E : Type 0} (lines : List (List ℕ)) (out : Seen) (before now after : Keys) (e : E) → TookWell lines before now → (let r : Result (Option (List ℕ)) E = Err e in Takes out now after r) → Took lines before.coming after.coming × Rose before.faults after.faults
takes_fault lines out before now after e took takes =
    (subst (Took lines before.coming) (sym takes.gives) took.took, subst (λ n. Rose n after.faults) took.faults takes.cause.failed)

-- The lines that were taken of a round that goes on, and their events.
pub record TypesSoFar (round : ℕ) (out : Seen) (before now : Count) (events : List Event) (keys keys' : Keys) (errors errors' : Seen) : Type 0 where
  pub lines : List (List ℕ)
  pub none_is_empty : All IsFull lines
  pub taken : TookWell lines keys keys'
  pub asked : AsksWhile (length lines) out keys keys'
  pub counts : now.lines ≡ before.lines + length lines
  pub events_are : events ≡ events_typed round lines
  pub told : ShowsUnlessMarked before.is_cut now.is_cut errors errors' (refusal_messages (before.lines + 1) lines)

no_line : (keys : Option (List (List ℕ))) → Took [] keys keys
no_line None = refl
no_line (Some coming) = ([], coming, refl, refl, refl)

pub begins : (round : ℕ) (out : Seen) (before : Count) (keys : Keys) (errors : Seen) → TypesSoFar round out before before [] keys keys errors errors
begins round out before keys errors = record {
  lines = [];
  none_is_empty = All-nil IsFull;
  taken = record { took = no_line keys.coming; faults = refl };
  asked = none_asked out keys;
  counts = omega arith;
  events_are = refl;
  told = tells_none before.is_cut errors;
}

-- a line that isn't empty was taken
pub goes_on : {E : Type 0} (round : ℕ) (out : Seen) (before now after : Count) (events more : List Event) (line : List ℕ) (keys keys1 keys2 : Keys) (errors errors1 errors2 : Seen) →
    TypesSoFar round out before now events keys keys1 errors errors1 → IsFull line → (let r : Result (Option (List ℕ)) E = Ok (Some line) in Takes out keys1 keys2 r) →
    more ≡ events ++ if_said (typed_in round line) [] → ShowsUnlessMarked now.is_cut after.is_cut errors1 errors2 (refusal_message (now.lines + 1) line) → after.lines ≡ now.lines + 1 →
    TypesSoFar round out before after more keys keys2 errors errors2
goes_on {E} round out before now after events more line keys keys1 keys2 errors errors1 errors2 far full takes said tells counts =
    let number : now.lines + 1 ≡ before.lines + 1 + length far.lines = omega (arith, far.counts) in
    let long : length (far.lines ++ line ∷ []) ≡ length far.lines + 1 = length-append far.lines (line ∷ []) in
    record {
      lines = far.lines ++ line ∷ [];
      none_is_empty = All-push IsFull far.lines line far.none_is_empty full;
      taken = takes_more {E = E} far.lines line out keys keys1 keys2 far.taken takes;
      asked = subst (λ n. AsksWhile n out keys keys2) (sym long) (one_asked (length far.lines) out keys keys1 keys2 far.asked takes.noted);
      counts = omega (arith, counts, far.counts, long);
      events_are = said ∙ ap (λ es. es ++ if_said (typed_in round line) []) far.events_are ∙ sym (events_more round far.lines line far.none_is_empty full);
      told =
          subst (ShowsUnlessMarked before.is_cut after.is_cut errors errors2) (sym (told_more (before.lines + 1) far.lines line))
          (tells_both before.is_cut now.is_cut after.is_cut errors errors1 errors2 (refusal_messages (before.lines + 1) far.lines) (refusal_message (before.lines + 1 + length far.lines) line) far.told
          (subst (λ n. ShowsUnlessMarked now.is_cut after.is_cut errors1 errors2 (refusal_message n line)) number tells));
    }

pub far_each : {round : ℕ} {out : Seen} {before now : Count} {events : List Event} {keys keys1 : Keys} {errors errors1 : Seen} → TypesSoFar round out before now events keys keys1 errors errors1 → 1 ≤ round → round ≤ 1000000 → All IsEvent events
far_each {round} {events = events} far from to = All-same IsEvent events (events_typed round far.lines) far.events_are (each_is round far.lines from to far.none_is_empty)

pub far_of : {round : ℕ} {out : Seen} {before now : Count} {events : List Event} {keys keys1 : Keys} {errors errors1 : Seen} → TypesSoFar round out before now events keys keys1 errors errors1 → 1 ≤ round → round ≤ 1000000 → AreOf round events
far_of {round} {events = events} far from to = All-same (λ e. e.round ≡ round) events (events_typed round far.lines) far.events_are (each_of round far.lines from to far.none_is_empty)

-- How a round ends after such lines.
abbrev pub desk : Keys → Keys → Seen → Seen → Operator
desk keys keys' errors errors' = record { keys = keys; keys' = keys'; errors = errors; errors' = errors' }

-- an empty line was taken
pub is_ended : {E : Type 0} (round : ℕ) (out : Seen) (before now after : Count) (typed : TypedRound) (line : List ℕ) (keys keys1 keys2 : Keys) (errors errors1 errors2 : Seen) →
    TypesSoFar round out before now typed.events.items keys keys1 errors errors1 → now.lines < 2 ^ 32 - 1 → line ≡ [] → (let r : Result (Option (List ℕ)) E = Ok (Some line) in Takes out keys1 keys2 r) →
    after.lines ≡ now.lines + 1 → after.is_cut ≡ now.is_cut → errors2 ≡ errors1 → typed.typing ≡ GoesOn → TypesRound round out before after typed (desk keys keys2 errors errors2)
is_ended {E} round out before now after typed line keys keys1 keys2 errors errors1 errors2 far low empty takes counts cut same typing =
    let all : TookWell (far.lines ++ line ∷ []) keys keys2 = takes_more {E = E} far.lines line out keys keys1 keys2 far.taken takes in
    record {
      lines = far.lines;
      none_is_empty = far.none_is_empty;
      taken = subst (λ t. EndsTypedRound t (before.lines + length far.lines) far.lines keys keys2) (sym typing) (subst (λ l. TookWell (far.lines ++ l ∷ []) keys keys2) empty all);
      counts = λ _. (omega (arith, counts, far.counts), omega (arith, counts, low));
      asks = length far.lines + 1;
      asked = one_asked (length far.lines) out keys keys1 keys2 far.asked takes.noted;
      asks_are = omega (arith, far.counts, low);
      events = far.events_are;
      told = subst (λ b. ShowsUnlessMarked before.is_cut b errors errors2 (refusal_messages (before.lines + 1) far.lines)) (sym cut) (subst (λ s. ShowsUnlessMarked before.is_cut now.is_cut errors s (refusal_messages (before.lines + 1) far.lines)) (sym same) far.told);
    }

-- no more lines come
pub is_over : {E : Type 0} (round : ℕ) (out : Seen) (before now : Count) (typed : TypedRound) (keys keys1 keys2 : Keys) (errors errors1 : Seen) →
    TypesSoFar round out before now typed.events.items keys keys1 errors errors1 → now.lines < 2 ^ 32 - 1 → (let r : Result (Option (List ℕ)) E = Ok None in Takes out keys1 keys2 r) → typed.typing ≡ Over →
    TypesRound round out before now typed (desk keys keys2 errors errors1)
is_over {E} round out before now typed keys keys1 keys2 errors errors1 far low takes typing = record {
  lines = far.lines;
  none_is_empty = far.none_is_empty;
  taken = subst (λ t. EndsTypedRound t (before.lines + length far.lines) far.lines keys keys2) (sym typing) (takes_none {E = E} far.lines out keys keys1 keys2 far.taken takes);
  counts = λ goes. absurd cc;
  asks = length far.lines + 1;
  asked = one_asked (length far.lines) out keys keys1 keys2 far.asked takes.noted;
  asks_are = omega (arith, far.counts, low);
  events = far.events_are;
  told = far.told;
}

broken_ends : Broken ≡ GoesOn → ⊥
broken_ends e = absurd cc

lost_ends : Lost ≡ GoesOn → ⊥
lost_ends e = absurd cc

-- it ends so, and nothing more is reported
ends_so : (t : Typing) → (t ≡ GoesOn → ⊥) → (round : ℕ) (out : Seen) (before now after : Count) (typed : TypedRound) (keys keys1 keys2 : Keys) (errors errors1 errors2 : Seen) →
    (far : TypesSoFar round out before now typed.events.items keys keys1 errors errors1) → (asks : ℕ) → AsksWhile asks out keys keys2 → before.lines + asks ≡ min (before.lines + length far.lines + 1) (2 ^ 32 - 1) → EndsTypedRound t (before.lines + length far.lines) far.lines keys keys2 → after.is_cut ≡ now.is_cut → errors2 ≡ errors1 → typed.typing ≡ t →
    TypesRound round out before after typed (desk keys keys2 errors errors2)
ends_so t stays round out before now after typed keys keys1 keys2 errors errors1 errors2 far asks asked counts ends cut same typing = record {
  lines = far.lines;
  none_is_empty = far.none_is_empty;
  taken = subst (λ u. EndsTypedRound u (before.lines + length far.lines) far.lines keys keys2) (sym typing) ends;
  counts = λ goes. absurd (stays (sym typing ∙ goes));
  asks = asks;
  asked = asked;
  asks_are = counts;
  events = far.events_are;
  told = subst (λ b. ShowsUnlessMarked before.is_cut b errors errors2 (refusal_messages (before.lines + 1) far.lines)) (sym cut) (subst (λ s. ShowsUnlessMarked before.is_cut now.is_cut errors s (refusal_messages (before.lines + 1) far.lines)) (sym same) far.told);
}

-- the keyboard failed
pub is_failed : {E : Type 0} (round : ℕ) (out : Seen) (before now : Count) (typed : TypedRound) (keys keys1 keys2 : Keys) (errors errors1 : Seen) (e : E) →
    TypesSoFar round out before now typed.events.items keys keys1 errors errors1 → now.lines < 2 ^ 32 - 1 → (let r : Result (Option (List ℕ)) E = Err e in Takes out keys1 keys2 r) → typed.typing ≡ Broken →
    TypesRound round out before now typed (desk keys keys2 errors errors1)
is_failed {E} round out before now typed keys keys1 keys2 errors errors1 e far low takes typing =
    ends_so Broken broken_ends round out before now now typed keys keys1 keys2 errors errors1 errors1 far (length far.lines + 1) (one_asked (length far.lines) out keys keys1 keys2 far.asked takes.noted) (omega (arith, far.counts, low))
    (inl (takes_fault {E = E} far.lines out keys keys1 keys2 e far.taken takes)) refl refl typing

-- no more lines are counted
pub is_counted : (round : ℕ) (out : Seen) (before now : Count) (typed : TypedRound) (keys keys1 : Keys) (errors errors1 : Seen) →
    TypesSoFar round out before now typed.events.items keys keys1 errors errors1 → now.lines ≡ 2 ^ 32 - 1 → typed.typing ≡ Broken → TypesRound round out before now typed (desk keys keys1 errors errors1)
is_counted round out before now typed keys keys1 errors errors1 far last typing =
    ends_so Broken broken_ends round out before now now typed keys keys1 keys1 errors errors1 errors1 far (length far.lines) far.asked (omega (arith, far.counts, last)) (inr (far.taken, sym far.counts ∙ last)) refl refl typing

-- memory ran out for a line that says an event
pub is_lost : {E : Type 0} (round : ℕ) (out : Seen) (before now after : Count) (typed : TypedRound) (line : List ℕ) (keys keys1 keys2 : Keys) (errors errors1 errors2 : Seen) →
    TypesSoFar round out before now typed.events.items keys keys1 errors errors1 → now.lines < 2 ^ 32 - 1 → says_event line ≡ true → (let r : Result (Option (List ℕ)) E = Ok (Some line) in Takes out keys1 keys2 r) →
    after.is_cut ≡ now.is_cut → errors2 ≡ errors1 → typed.typing ≡ Lost → TypesRound round out before after typed (desk keys keys2 errors errors2)
is_lost {E} round out before now after typed line keys keys1 keys2 errors errors1 errors2 far low says takes cut same typing =
    ends_so Lost lost_ends round out before now after typed keys keys1 keys2 errors errors1 errors2 far (length far.lines + 1) (one_asked (length far.lines) out keys keys1 keys2 far.asked takes.noted) (omega (arith, far.counts, low))
    (line, says, takes_more {E = E} far.lines line out keys keys1 keys2 far.taken takes) cut same typing
