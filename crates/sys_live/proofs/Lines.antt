-- Lines that were typed, and lines typed after them.
use Rattle.std.proofs.Common.{ℕ, ◌≡◌, ◌≢◌, ◌+◌, ◌⊎◌, List, [], ◌∷◌, ◌++◌, length, refl, sym, ◌∙◌, ap, subst, arith, append_assoc, append-nil, length-append, All, Bool, true, false, ◌||◌, Result, Ok, Err, Option, Some, None, inl, inr}
use Rattle.std.proofs.lemmas.List.{map-append}
use Rattle.std.proofs.lemmas.List.Elements.{All-head, All-tail}
use Rattle.std.specs.Result.{is_ok}
use Rattle.vv_io.specs.Causes.{Rose}
use Rattle.vv_io.specs.Keys.{Keys, Took, given_of}
use Rattle.vv_io.specs.Lines.{Seen}
use Rattle.sys_devices.proofs.Puts.{joined, still}
use Rattle.sys_devices.specs.ShownSince.{ShownSince}
use Rattle.sys_devices.specs.Shows.{ShowsUnlessMarked}
use Rattle.sys_script.proofs.TypedLines.{says_in_each}
use Rattle.sys_script.specs.Typed.{events_typed, if_said, refusal_message, refusal_messages, rounds_ended, rounds_typed, says_event, typed_in}
use Rattle.sys_script.specs.declared.event.Event.{Event}
use Rattle.sys_script.specs.declared.event.ScriptKind.{ScriptKind}
use Rattle.sys_live.specs.Typing.{BreaksOff, EndsWithEmptyLine, LosesLine, TookWell}

abbrev pub Texts : Type 0
Texts = List (List ℕ)

-- none of them is empty
abbrev pub NoneIsEmpty : Texts → Type 0
NoneIsEmpty lines = All (λ line. line ≢ []) lines

if_said_append : (said : Result Event ScriptKind) (xs ys : List Event) → if_said said (xs ++ ys) ≡ if_said said xs ++ ys
if_said_append (Ok event) xs ys = refl
if_said_append (Err kind) xs ys = refl

-- the events of more lines come after those of the first
pub events_append : (r : ℕ) (xs ys : Texts) → events_typed r (xs ++ ys) ≡ events_typed r xs ++ events_typed (r + rounds_ended xs) ys
events_append r [] ys = let same : r ≡ r + 0 = omega arith in ap (λ k. events_typed k ys) same
events_append r ([] ∷ xs) ys =
    let same : (r + 1) + rounds_ended xs ≡ r + (1 + rounds_ended xs) = omega arith in
    events_append (r + 1) xs ys ∙ ap (λ k. events_typed (r + 1) xs ++ events_typed k ys) same
events_append r ((b ∷ line) ∷ xs) ys =
    ap (if_said (typed_in r (b ∷ line))) (events_append r xs ys) ∙ if_said_append (typed_in r (b ∷ line)) (events_typed r xs) (events_typed (r + rounds_ended xs) ys)

-- an empty line says none
pub events_ended : (r : ℕ) (xs : Texts) → events_typed r (xs ++ [] ∷ []) ≡ events_typed r xs
events_ended r xs = events_append r xs ([] ∷ []) ∙ append-nil (events_typed r xs)

pub ended_append : (xs ys : Texts) → rounds_ended (xs ++ ys) ≡ rounds_ended xs + rounds_ended ys
ended_append [] ys = omega arith
ended_append ([] ∷ xs) ys = omega (arith, ended_append xs ys)
ended_append ((b ∷ line) ∷ xs) ys = ended_append xs ys

pub none_ended : (xs : Texts) → NoneIsEmpty xs → rounds_ended xs ≡ 0
none_ended [] none = refl
none_ended ([] ∷ xs) none = absurd (All-head (λ (line : List ℕ). line ≢ []) [] xs none refl)
none_ended ((b ∷ line) ∷ xs) none = none_ended xs (All-tail (λ (line : List ℕ). line ≢ []) (b ∷ line) xs none)

pub told_append : (n : ℕ) (xs ys : Texts) → refusal_messages n (xs ++ ys) ≡ refusal_messages n xs ++ refusal_messages (n + length xs) ys
told_append n [] ys = let same : n ≡ n + 0 = omega arith in ap (λ k. refusal_messages k ys) same
told_append n (line ∷ xs) ys =
    let same : (n + 1) + length xs ≡ n + length (line ∷ xs) = omega arith in
    ap (λ bytes. refusal_message n line ++ bytes) (told_append (n + 1) xs ys ∙ ap (λ k. refusal_messages (n + 1) xs ++ refusal_messages k ys) same)
    ∙ sym (append_assoc (refusal_message n line) (refusal_messages (n + 1) xs) (refusal_messages (n + length (line ∷ xs)) ys))

-- nothing is reported of an empty line
pub told_ended : (n : ℕ) (xs : Texts) → refusal_messages n (xs ++ [] ∷ []) ≡ refusal_messages n xs
told_ended n xs = told_append n xs ([] ∷ []) ∙ append-nil (refusal_messages n xs)

-- whether a line says an event is the same in all rounds
-- lines of one round begin it where they say an event
pub begun_typed : (xs : Texts) → NoneIsEmpty xs → rounds_typed true xs ≡ 1
begun_typed [] none = refl
begun_typed ([] ∷ xs) none = absurd (All-head (λ (line : List ℕ). line ≢ []) [] xs none refl)
begun_typed ((b ∷ line) ∷ xs) none = begun_typed xs (All-tail (λ (line : List ℕ). line ≢ []) (b ∷ line) xs none)

first_said : (r : ℕ) (b : ℕ) (line : List ℕ) (xs : Texts) (said : Result Event ScriptKind) → typed_in r (b ∷ line) ≡ said → NoneIsEmpty xs → (events_typed r xs ≡ [] → rounds_typed false xs ≡ 0) → if_said said (events_typed r xs) ≡ [] → rounds_typed (is_ok (typed_in 1 (b ∷ line))) xs ≡ 0
first_said r b line xs (Ok event) is none rest nothing = cc
first_said r b line xs (Err kind) is none rest nothing =
    let no : is_ok (typed_in 1 (b ∷ line)) ≡ false = sym (says_in_each r (b ∷ line)) ∙ ap is_ok is in
    rw no (rest nothing)

pub none_typed : (r : ℕ) (xs : Texts) → NoneIsEmpty xs → events_typed r xs ≡ [] → rounds_typed false xs ≡ 0
none_typed r [] none nothing = refl
none_typed r ([] ∷ xs) none nothing = absurd (All-head (λ (line : List ℕ). line ≢ []) [] xs none refl)
none_typed r ((b ∷ line) ∷ xs) none nothing =
    let later : NoneIsEmpty xs = All-tail (λ (line : List ℕ). line ≢ []) (b ∷ line) xs none in
    first_said r b line xs (typed_in r (b ∷ line)) refl later (none_typed r xs later) nothing

some_said : (r : ℕ) (b : ℕ) (line : List ℕ) (xs : Texts) (said : Result Event ScriptKind) → typed_in r (b ∷ line) ≡ said → NoneIsEmpty xs → (events_typed r xs ≢ [] → rounds_typed false xs ≡ 1) → if_said said (events_typed r xs) ≢ [] → rounds_typed (is_ok (typed_in 1 (b ∷ line))) xs ≡ 1
some_said r b line xs (Ok event) is none rest some =
    let says : is_ok (typed_in 1 (b ∷ line)) ≡ true = sym (says_in_each r (b ∷ line)) ∙ ap is_ok is in
    rw says (begun_typed xs none)
some_said r b line xs (Err kind) is none rest some =
    let no : is_ok (typed_in 1 (b ∷ line)) ≡ false = sym (says_in_each r (b ∷ line)) ∙ ap is_ok is in
    rw no (rest some)

pub some_typed : (r : ℕ) (xs : Texts) → NoneIsEmpty xs → events_typed r xs ≢ [] → rounds_typed false xs ≡ 1
some_typed r [] none some = absurd (some refl)
some_typed r ([] ∷ xs) none some = absurd (All-head (λ (line : List ℕ). line ≢ []) [] xs none refl)
some_typed r ((b ∷ line) ∷ xs) none some =
    let later : NoneIsEmpty xs = All-tail (λ (line : List ℕ). line ≢ []) (b ∷ line) xs none in
    some_said r b line xs (typed_in r (b ∷ line)) refl later (some_typed r xs later) some

-- lines that end their rounds; or no line yet
abbrev pub AreWhole : Texts → Type 0
AreWhole xs = EndsWithEmptyLine xs ⊎ (xs ≡ [])

after_end : (is_begun : Bool) (before ys : Texts) → rounds_typed is_begun ((before ++ [] ∷ []) ++ ys) ≡ rounds_ended (before ++ [] ∷ []) + rounds_typed false ys
after_end is_begun [] ys = omega arith
after_end is_begun ([] ∷ before) ys = omega (arith, after_end false before ys)
after_end is_begun ((b ∷ line) ∷ before) ys = after_end (is_begun || says_event (b ∷ line)) before ys

pub rounds_append : (xs ys : Texts) → AreWhole xs → rounds_typed false (xs ++ ys) ≡ rounds_ended xs + rounds_typed false ys
rounds_append xs ys (inl (before, is)) =
    ap (λ zs. rounds_typed false (zs ++ ys)) is ∙ after_end false before ys ∙ ap (λ zs. rounds_ended zs + rounds_typed false ys) (sym is)
rounds_append xs ys (inr is) =
    let none : rounds_typed false ys ≡ 0 + rounds_typed false ys = omega arith in
    ap (λ zs. rounds_typed false (zs ++ ys)) is ∙ none ∙ ap (λ zs. rounds_ended zs + rounds_typed false ys) (sym is)

-- lines were taken, and more
took_then : (xs ys : Texts) (a b c : Option Texts) → Took xs a b → Took ys b c → Took (xs ++ ys) a c
took_then xs ys None b c first second = subst (λ (o : Option Texts). Took ys o c) first second
took_then xs ys (Some coming) b c (front, rest, is, gave, left) second =
    let (next, last, parts, given, end) = subst (λ (o : Option Texts). Took ys o c) left second in
    (front ++ next, last, is ∙ ap (λ zs. front ++ zs) parts ∙ sym (append_assoc front next last), (λ i. gave i ++ given i) ∙ sym (map-append given_of front next), end)

pub took_well : (xs ys : Texts) (a b c : Keys) → TookWell xs a b → TookWell ys b c → TookWell (xs ++ ys) a c
took_well xs ys a b c first second = record { took = took_then xs ys a.coming b.coming c.coming first.took second.took; faults = second.faults ∙ first.faults }

pub broke_off : (xs ys : Texts) (a b c : Keys) → TookWell xs a b → BreaksOff (length xs + length ys) ys b c → BreaksOff (length (xs ++ ys)) (xs ++ ys) a c
broke_off xs ys a b c first (inl (took, rose)) = inl (took_then xs ys a.coming b.coming c.coming first.took took, subst (λ n. Rose n c.faults) first.faults rose)
broke_off xs ys a b c first (inr (took, most)) = inr (took_well xs ys a b c first took, length-append xs ys ∙ most)

pub lost_line : (xs ys : Texts) (a b c : Keys) → TookWell xs a b → LosesLine ys b c → LosesLine (xs ++ ys) a c
lost_line xs ys a b c first (lost, says, took) = (lost, says, subst (λ zs. TookWell zs a c) (sym (append_assoc xs ys (lost ∷ []))) (took_well xs (ys ++ lost ∷ []) a b c first took))

-- more is reported
pub told_then : (a b : Bool) (l m n : Seen) (x y : List ℕ) → ShownSince a l m x → ShowsUnlessMarked a b m n y → ShownSince b l n (x ++ y)
told_then true b l m n x y first (cut, same) = subst (λ v. ShownSince v l n (x ++ y)) (sym cut) (subst (λ s. ShownSince true l s (x ++ y)) (sym same) (still l m x y first))
told_then false b l m n x y first second = joined b l m n x y first second
