-- A keyboard in memory, and what is read back of a line.
use Rattle.std.proofs.Common.{ℕ, suc, ◌≡◌, ◌<◌, ◌≤◌, ◌+◌, ◌-◌, List, [], ◌∷◌, ◌++◌, length, map, take, drop, min, get_or, false, refl, sym, ◌∙◌, ap, add-one, arith}
use Rattle.std.specs.declared.option.Option.TheVariants.{Some}
use Rattle.std.specs.declared.result.Result.TheVariants.{Ok}
use Rattle.std.proofs.lemmas.List.{drop-map, map-append, drop_min, take_all, take_min, length-take, length-drop, take-append-le}
use Rattle.std.proofs.Math.Seq.{drop-cons}
use Rattle.vv_io.specs.Causes.{saturated_successor}
use Rattle.vv_io.specs.Keys.{Takes, given_of}
use Rattle.vv_io.specs.Lines.{ReadsBack, Seen}
use Rattle.vv_io.specs.Memory.{MemoryKeyboard, after_next, is_next_named, keys_of}

-- the next of the lines
pub next_of : {V : Type 0} (f : V → List ℕ) (lines : List V) (given : ℕ) (line : V) → given < length lines → line ≡ get_or lines given line → drop given (map f lines) ≡ f line ∷ drop (given + 1) (map f lines)
next_of f lines given line within read =
    let rest : drop (given + 1) (map f lines) ≡ map f (drop (suc given) lines) = rw add-one (drop-map f (suc given) lines) in
    let front : map f (drop given lines) ≡ f (get_or lines given line) ∷ map f (drop (suc given) lines) = ap (map f) (drop-cons lines given line within) in
    let same : f (get_or lines given line) ≡ f line = ap f (sym read) in
    drop-map f given lines ∙ front ∙ cc

-- the keyboard after a call that gave a line
pub after_line : (coming rest : List (List ℕ)) (line failing : List ℕ) (calls calls' faults : ℕ) (outputs outputs' : List Seen) (out : Seen) (now : MemoryKeyboard)
    → record { coming = coming; failing = failing; calls = calls; faults = faults; outputs = outputs } ≡ now → coming ≡ line ∷ rest → calls' ≡ saturated_successor calls → is_next_named failing calls ≡ false → outputs' ≡ outputs ++ out ∷ []
    → record { coming = rest; failing = failing; calls = calls'; faults = faults; outputs = outputs' } ≡ after_next out now
after_line coming rest line failing calls calls' faults outputs outputs' out now same next counts passes noted = rw (← same, next, counts, passes, noted) refl

-- what such a call says
pub takes_line : {E : Type 0} (coming rest : List (List ℕ)) (line given failing : List ℕ) (calls faults : ℕ) (outputs outputs' : List Seen) (out : Seen) (now : MemoryKeyboard)
    → record { coming = coming; failing = failing; calls = calls; faults = faults; outputs = outputs } ≡ now → coming ≡ line ∷ rest → given ≡ given_of line → outputs' ≡ outputs ++ out ∷ []
    → Takes {E = E} out (keys_of now) (record { coming = Some rest; faults = faults; outputs = outputs' }) (Ok (Some given))
takes_line coming rest line given failing calls faults outputs outputs' out now same next front noted = rw (← same, next) (record { gives = (front, refl); cause = record { later = omega arith; kept = refl; failed = tt }; noted = noted })

-- one value more was noted
pub noted_more : {V : Type 0} (f : V → Seen) (before after : List V) (value : V) → after ≡ before ++ value ∷ [] → map f after ≡ map f before ++ f value ∷ []
noted_more f before after value noted = ap (map f) noted ∙ map-append f before (value ∷ [])

-- the first bytes of a line, put into an empty text
pub first_of : (begun new line : List ℕ) (n : ℕ) → begun ≡ [] → n ≡ min (length line) 1024 → new ≡ begun ++ take n line → new ≡ given_of line
first_of begun new line n empty counts put =
    let same : n ≡ min 1024 (length line) = omega arith in
    put ∙ ap (λ (b : List ℕ). b ++ take n line) empty ∙ ap (λ (k : ℕ). take k line) same ∙ take_min 1024 line

-- bytes copied from a place on
pub copied : (shown rest new tail : List ℕ) (from place n : ℕ) → from ≡ min place (length shown) → rest ≡ take (length shown - from) (drop from shown) → n ≡ min (length rest) 512 → new ≡ take n rest → ReadsBack (Some shown) place (new ++ tail) n
copied shown rest new tail from place n begins reads counts copies =
    let dropped : drop from shown ≡ drop place shown = ap (λ (k : ℕ). drop k shown) begins ∙ drop_min place shown in
    let whole : rest ≡ drop place shown = reads ∙ take_all _ _ (omega (arith, length-drop from shown)) ∙ dropped in
    let within : n ≤ 512 = omega arith in
    let long : length new ≡ n = ap length copies ∙ length-take n rest ∙ omega arith in
    let front : take n (new ++ tail) ≡ new = take-append-le n new tail (omega arith) ∙ take_all n new (omega arith) in
    let same : n ≡ min 512 (length rest) = omega arith in
    (within, front ∙ copies ∙ ap (λ (k : ℕ). take k rest) same ∙ take_min 512 rest ∙ ap (take 512) whole)
