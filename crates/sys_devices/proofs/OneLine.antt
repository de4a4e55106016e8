-- One of several lines that is put on.
use Rattle.std.proofs.Common.{ℕ, zero, suc, ◌≡◌, ◌<◌, List, [], ◌∷◌, ◌++◌, length, slice_set, slice_index_or, refl, sym, ◌∙◌, ap, subst, arith, append-nil, Bool, true, false, Result, is_err}
use Rattle.std.proofs.lemmas.List.{set-get_or}
use Rattle.std.proofs.lemmas.Grind.{common_steps}
use Rattle.vv_io.specs.Lines.{Seen, PutsOn, unseen}
use Rattle.sys_devices.proofs.Puts.{IsBut, begun, ends, goes_on, shows, shows_nothing, stops}
use Rattle.sys_devices.specs.ShownSince.{ShownSince, ShownSinceOn}

set_twice : (xs : List Seen) (k : ℕ) (a b : Seen) → slice_set (slice_set xs k a) k b ≡ slice_set xs k b
set_twice [] k a b = refl
set_twice (x ∷ xs) zero a b = refl
set_twice (x ∷ xs) (suc k) a b = ap (λ ys. x ∷ ys) (set_twice xs k a b)

read_set : (xs : List Seen) (k : ℕ) (a : Seen) → k < length xs → slice_index_or (slice_set xs k a) k unseen ≡ a
read_set xs k a h = grind (arith, common_steps)

-- one put on one of several lines
pub put_once : {U E : Type 0} (lines : List Seen) (k : ℕ) (after : List Seen) (bytes : List ℕ) (r : Result U E) → k < length lines → PutsOn k lines after bytes r → ShownSinceOn k (is_err r) lines after bytes
put_once lines k after bytes r inside (line, put, puts) = (line, put, inside, shows (slice_index_or lines k unseen) line bytes r puts)

-- nothing is shown yet
pub nothing_shown : (lines : List Seen) (k : ℕ) → k < length lines → ShownSinceOn k false lines lines []
nothing_shown lines k inside = (slice_index_or lines k unseen, sym (set-get_or lines k unseen), inside, shows_nothing (slice_index_or lines k unseen))

-- Since a start all of a text is shown on line k but for a rest; every other line is as at the start.
abbrev pub IsButOn : ℕ → List Seen → List Seen → List ℕ → List ℕ → Type 0
IsButOn k start now rest whole = (line : Seen) × (now ≡ slice_set start k line) × (k < length start) × IsBut (slice_index_or start k unseen) line rest whole

pub begun_on : (k : ℕ) (start : List Seen) (whole : List ℕ) → k < length start → IsButOn k start start whole whole
begun_on k start whole inside = (slice_index_or start k unseen, sym (set-get_or start k unseen), inside, begun (slice_index_or start k unseen) whole)

set_again : (k : ℕ) (start now after : List Seen) (line next : Seen) → now ≡ slice_set start k line → after ≡ slice_set now k next → after ≡ slice_set start k next
set_again k start now after line next is put = put ∙ ap (λ xs. slice_set xs k next) is ∙ set_twice start k line next

shown_from : (k : ℕ) (failed : Bool) (start now : List Seen) (line next : Seen) (bytes : List ℕ) → now ≡ slice_set start k line → k < length start → ShownSince failed (slice_index_or now k unseen) next bytes → ShownSince failed line next bytes
shown_from k failed start now line next bytes is inside shown = subst (λ s. ShownSince failed s next bytes) (ap (λ xs. slice_index_or xs k unseen) is ∙ read_set start k line inside) shown

pub goes_on_there : (k : ℕ) (start now after : List Seen) (rest more left whole : List ℕ) → rest ≡ more ++ left → IsButOn k start now rest whole → ShownSinceOn k false now after more → IsButOn k start after left whole
goes_on_there k start now after rest more left whole parts (line, is, inside, before) (next, put, within, shown) =
    (next, set_again k start now after line next is put, inside, goes_on (slice_index_or start k unseen) line next rest more left whole parts before (shown_from k false start now line next more is inside shown))

pub ends_there : (k : ℕ) (failed : Bool) (start now after : List Seen) (rest whole : List ℕ) → IsButOn k start now rest whole → ShownSinceOn k failed now after rest → ShownSinceOn k failed start after whole
ends_there k failed start now after rest whole (line, is, inside, before) (next, put, within, shown) =
    (next, set_again k start now after line next is put, inside, ends failed (slice_index_or start k unseen) line next rest whole before (shown_from k failed start now line next rest is inside shown))

pub stops_there : (k : ℕ) (failed : Bool) (start now after : List Seen) (rest more left whole : List ℕ) → failed ≡ true → rest ≡ more ++ left → IsButOn k start now rest whole → ShownSinceOn k true now after more → ShownSinceOn k failed start after whole
stops_there k failed start now after rest more left whole fault parts (line, is, inside, before) (next, put, within, shown) =
    (next, set_again k start now after line next is put, inside, stops failed (slice_index_or start k unseen) line next rest more left whole fault parts before (shown_from k true start now line next more is inside shown))

-- nothing is left
pub whole_there : (k : ℕ) (start now : List Seen) (rest whole : List ℕ) → rest ≡ [] → IsButOn k start now rest whole → ShownSinceOn k false start now whole
whole_there k start now rest whole none (line, is, inside, before) =
    (line, is, inside, subst (ShownSince false (slice_index_or start k unseen) line) (sym (append-nil before.text) ∙ ap (λ (xs : List ℕ). before.text ++ xs) (sym none) ∙ before.is) before.shows)
