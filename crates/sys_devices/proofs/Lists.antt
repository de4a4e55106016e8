-- Look-ups that go along a list.
use Rattle.std.proofs.Common.{ℕ, suc, ◌≡◌, ◌<◌, ◌+◌, List, ◌∷◌, length, drop, slice_index_or, refl, sym, ◌∙◌, ap, arith, Bool, true, false, if◌then◌else◌, Option, Some, None, option_map, add-one, drop-cons}
use Rattle.sys_state.specs.Places.{place_of}

-- what begins at a place
pub from_place : {X : Type 0} (xs : List X) (k : ℕ) (x : X) → k < length xs → x ≡ slice_index_or xs k x → drop k xs ≡ x ∷ drop (k + 1) xs
from_place xs k x h read = rw add-one (drop-cons xs k x h ∙ ap (λ y. y ∷ drop (suc k) xs) (sym read))

-- the place of the first that passes, from a place on
abbrev pub from_on : {X : Type 0} → (X → Bool) → List X → ℕ → Option ℕ
from_on p xs k = option_map (λ n. k + n) (place_of p (drop k xs))

further : (k : ℕ) (o : Option ℕ) → option_map (λ n. k + n) (option_map suc o) ≡ option_map (λ n. (k + 1) + n) o
further k None = refl
further k (Some n) = let e : k + suc n ≡ (k + 1) + n = omega arith in ap Some e

pub found_here : {X : Type 0} (p : X → Bool) (xs : List X) (k : ℕ) (x : X) → k < length xs → x ≡ slice_index_or xs k x → p x ≡ true → from_on p xs k ≡ Some k
found_here p xs k x h read is =
    let rest : Option ℕ = option_map suc (place_of p (drop (k + 1) xs)) in
    ap (λ ys. option_map (λ n. k + n) (place_of p ys)) (from_place xs k x h read) ∙ ap (λ b. option_map (λ n. k + n) (if b then Some 0 else rest)) is ∙ (let e : k + 0 ≡ k = omega arith in ap Some e)

pub found_later : {X : Type 0} (p : X → Bool) (xs : List X) (k : ℕ) (x : X) → k < length xs → x ≡ slice_index_or xs k x → p x ≡ false → from_on p xs k ≡ from_on p xs (k + 1)
found_later p xs k x h read is =
    let rest : Option ℕ = option_map suc (place_of p (drop (k + 1) xs)) in
    ap (λ ys. option_map (λ n. k + n) (place_of p ys)) (from_place xs k x h read) ∙ ap (λ b. option_map (λ n. k + n) (if b then Some 0 else rest)) is ∙ further k (place_of p (drop (k + 1) xs))

-- from the first place on it is the whole
pub from_first : {X : Type 0} (p : X → Bool) (xs : List X) → from_on p xs 0 ≡ place_of p xs
from_first p xs = same (place_of p xs)
  where
    same : (o : Option ℕ) → option_map (λ n. 0 + n) o ≡ o
    same None = refl
    same (Some n) = let e : 0 + n ≡ n = omega arith in ap Some e
