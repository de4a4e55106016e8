-- Elements by their places, and a list of which one element changes.
use Rattle.std.proofs.Common.{◌≡◌, ℕ, zero, suc, ◌+◌, ◌<◌, List, [], ◌∷◌, ◌++◌, length, drop, take, slice_index_or, Option, Some, refl, ap, arith}
use Rattle.std.specs.List.{slice_get}
use Rattle.sys_guests.proofs.Lists.{none_some}
use Rattle.sys_state.specs.Places.{changed}

same_there : {X : Type 0} (x y : X) → (let o : Option X = Some x in o ≡ Some y) → x ≡ y
same_there x y e = cc

-- what begins at a place
pub from_here : {X : Type 0} (xs : List X) (i : ℕ) (x : X) → slice_get xs i ≡ Some x → drop i xs ≡ x ∷ drop (i + 1) xs
from_here [] i x e = absurd (none_some x e)
from_here (y ∷ xs) zero x e = ap (λ z. z ∷ xs) (same_there y x e)
from_here (y ∷ xs) (suc i) x e = let n : suc i + 1 ≡ suc (i + 1) = omega arith in rw n (from_here xs i x e)

-- a front of a list has the same elements
pub got_in_front : {X : Type 0} (n : ℕ) (xs : List X) (i : ℕ) (x : X) → i < n → slice_get xs i ≡ Some x → slice_get (take n xs) i ≡ Some x
got_in_front zero xs i x h e = absurd (omega (arith, h))
got_in_front (suc n) [] i x h e = absurd (none_some x e)
got_in_front (suc n) (y ∷ xs) zero x h e = e
got_in_front (suc n) (y ∷ xs) (suc i) x h e = got_in_front n xs i x (omega (arith, h)) e

pub changed_long : {X : Type 0} (f : X → X) (xs : List X) (i : ℕ) → length (changed f xs i) ≡ length xs
changed_long f [] i = refl
changed_long f (x ∷ xs) zero = refl
changed_long f (x ∷ xs) (suc i) = ap suc (changed_long f xs i)

pub before_changed : {X : Type 0} (f : X → X) (xs : List X) (i : ℕ) (x : X) → slice_get xs i ≡ Some x → take (i + 1) (changed f xs i) ≡ take i xs ++ f x ∷ []
before_changed f [] i x e = absurd (none_some x e)
before_changed f (y ∷ xs) zero x e = ap (λ z. f z ∷ []) (same_there y x e)
before_changed f (y ∷ xs) (suc i) x e = let n : suc i + 1 ≡ suc (i + 1) = omega arith in rw n (ap (λ zs. y ∷ zs) (before_changed f xs i x e))

pub after_changed : {X : Type 0} (f : X → X) (xs : List X) (i : ℕ) → drop (i + 1) (changed f xs i) ≡ drop (i + 1) xs
after_changed f [] i = refl
after_changed f (y ∷ xs) zero = refl
after_changed f (y ∷ xs) (suc i) = let n : suc i + 1 ≡ suc (i + 1) = omega arith in rw n (after_changed f xs i)

-- an element is read whatever default stands for one that doesn't exist
pub read_there : {X : Type 0} (xs : List X) (i : ℕ) (d : X) → i < length xs → slice_index_or xs i d ≡ slice_index_or xs i (slice_index_or xs i d)
read_there [] i d h = absurd (omega (arith, h))
read_there (x ∷ xs) zero d h = refl
read_there (x ∷ xs) (suc i) d h = read_there xs i d (omega (arith, h))
