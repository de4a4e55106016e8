-- Elements of lists by their places, and fronts of lists.
use Rattle.std.proofs.Common.{ℕ, zero, suc, ◌≡◌, ◌<◌, ◌≤◌, ◌+◌, List, [], ◌∷◌, length, take, drop, slice_get, slice_set, slice_index_or, refl, sym, ◌∙◌, ap, subst, arith, Bool, true, false, if◌then◌else◌, Option, Some, None, option_map}
use Rattle.std.specs.Prelude.{All}
use Rattle.std.specs.List.{position, position_from}
use Rattle.std.proofs.lemmas.List.Elements.{All-head, All-tail}
use Rattle.std.proofs.lemmas.Iterator.Adapters.{position_from-zero}
use Rattle.sys_state.proofs.Places.{both}
use Rattle.sys_state.specs.Places.{changed, place_of}

pub get_within : {X : Type 0} (xs : List X) (k : ℕ) → k < length xs → (x : X) × (slice_get xs k ≡ Some x)
get_within [] k h = absurd (omega (arith, h))
get_within (y ∷ xs) zero h = (y, refl)
get_within (y ∷ xs) (suc k) h = get_within xs k (omega (arith, h))

pub within_get : {X : Type 0} (xs : List X) (k : ℕ) (x : X) → slice_get xs k ≡ Some x → k < length xs
within_get [] k x e = cc
within_get (y ∷ xs) zero x e = omega arith
within_get (y ∷ xs) (suc k) x e = let rest = within_get xs k x e in omega (arith, rest)

pub get_past : {X : Type 0} (xs : List X) (k : ℕ) → length xs ≤ k → slice_get xs k ≡ None
get_past [] k h = refl
get_past (y ∷ xs) zero h = absurd (omega (arith, h))
get_past (y ∷ xs) (suc k) h = get_past xs k (omega (arith, h))

pub all_get : {X : Type 0} (P : X → Type 0) (xs : List X) (k : ℕ) (x : X) → All P xs → slice_get xs k ≡ Some x → P x
all_get P [] k x all h = cc
all_get P (y ∷ ys) zero x all h = let s : y ≡ x = cc in subst P s (All-head P y ys all)
all_get P (y ∷ ys) (suc k) x all h = all_get P ys k x (All-tail P y ys all) h

pub same_some : {X : Type 0} (x y : X) → (let o : Option X = Some x in o ≡ Some y) → x ≡ y
same_some x y e = cc

-- a front of a list of which an element is set
pub take_set : {X : Type 0} (n : ℕ) (xs : List X) (k : ℕ) (x : X) → take n (slice_set xs k x) ≡ slice_set (take n xs) k x
take_set zero [] k x = refl
take_set zero (y ∷ xs) k x = refl
take_set (suc n) [] k x = refl
take_set (suc n) (y ∷ xs) zero x = refl
take_set (suc n) (y ∷ xs) (suc k) x = ap (λ ys. y ∷ ys) (take_set n xs k x)

-- the first place, as std has it
shifted : (i : ℕ) (o : Option ℕ) → option_map (λ n. i + 1 + n) o ≡ option_map (λ n. i + n) (option_map suc o)
shifted i None = refl
shifted i (Some n) = let e : i + 1 + n ≡ i + suc n = omega arith in ap Some e

from_place : {X : Type 0} (p : X → Bool) (i : ℕ) (xs : List X) → position_from p i xs ≡ option_map (λ n. i + n) (place_of p xs)
from_place p i [] = refl
from_place p i (x ∷ xs) = let rest = from_place p (i + 1) xs in let e : i ≡ i + 0 = omega arith in both (p x)
    (λ b. rw b (ap Some e))
    (λ b. rw b (rest ∙ shifted i (place_of p xs)))

at_zero : (o : Option ℕ) → option_map (λ n. 0 + n) o ≡ o
at_zero None = refl
at_zero (Some n) = let e : 0 + n ≡ n = omega arith in ap Some e

pub position_is : {X : Type 0} (p : X → Bool) (xs : List X) → position p xs ≡ place_of p xs
position_is p xs = position_from-zero p xs ∙ from_place p 0 xs ∙ at_zero (place_of p xs)

-- where nothing after a front passes, the first is in the front
none_passes : {X : Type 0} (p : X → Bool) (xs : List X) → ((k : ℕ) (d : X) → k < length xs → p (slice_index_or xs k d) ≡ false) → place_of p xs ≡ None
none_passes p [] none = refl
none_passes p (x ∷ xs) none =
    let first : p x ≡ false = none 0 x (omega arith) in
    rw first (ap (option_map suc) (none_passes p xs (λ k d h. none (suc k) d (omega (arith, h)))))

place_in_front : {X : Type 0} (p : X → Bool) (n : ℕ) (xs : List X) → place_of p (drop n xs) ≡ None → place_of p (take n xs) ≡ place_of p xs
place_in_front p zero xs e = sym e
place_in_front p (suc n) [] e = refl
place_in_front p (suc n) (x ∷ xs) e = both (p x)
    (λ b. rw b refl)
    (λ b. rw b (ap (option_map suc) (place_in_front p n xs e)))

pub first_in_front : {X : Type 0} (p : X → Bool) (n : ℕ) (xs : List X) → ((k : ℕ) (d : X) → k < length (drop n xs) → p (slice_index_or (drop n xs) k d) ≡ false) → position p (take n xs) ≡ position p xs
first_in_front p n xs none = position_is p (take n xs) ∙ place_in_front p n xs (none_passes p (drop n xs) none) ∙ sym (position_is p xs)

-- what is found is there
pub found_within : {X : Type 0} (p : X → Bool) (xs : List X) (k : ℕ) → place_of p xs ≡ Some k → k < length xs
found_within p [] k e = cc
found_within p (x ∷ xs) k e = by (p x) (place_of p xs) (λ n h. found_within p xs n h) k e
  where
    by : (b : Bool) (o : Option ℕ) → ((n : ℕ) → o ≡ Some n → n < length xs) → (k : ℕ) → (if b then Some 0 else option_map suc o) ≡ Some k → k < suc (length xs)
    by true o rest k e = let z : 0 ≡ k = cc in omega (arith, z)
    by false None rest k e = cc
    by false (Some n) rest k e = let s : suc n ≡ k = cc in let h = rest n refl in omega (arith, s, h)

-- an element that is changed
pub changed_long : {X : Type 0} (f : X → X) (xs : List X) (k : ℕ) → length (changed f xs k) ≡ length xs
changed_long f [] k = refl
changed_long f (x ∷ xs) zero = refl
changed_long f (x ∷ xs) (suc k) = ap suc (changed_long f xs k)
