-- Members of a list, and of what is kept of it.
use Rattle.std.proofs.Common.{◌≡◌, ◌<◌, ℕ, zero, suc, List, [], ◌∷◌, filter, length, refl, ap, ◌∙◌, get_or, Bool, true, ◌⊎◌, inl, inr, arith}
use Rattle.sys_purge.proofs.Kept.{both}

abbrev pub IsIn : {X : Type 0} → X → List X → Type 0
IsIn x [] = ⊥
IsIn x (y ∷ ys) = (y ≡ x) ⊎ IsIn x ys

pub at_place : {X : Type 0} (xs : List X) (k : ℕ) (d : X) → k < length xs → IsIn (get_or xs k d) xs
at_place [] k d within = absurd (omega (arith, within))
at_place (x ∷ xs) zero d within = inl refl
at_place (x ∷ xs) (suc k) d within = inr (at_place xs k d (omega (arith, within)))

-- a place of it
abbrev pub PlaceOf : {X : Type 0} → X → List X → Type 0
PlaceOf x xs = (k : ℕ) × (k < length xs) × (get_or xs k x ≡ x)

pub place_in : {X : Type 0} (x : X) (xs : List X) → IsIn x xs → PlaceOf x xs
place_in x [] h = absurd h
place_in x (y ∷ ys) (inl e) = (0, omega arith, e)
place_in x (y ∷ ys) (inr h) = let p = place_in x ys h in (suc p.0, omega (arith, p.1), p.2)

pub in_kept : {X : Type 0} (test : X → Bool) (x : X) → test x ≡ true → (xs : List X) → IsIn x xs → IsIn x (filter test xs)
in_kept test x e [] h = absurd h
in_kept test x e (y ∷ ys) (inl s) = let k : test y ≡ true = ap test s ∙ e in rw k (inl s)
in_kept test x e (y ∷ ys) (inr h) = both (test y) (λ k. rw k (inr (in_kept test x e ys h))) (λ k. rw k (in_kept test x e ys h))

in_one : {X : Type 0} (x y : X) (xs ys : List X) → (IsIn x xs → IsIn x ys) → IsIn x (y ∷ xs) → IsIn x (y ∷ ys)
in_one x y xs ys rest (inl e) = inl e
in_one x y xs ys rest (inr h) = inr (rest h)

pub in_all : {X : Type 0} (test : X → Bool) (x : X) (xs : List X) → IsIn x (filter test xs) → IsIn x xs
in_all test x [] h = absurd h
in_all test x (y ∷ ys) h =
    let rest = in_all test x ys in
    both (test y) (λ k. in_one x y (filter test ys) ys rest (rw k at h)) (λ k. inr (rest (rw k at h)))
