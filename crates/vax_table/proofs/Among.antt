-- Bytes that are among others.
use Rattle.std.proofs.Common.{ℕ, ◌⊎◌, inl, inr, List, [], ◌∷◌, ◌++◌}
use Rattle.vax_table.specs.Claims.{AreAmong}
use Rattle.vax_table.specs.Interaction.{IsIn}

pub among_front : (xs ys : List ℕ) → AreAmong xs (xs ++ ys)
among_front [] ys x h = absurd h
among_front (z ∷ xs) ys x (inl e) = inl e
among_front (z ∷ xs) ys x (inr h) = inr (among_front xs ys x h)

pub among_back : (xs ys : List ℕ) → AreAmong ys (xs ++ ys)
among_back [] ys x h = h
among_back (z ∷ xs) ys x h = inr (among_back xs ys x h)

pub in_either : (x : ℕ) (xs ys : List ℕ) → IsIn x (xs ++ ys) → IsIn x xs ⊎ IsIn x ys
in_either x [] ys h = inr h
in_either x (y ∷ xs) ys (inl e) = inl (inl e)
in_either x (y ∷ xs) ys (inr h) = elim (in_either x xs ys h) [ inl g ↦ inl (inr g) | inr g ↦ inr g ]
