-- Blanks at the back of a text.
use Rattle.std.proofs.Common.{◌≡◌, ℕ, suc, true, false, List, [], ◌∷◌, ◌++◌, length, take, get_or, sym, ap, ◌∙◌, arith}
use Rattle.std.proofs.Math.Seq.{take-suc, take-length}
use Rattle.vasm_text.specs.Cutting.{is_blank, unless_blank, without_back}

back_blank : (xs : List ℕ) (c : ℕ) → is_blank c ≡ true → without_back (xs ++ c ∷ []) ≡ without_back xs
back_blank [] c is = rw is
back_blank (x ∷ xs) c is = ap (unless_blank x) (back_blank xs c is)

back_other : (xs : List ℕ) (c : ℕ) → is_blank c ≡ false → without_back (xs ++ c ∷ []) ≡ xs ++ c ∷ []
back_other [] c is = rw is
back_other (x ∷ []) c is = ap (unless_blank x) (back_other [] c is)
back_other (x ∷ y ∷ xs) c is = let e : without_back (y ∷ xs ++ c ∷ []) ≡ y ∷ xs ++ c ∷ [] = back_other (y ∷ xs) c is in ap (unless_blank x) e

last_first : (n : ℕ) (xs : List ℕ) → length xs ≡ suc n → take n xs ++ get_or xs n 0 ∷ [] ≡ xs
last_first n xs long = sym (take-suc xs n 0 (omega arith)) ∙ ap (λ (m : ℕ). take m xs) (sym long) ∙ take-length xs

pub blank_goes : (n : ℕ) (xs : List ℕ) → length xs ≡ suc n → is_blank (get_or xs n 0) ≡ true → without_back (take n xs) ≡ without_back xs
blank_goes n xs long is = sym (back_blank (take n xs) (get_or xs n 0) is) ∙ ap without_back (last_first n xs long)

pub other_stays : (n : ℕ) (xs : List ℕ) → length xs ≡ suc n → is_blank (get_or xs n 0) ≡ false → without_back xs ≡ xs
other_stays n xs long is = ap without_back (sym (last_first n xs long)) ∙ back_other (take n xs) (get_or xs n 0) is ∙ last_first n xs long
