-- Parts of the picture, one after another.
use Rattle.std.proofs.Common.{◌≡◌, ◌+◌, ◌∙◌, ℕ, Bool, true, false, List, [], ◌∷◌, ◌++◌, map, refl, sym, ap, append_assoc, append-nil}
use Rattle.std.specs.List.{range_with_len, filter, flat_map}
use Rattle.std.proofs.lemmas.List.{map-append}
use Rattle.std.proofs.lemmas.List.Elements.{filter-append}
use Rattle.std.proofs.lemmas.Grind.{flat_map-append}
use Rattle.sys_flow.specs.Picture.{joined}
use Rattle.sys_flow.proofs.Folds.{range_more}

pub joined-append : (xs ys : List (List ℕ)) → joined (xs ++ ys) ≡ joined xs ++ joined ys
joined-append [] ys = refl
joined-append (x ∷ xs) ys = ap (λ (rest : List ℕ). x ++ rest) (joined-append xs ys) ∙ sym (append_assoc x (joined xs) (joined ys))

one : (part : List ℕ) → joined (part ∷ []) ≡ part
one part = append-nil part

-- one object more
pub parts_more : (f : ℕ → List ℕ) (n : ℕ) → joined (map f (range_with_len 0 (n + 1))) ≡ joined (map f (range_with_len 0 n)) ++ f n
parts_more f n =
    ap (λ (ns : List ℕ). joined (map f ns)) (range_more n) ∙ ap joined (map-append f (range_with_len 0 n) (n ∷ []))
    ∙ joined-append (map f (range_with_len 0 n)) (f n ∷ []) ∙ ap (λ (part : List ℕ). joined (map f (range_with_len 0 n)) ++ part) (one (f n))

-- one more that passes, and one that doesn't
module _ {A : Type 0} (f : A → List ℕ) (g : ℕ → A) (p : ℕ → Bool) (n : ℕ) where
  chosen : joined (map f (map g (filter p (range_with_len 0 (n + 1))))) ≡ joined (map f (map g (filter p (range_with_len 0 n)))) ++ joined (map f (map g (filter p (n ∷ []))))
  chosen =
      ap (λ (ns : List ℕ). joined (map f (map g (filter p ns)))) (range_more n) ∙ ap (λ (ns : List ℕ). joined (map f (map g ns))) (filter-append p (range_with_len 0 n) (n ∷ []))
      ∙ ap (λ (xs : List A). joined (map f xs)) (map-append g (filter p (range_with_len 0 n)) (filter p (n ∷ [])))
      ∙ ap joined (map-append f (map g (filter p (range_with_len 0 n))) (map g (filter p (n ∷ []))))
      ∙ joined-append (map f (map g (filter p (range_with_len 0 n)))) (map f (map g (filter p (n ∷ []))))

  pub chosen_more : p n ≡ true → joined (map f (map g (filter p (range_with_len 0 (n + 1))))) ≡ joined (map f (map g (filter p (range_with_len 0 n)))) ++ f (g n)
  chosen_more e =
      let last : joined (map f (map g (filter p (n ∷ [])))) ≡ f (g n) = rw e (one (f (g n))) in
      chosen ∙ ap (λ (part : List ℕ). joined (map f (map g (filter p (range_with_len 0 n)))) ++ part) last

  pub chosen_left : p n ≡ false → joined (map f (map g (filter p (range_with_len 0 (n + 1))))) ≡ joined (map f (map g (filter p (range_with_len 0 n))))
  chosen_left e =
      let last : joined (map f (map g (filter p (n ∷ [])))) ≡ [] = rw e refl in
      chosen ∙ ap (λ (part : List ℕ). joined (map f (map g (filter p (range_with_len 0 n)))) ++ part) last ∙ append-nil (joined (map f (map g (filter p (range_with_len 0 n)))))

-- the arrows of one object more
pub rows_more : {A : Type 0} (f : A → List ℕ) (g : ℕ → List A) (n : ℕ) → joined (map f (flat_map g (range_with_len 0 (n + 1)))) ≡ joined (map f (flat_map g (range_with_len 0 n))) ++ joined (map f (g n))
rows_more {A} f g n =
    ap (λ (ns : List ℕ). joined (map f (flat_map g ns))) (range_more n) ∙ ap (λ (xs : List A). joined (map f xs)) (flat_map-append g (range_with_len 0 n) (n ∷ []))
    ∙ ap joined (map-append f (flat_map g (range_with_len 0 n)) (g n ++ [])) ∙ joined-append (map f (flat_map g (range_with_len 0 n))) (map f (g n ++ []))
    ∙ ap (λ (xs : List A). joined (map f (flat_map g (range_with_len 0 n))) ++ joined (map f xs)) (append-nil (g n))

-- a part after a part
pub later : (old first now part new whole : List ℕ) → now ≡ old ++ first → new ≡ now ++ part → whole ≡ first ++ part → new ≡ old ++ whole
later old first now part new whole is next all =
    next ∙ ap (λ (front : List ℕ). front ++ part) is ∙ append_assoc old first part ∙ ap (λ (rest : List ℕ). old ++ rest) (sym all)

pub nothing_after : (old first now new whole : List ℕ) → now ≡ old ++ first → new ≡ now → whole ≡ first → new ≡ old ++ whole
nothing_after old first now new whole is next all = next ∙ is ∙ ap (λ (rest : List ℕ). old ++ rest) (sym all)
