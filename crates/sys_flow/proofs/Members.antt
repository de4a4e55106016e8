-- Which edges are drawn, and how many.
use Rattle.std.proofs.Common.{◌≡◌, ◌<◌, ◌+◌, ◌∙◌, ℕ, zero, suc, Bool, true, false, List, [], ◌∷◌, ◌++◌, length, map, refl, sym, ap, subst, arith, add-one, append-nil, ◌⊎◌, inl, inr}
use Rattle.std.specs.List.{Contains, slice_index_or, range_with_len, filter, flat_map, sum_by, count_by}
use Rattle.std.proofs.lemmas.Bool.{cases_lt}
use Rattle.std.proofs.lemmas.List.{map-append, length-map}
use Rattle.std.proofs.lemmas.List.Concat.{length-flat_map}
use Rattle.std.proofs.lemmas.List.Elements.{filter-append, Contains-append_left, Contains-append_right, Contains-append_cases}
use Rattle.std.proofs.lemmas.List.FromFn.{length-range_with_len}
use Rattle.std.proofs.lemmas.List.Sums.{length-filter}
use Rattle.std.proofs.lemmas.Grind.{flat_map-append}
use Rattle.sys_objects.specs.declared.records.Config.{Config}
use Rattle.sys_flow.specs.Reach.{all_objects, has_edge}
use Rattle.sys_flow.proofs.Paths.{edge_within}
use Rattle.sys_flow.specs.Picture.{arrow_of, box_of, edge_to, edges_from, edges_of}
use Rattle.sys_flow.specs.Seats.{numbers}
use Rattle.sys_flow.specs.declared.layout.Spot.{Spot}
use Rattle.sys_flow.proofs.Folds.{range_more}

empty : (x : ℕ × ℕ) → Contains [] x → ⊥
empty x h = absurd (omega (arith, h.1))

last_of : (k n : ℕ) → k < n + 1 → (k < n) ⊎ (k ≡ n)
last_of k n h = elim (cases_lt k n) [ inl l ↦ inl l | inr l ↦ inr (omega arith) ]

-- the edges from a, to the first n
module _ (p : ℕ → Bool) (a : ℕ) where
  abbrev pub firsts : ℕ → List (ℕ × ℕ)
  firsts n = map (edge_to a) (filter p (range_with_len 0 n))

  abbrev only : ℕ → List (ℕ × ℕ)
  only n = map (edge_to a) (filter p (n ∷ []))

  firsts_more : (n : ℕ) → firsts (n + 1) ≡ firsts n ++ only n
  firsts_more n =
      ap (λ (ns : List ℕ). map (edge_to a) (filter p ns)) (range_more n) ∙ ap (λ (ns : List ℕ). map (edge_to a) ns) (filter-append p (range_with_len 0 n) (n ∷ []))
      ∙ map-append (edge_to a) (filter p (range_with_len 0 n)) (filter p (n ∷ []))

  only_in : (n : ℕ) → p n ≡ true → Contains (only n) (a, n)
  only_in n e = subst (λ (xs : List ℕ). Contains (map (edge_to a) xs) (a, n)) (sym (passes e)) (0, omega arith, refl) where
    passes : p n ≡ true → filter p (n ∷ []) ≡ n ∷ []
    passes e = rw e refl

  only_out : (n x y : ℕ) (t : Bool) → p n ≡ t → Contains (only n) (x, y) → (x ≡ a) × (p y ≡ true)
  only_out n x y true e h = one (subst (λ (xs : List ℕ). Contains (map (edge_to a) xs) (x, y)) (passes e) h) where
    passes : p n ≡ true → filter p (n ∷ []) ≡ n ∷ []
    passes e = rw e refl

    one : Contains {X = ℕ × ℕ} ((a, n) ∷ []) (x, y) → (x ≡ a) × (p y ≡ true)
    one h =
        let first : h.0 ≡ 0 = omega (arith, h.1) in
        let same : (a, n) ≡ (x, y) = subst (λ (k : ℕ). slice_index_or {A = ℕ × ℕ} ((a, n) ∷ []) k (x, y) ≡ (x, y)) first h.2 in
        (sym (ap (λ (e : ℕ × ℕ). e.0) same), subst (λ (k : ℕ). p k ≡ true) (ap (λ (e : ℕ × ℕ). e.1) same) e)
  only_out n x y false e h = absurd (empty (x, y) (subst (λ (xs : List ℕ). Contains (map (edge_to a) xs) (x, y)) (fails e) h)) where
    fails : p n ≡ false → filter p (n ∷ []) ≡ []
    fails e = rw e refl

  pub firsts_in : (n b : ℕ) → b < n → p b ≡ true → Contains (firsts n) (a, b)
  firsts_in zero b h e = absurd (omega arith)
  firsts_in (suc n) b h e =
      subst (λ (m : ℕ). Contains (firsts m) (a, b)) (add-one n) (subst (λ (xs : List (ℕ × ℕ)). Contains xs (a, b)) (sym (firsts_more n)) (elim (last_of b n (omega arith)) [
        | inl l ↦ Contains-append_left (firsts n) (only n) (a, b) (firsts_in n b l e)
        | inr l ↦ Contains-append_right (firsts n) (only n) (a, b) (subst (λ (k : ℕ). Contains (only n) (a, k)) (sym l) (only_in n (subst (λ (k : ℕ). p k ≡ true) l e)))
      ]))

  pub firsts_out : (n x y : ℕ) → Contains (firsts n) (x, y) → (x ≡ a) × (p y ≡ true)
  firsts_out zero x y h = absurd (empty (x, y) h)
  firsts_out (suc n) x y h =
      elim (Contains-append_cases (firsts n) (only n) (x, y) (subst (λ (xs : List (ℕ × ℕ)). Contains xs (x, y)) (firsts_more n) (subst (λ (m : ℕ). Contains (firsts m) (x, y)) (sym (add-one n)) h))) [
        | inl l ↦ firsts_out n x y l
        | inr l ↦ only_out n x y (p n) refl l
      ]

-- the edges from the first m
module _ (c : Config) where
  abbrev of_firsts : ℕ → List (ℕ × ℕ)
  of_firsts m = flat_map (edges_from c) (range_with_len 0 m)

  of_firsts_more : (m : ℕ) → of_firsts (m + 1) ≡ of_firsts m ++ edges_from c m
  of_firsts_more m =
      ap (λ (ns : List ℕ). flat_map (edges_from c) ns) (range_more m) ∙ flat_map-append (edges_from c) (range_with_len 0 m) (m ∷ [])
      ∙ ap (λ (xs : List (ℕ × ℕ)). of_firsts m ++ xs) (append-nil (edges_from c m))

  in_firsts : (m a b : ℕ) → a < m → has_edge c a b ≡ true → Contains (of_firsts m) (a, b)
  in_firsts zero a b h e = absurd (omega arith)
  in_firsts (suc m) a b h e =
      subst (λ (k : ℕ). Contains (of_firsts k) (a, b)) (add-one m) (subst (λ (xs : List (ℕ × ℕ)). Contains xs (a, b)) (sym (of_firsts_more m)) (elim (last_of a m (omega arith)) [
        | inl l ↦ Contains-append_left (of_firsts m) (edges_from c m) (a, b) (in_firsts m a b l e)
        | inr l ↦ Contains-append_right (of_firsts m) (edges_from c m) (a, b)
            (subst (λ (k : ℕ). Contains (edges_from c k) (a, b)) l (firsts_in (has_edge c a) a (length (all_objects c)) b (edge_within c a b e).1 e))
      ]))

  out_of_firsts : (m a b : ℕ) → Contains (of_firsts m) (a, b) → has_edge c a b ≡ true
  out_of_firsts zero a b h = absurd (empty (a, b) h)
  out_of_firsts (suc m) a b h =
      elim (Contains-append_cases (of_firsts m) (edges_from c m) (a, b) (subst (λ (xs : List (ℕ × ℕ)). Contains xs (a, b)) (of_firsts_more m) (subst (λ (k : ℕ). Contains (of_firsts k) (a, b)) (sym (add-one m)) h))) [
        | inl l ↦ out_of_firsts m a b l
        | inr l ↦
            let out = firsts_out (has_edge c m) m (length (all_objects c)) a b l in
            subst (λ (k : ℕ). has_edge c k b ≡ true) (sym out.0) out.1
      ]

  pub drawn : (a b : ℕ) → has_edge c a b ≡ true → Contains (edges_of c) (a, b)
  drawn a b e = in_firsts (length (all_objects c)) a b (edge_within c a b e).0 e

  pub edge_of_arrow : (a b : ℕ) → Contains (edges_of c) (a, b) → has_edge c a b ≡ true
  edge_of_arrow a b h = out_of_firsts (length (all_objects c)) a b h

  pub how_many_boxes : (n : ℕ) (spots : List Spot) → length (map (box_of c n spots) (numbers c)) ≡ length (all_objects c)
  how_many_boxes n spots = length-map (numbers c) (box_of c n spots) ∙ length-range_with_len 0 (length (all_objects c))

  sums_alike : (f g : ℕ → ℕ) → ((a : ℕ) → f a ≡ g a) → (ns : List ℕ) → sum_by f ns ≡ sum_by g ns
  sums_alike f g same ns = λ i. sum_by (λ a. same a i) ns

  pub how_many_arrows : (n : ℕ) (spots : List Spot) → length (map (arrow_of c n spots) (edges_of c)) ≡ sum_by (λ a. count_by (has_edge c a) (numbers c)) (numbers c)
  how_many_arrows n spots =
      length-map (edges_of c) (arrow_of c n spots) ∙ length-flat_map (edges_from c) (numbers c)
      ∙ sums_alike (λ a. length (edges_from c a)) (λ a. count_by (has_edge c a) (numbers c))
      (λ a. length-map (filter (has_edge c a) (numbers c)) (edge_to a) ∙ length-filter (has_edge c a) (numbers c)) (numbers c)
