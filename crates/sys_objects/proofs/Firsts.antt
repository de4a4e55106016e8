-- The first element for which a test fails, given those before it.
use Rattle.std.proofs.Common.{◌≡◌, ◌≤◌, ◌<◌, ◌+◌, ℕ, zero, suc, Bool, true, false, not, List, [], ◌∷◌, ◌++◌, length, take, get_or, nat_le, Option, Some, None, if◌then◌else◌, sum_by, refl, sym, ◌∙◌, arith, append-nil, append_assoc, inl, inr}
use Rattle.std.specs.List.{list_any, AllPairs}
use Rattle.std.proofs.lemmas.Bool.{cases_Bool, leb-true, le-leb, false≢true}
use Rattle.std.proofs.lemmas.List.{get_or-take, length-take}
use Rattle.std.proofs.lemmas.List.Folds.{list_any_none, list_any-from_Any}
use Rattle.std.proofs.lemmas.List.Sums.{sum_by-append}
use Rattle.sys_objects.specs.Rules.{first_broken, is_new}
use Rattle.sys_objects.specs.declared.records.GuestRow.{GuestRow}

-- the pages of the guests up to this one
abbrev pub pages_hold : List GuestRow → GuestRow → Bool
pages_hold seen g = nat_le (sum_by (λ (h : GuestRow). h.pages) seen + g.pages) 16384

-- neither place is named where the test passes and the rest does
passed : (b : Bool) (rest : Option ℕ) (place : ℕ) → (if b then rest else Some place) ≡ None → (b ≡ true) × (rest ≡ None)
passed true rest place e = (refl, e)
passed false rest place e = cc

-- an element that exists does not depend on the default
at_any : {A : Type 0} (xs : List A) (k : ℕ) (d e : A) → k < length xs → get_or xs k d ≡ get_or xs k e
at_any [] k d e within = absurd (omega arith)
at_any (x ∷ xs) zero d e within = refl
at_any (x ∷ xs) (suc k) d e within = at_any xs k d e (omega arith)

module _ {A : Type 0} (holds : List A → A → Bool) where
  pub holds_at : (xs seen : List A) → first_broken holds seen xs ≡ None → (k : ℕ) (d : A) → k < length xs → holds (seen ++ take k xs) (get_or xs k d) ≡ true
  holds_at [] seen e k d within = absurd (omega arith)
  holds_at (x ∷ xs) seen e zero d within = rw (append-nil seen) (passed (holds seen x) _ _ e).0
  holds_at (x ∷ xs) seen e (suc k) d within =
      let rest : holds ((seen ++ x ∷ []) ++ take k xs) (get_or xs k d) ≡ true = holds_at xs (seen ++ x ∷ []) (passed (holds seen x) _ _ e).1 k d (omega arith) in
      rw (append_assoc seen (x ∷ []) (take k xs)) at rest

  pub none_broken : (xs seen : List A) → ((k : ℕ) (d : A) → k < length xs → holds (seen ++ take k xs) (get_or xs k d) ≡ true) → first_broken holds seen xs ≡ None
  none_broken [] seen each = refl
  none_broken (x ∷ xs) seen each =
      let first : holds seen x ≡ true = rw (append-nil seen) at (each 0 x (omega arith)) in
      rw first (none_broken xs (seen ++ x ∷ []) (λ k d within. rw (append_assoc seen (x ∷ []) (take k xs)) (each (suc k) d (omega arith))))

-- what none before it has
module _ {A : Type 0} (same : A → A → Bool) where
  not_false : (b : Bool) → not b ≡ true → b ≡ false
  not_false true e = cc
  not_false false e = refl

  not_true : (b : Bool) → b ≡ false → not b ≡ true
  not_true true e = cc
  not_true false e = refl

  not_any : (xs : List A) (x : A) → list_any (same x) xs ≡ false → (k : ℕ) (d : A) → k < length xs → same x (get_or xs k d) ≡ false
  not_any xs x none k d within =
      elim (cases_Bool (same x (get_or xs k d))) [
        | inl passes ↦ absurd (false≢true (sym none ∙ list_any-from_Any (same x) xs (k, get_or xs k d, within, at_any xs k (get_or xs k d) d within, passes)))
        | inr fails ↦ fails
      ]

  pub pairs_apart : (xs : List A) → first_broken (is_new same) [] xs ≡ None → AllPairs (λ x y. same y x ≡ false) xs
  pairs_apart xs e i j d before within =
      let new : list_any (same (get_or xs j d)) (take j xs) ≡ false = not_false _ (holds_at (is_new same) xs [] e j d within) in
      rw (get_or-take j xs i d before) at (not_any (take j xs) (get_or xs j d) new i d (omega (arith, length-take j xs)))

  apart_at : (xs : List A) → AllPairs (λ x y. same y x ≡ false) xs → (j : ℕ) (d : A) → j < length xs → (i : ℕ) (e : A) → i < j → same (get_or xs j d) (get_or (take j xs) i e) ≡ false
  apart_at xs apart j d within i e before = rw (get_or-take j xs i e before, at_any xs i e d (omega arith)) (apart i j d before within)

  pub none_twice : (xs : List A) → AllPairs (λ x y. same y x ≡ false) xs → first_broken (is_new same) [] xs ≡ None
  none_twice xs apart =
      none_broken (is_new same) xs [] (λ j d within. not_true _ (list_any_none (same (get_or xs j d)) (take j xs) (λ i e before.
      apart_at xs apart j d within i e (omega (arith, length-take j xs)))))

abbrev pages : GuestRow → ℕ
pages g = g.pages

pub few_pages : (gs seen : List GuestRow) → first_broken pages_hold seen gs ≡ None → sum_by pages seen ≤ 16384 → sum_by pages (seen ++ gs) ≤ 16384
few_pages [] seen e h = rw (append-nil seen) h
few_pages (g ∷ gs) seen e h =
    let p : (nat_le (sum_by pages seen + g.pages) 16384 ≡ true) × (first_broken pages_hold (seen ++ g ∷ []) gs ≡ None) = passed (nat_le (sum_by pages seen + g.pages) 16384) _ _ e in
    let most : sum_by pages seen + g.pages ≤ 16384 = leb-true _ _ p.0 in
    rw (append_assoc seen (g ∷ []) gs) at (few_pages gs (seen ++ g ∷ []) p.1 (rw (sum_by-append pages seen (g ∷ [])) (omega (arith, most))))

pub pages_pass : (gs seen : List GuestRow) → sum_by pages (seen ++ gs) ≤ 16384 → first_broken pages_hold seen gs ≡ None
pages_pass [] seen h = refl
pages_pass (g ∷ gs) seen h =
    let all : sum_by pages ((seen ++ g ∷ []) ++ gs) ≤ 16384 = rw (append_assoc seen (g ∷ []) gs) h in
    let some : sum_by pages (seen ++ g ∷ []) ≤ 16384 = omega (arith, all, sum_by-append pages (seen ++ g ∷ []) gs) in
    let fits : nat_le (sum_by pages seen + g.pages) 16384 ≡ true = le-leb _ _ (omega (arith, some, sum_by-append pages seen (g ∷ []))) in
    rw fits (pages_pass gs (seen ++ g ∷ []) all)
