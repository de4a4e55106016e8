-- Guests that lie one after another.
use Rattle.std.proofs.Common.{ℕ, zero, suc, ◌≡◌, ◌≢◌, ◌<◌, ◌≤◌, ◌+◌, ◌*◌, ◌⊎◌, inl, inr, List, [], ◌∷◌, ◌++◌, length, slice_set, slice_index_or, refl, sym, ◌∙◌, ap, subst, arith}
use Rattle.std.proofs.lemmas.Bool.{cases_lt}
use Rattle.std.proofs.lemmas.List.Sums.{sum_by-cons}
use Rattle.std.specs.List.{sum_by}
use Rattle.sys_guests.specs.Layout.{ArePlaced, IsPlaced}
use Rattle.sys_objects.specs.declared.records.GuestRow.{GuestRow}
use Rattle.vm_stepping.specs.Guarded.{OnlyBoth}
use Rattle.vm_guest.specs.Kept.{Kept}
use Rattle.vm_guest.specs.Laws.{SharesPart}
use Rattle.vm_shadow.specs.StandsFor.{Serves}
use Rattle.vm_state.specs.State.{HasPlace}

pub placed_long : (base tables : ℕ) (rows : List GuestRow) (ks : List Kept) → ArePlaced base tables rows ks → length ks ≡ length rows
placed_long base tables [] [] p = refl
placed_long base tables [] (k ∷ ks) p = absurd p
placed_long base tables (row ∷ rows) [] p = absurd p
placed_long base tables (row ∷ rows) (k ∷ ks) p = ap suc (placed_long (base + row.pages) (tables + 580) rows ks p.1)

-- all pages of rows
abbrev pub pages_in : List GuestRow → ℕ
pages_in rows = sum_by (λ row. row.pages) rows

-- a guest lies within the pages of all rows, and its tables within all tables
pub record IsWithin (base tables : ℕ) (rows : List GuestRow) (k : Kept) : Type 0 where
  pub low : base ≤ k.state.base
  pub high : k.state.base + k.state.pages ≤ base + pages_in rows
  pub first : tables ≤ k.shadow.at
  pub last : k.shadow.at + 580 ≤ tables + 580 * length rows

pub placed_at : (base tables : ℕ) (rows : List GuestRow) (ks : List Kept) (i : ℕ) (k : Kept) → i < length ks → k ≡ slice_index_or ks i k → ArePlaced base tables rows ks → IsWithin base tables rows k
placed_at base tables [] [] i k h e p = absurd (omega (arith, h))
placed_at base tables [] (x ∷ ks) i k h e p = absurd p
placed_at base tables (row ∷ rows) [] i k h e p = absurd p
placed_at base tables (row ∷ rows) (x ∷ ks) zero k h e p =
    let at : k.state.base ≡ base = ap (λ (y : Kept). y.state.base) e ∙ p.0.base in
    let size : k.state.pages ≡ row.pages = ap (λ (y : Kept). y.state.pages) e ∙ p.0.pages in
    let table : k.shadow.at ≡ tables = ap (λ (y : Kept). y.shadow.at) e ∙ p.0.tables in
    let all = sum_by-cons (λ (r : GuestRow). r.pages) row rows in
    record { low = omega (arith, at); high = omega (arith, at, size, all); first = omega (arith, table); last = omega (arith, table) }
placed_at base tables (row ∷ rows) (x ∷ ks) (suc i) k h e p =
    let rest = placed_at (base + row.pages) (tables + 580) rows ks i k (omega (arith, h)) e p.1 in
    let all = sum_by-cons (λ (r : GuestRow). r.pages) row rows in
    record { low = omega (arith, rest.low); high = omega (arith, rest.high, all); first = omega (arith, rest.first); last = omega (arith, rest.last) }

-- one guest before another
pub record IsBefore (k l : Kept) : Type 0 where
  pub memory : k.state.base + k.state.pages ≤ l.state.base
  pub tables : k.shadow.at + 580 ≤ l.shadow.at

pub ordered : (base tables : ℕ) (rows : List GuestRow) (ks : List Kept) (i j : ℕ) (k l : Kept) → i < j → j < length ks → k ≡ slice_index_or ks i k → l ≡ slice_index_or ks j l → ArePlaced base tables rows ks → IsBefore k l
ordered base tables [] [] i j k l o h e f p = absurd (omega (arith, h))
ordered base tables [] (x ∷ ks) i j k l o h e f p = absurd p
ordered base tables (row ∷ rows) [] i j k l o h e f p = absurd p
ordered base tables (row ∷ rows) (x ∷ ks) i zero k l o h e f p = absurd (omega (arith, o))
ordered base tables (row ∷ rows) (x ∷ ks) zero (suc j) k l o h e f p =
    let at : k.state.base ≡ base = ap (λ (y : Kept). y.state.base) e ∙ p.0.base in
    let size : k.state.pages ≡ row.pages = ap (λ (y : Kept). y.state.pages) e ∙ p.0.pages in
    let table : k.shadow.at ≡ tables = ap (λ (y : Kept). y.shadow.at) e ∙ p.0.tables in
    let rest = placed_at (base + row.pages) (tables + 580) rows ks j l (omega (arith, h)) f p.1 in
    record { memory = omega (arith, at, size, rest.low); tables = omega (arith, table, rest.first) }
ordered base tables (row ∷ rows) (x ∷ ks) (suc i) (suc j) k l o h e f p =
    ordered (base + row.pages) (tables + 580) rows ks i j k l (omega (arith, o)) (omega (arith, h)) e f p.1

-- what happens to one guest alone leaves another's part
pub shares : (all : ℕ) (k l : Kept) (memory other : List ℕ) → IsBefore k l ⊎ IsBefore l k → k.state.base + k.state.pages ≤ all → l.state.base + l.state.pages ≤ all → all ≤ k.shadow.at → all ≤ l.shadow.at → Serves k.state k.shadow → Serves l.state l.shadow → OnlyBoth k.shadow memory other → SharesPart l memory other
shares all k l memory other (inl before) inside inside' later later' s t only = record {
  size = only.size;
  own = λ p low high. only.other p (inr (omega (arith, low, before.memory, s.base, s.pages, t.base))) (inl (omega (arith, high, inside', later, t.base, t.pages)));
  tables = λ p low high. only.other p (inr (omega (arith, low, inside, later', s.base, s.pages))) (inr (omega (arith, low, before.tables)));
}
shares all k l memory other (inr before) inside inside' later later' s t only = record {
  size = only.size;
  own = λ p low high. only.other p (inl (omega (arith, high, before.memory, s.base, t.base, t.pages))) (inl (omega (arith, high, inside', later, t.base, t.pages)));
  tables = λ p low high. only.other p (inr (omega (arith, low, inside, later', s.base, s.pages))) (inl (omega (arith, high, before.tables)));
}

-- of two guests one comes before the other
pub one_before : (base tables : ℕ) (rows : List GuestRow) (ks : List Kept) (i j : ℕ) (k l : Kept) → (i ≡ j → ⊥) → i < length ks → j < length ks → k ≡ slice_index_or ks i k → l ≡ slice_index_or ks j l → ArePlaced base tables rows ks → IsBefore k l ⊎ IsBefore l k
one_before base tables rows ks i j k l ne h h' e f p = by (cases_lt i j)
  where
    by : (i < j) ⊎ (j ≤ i) → IsBefore k l ⊎ IsBefore l k
    by (inl lt) = inl (ordered base tables rows ks i j k l lt h' e f p)
    by (inr le) = inr (ordered base tables rows ks j i l k (apart i j ne le) h f e p)
      where
        apart : (a b : ℕ) → (a ≡ b → ⊥) → b ≤ a → b < a
        apart a b ne le = let no : a ≢ b = ne in omega (arith, no, le)

same_place : (row : GuestRow) (base tables : ℕ) (k k' : Kept) → HasPlace k.state.pages k.state.base k.state.start k'.state → k'.state.modify_faults ≡ k.state.modify_faults → k'.shadow.at ≡ k.shadow.at → IsPlaced row base tables k → IsPlaced row base tables k'
same_place row base tables k k' s m t p = record { base = s.base ∙ p.base; tables = t ∙ p.tables; pages = s.pages ∙ p.pages; start = s.start ∙ p.start; modify_faults = m ∙ p.modify_faults }

pub placed_set : (base tables : ℕ) (rows : List GuestRow) (ks : List Kept) (i : ℕ) (k k' : Kept) → i < length ks → k ≡ slice_index_or ks i k → HasPlace k.state.pages k.state.base k.state.start k'.state → k'.state.modify_faults ≡ k.state.modify_faults → k'.shadow.at ≡ k.shadow.at → ArePlaced base tables rows ks → ArePlaced base tables rows (slice_set ks i k')
placed_set base tables [] [] i k k' h e s m t p = p
placed_set base tables [] (x ∷ ks) i k k' h e s m t p = absurd p
placed_set base tables (row ∷ rows) [] i k k' h e s m t p = absurd p
placed_set base tables (row ∷ rows) (x ∷ ks) zero k k' h e s m t p = (same_place row base tables k k' s m t (subst (λ y. IsPlaced row base tables y) (sym e) p.0), p.1)
placed_set base tables (row ∷ rows) (x ∷ ks) (suc i) k k' h e s m t p = (p.0, placed_set (base + row.pages) (tables + 580) rows ks i k k' (omega (arith, h)) e s m t p.1)

-- the row of the guest at a place
pub placed_row : (base tables : ℕ) (rows : List GuestRow) (ks : List Kept) (i : ℕ) (k : Kept) (row : GuestRow) → i < length ks → k ≡ slice_index_or ks i k → row ≡ slice_index_or rows i row → ArePlaced base tables rows ks → (k.state.start ≡ row.start) × (k.state.modify_faults ≡ row.modify_faults)
placed_row base tables [] [] i k row h e f p = absurd (omega (arith, h))
placed_row base tables [] (x ∷ ks) i k row h e f p = absurd p
placed_row base tables (r ∷ rows) [] i k row h e f p = absurd p
placed_row base tables (r ∷ rows) (x ∷ ks) zero k row h e f p =
    (ap (λ (y : Kept). y.state.start) e ∙ p.0.start ∙ ap (λ (y : GuestRow). y.start) (sym f), ap (λ (y : Kept). y.state.modify_faults) e ∙ p.0.modify_faults ∙ ap (λ (y : GuestRow). y.modify_faults) (sym f))
placed_row base tables (r ∷ rows) (x ∷ ks) (suc i) k row h e f p = placed_row (base + r.pages) (tables + 580) rows ks i k row (omega (arith, h)) e f p.1

-- one guest more
pub placed_more : (base tables : ℕ) (rows : List GuestRow) (ks : List Kept) (row : GuestRow) (k : Kept) → ArePlaced base tables rows ks → IsPlaced row (base + pages_in rows) (tables + 580 * length rows) k → ArePlaced base tables (rows ++ row ∷ []) (ks ++ k ∷ [])
placed_more base tables [] [] row k p q =
    let at : base + 0 ≡ base = omega arith in
    let after : tables + 580 * 0 ≡ tables = omega arith in
    (subst (λ b. IsPlaced row b tables k) at (subst (λ t. IsPlaced row (base + 0) t k) after q), tt)
placed_more base tables [] (x ∷ ks) row k p q = absurd p
placed_more base tables (r ∷ rows) [] row k p q = absurd p
placed_more base tables (r ∷ rows) (x ∷ ks) row k p q =
    let all = sum_by-cons (λ (r : GuestRow). r.pages) r rows in
    let at : base + sum_by (λ (r : GuestRow). r.pages) (r ∷ rows) ≡ (base + r.pages) + sum_by (λ (r : GuestRow). r.pages) rows = omega (arith, all) in
    let after : tables + 580 * length (r ∷ rows) ≡ (tables + 580) + 580 * length rows = omega arith in
    (p.0, placed_more (base + r.pages) (tables + 580) rows ks row k p.1 (subst (λ b. IsPlaced row b ((tables + 580) + 580 * length rows) k) at (subst (λ t. IsPlaced row (base + sum_by (λ r. r.pages) (r ∷ rows)) t k) after q)))
