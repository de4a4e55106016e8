-- Lists that are beside the rows, seen through what is kept of the rows.
use Rattle.std.proofs.Common.{◌≡◌, ℕ, zero, suc, List, [], ◌∷◌, map, Bool, true, false, refl, sym, ap, Some, slice_get, slice_set, slice_index_or}
use Rattle.sys_purge.proofs.Kept.{both}
use Rattle.sys_purge.specs.Input.{beside}
use Rattle.sys_purge.specs.Purge.{rank}
use Rattle.sys_state.specs.Places.{changed}

-- whether the row at a place passes
abbrev pub passes_at : {X : Type 0} → (X → Bool) → List X → ℕ → Bool
passes_at test [] k = false
passes_at test (x ∷ xs) zero = test x
passes_at test (x ∷ xs) (suc k) = passes_at test xs k

pub passes_row : {X : Type 0} (test : X → Bool) (xs : List X) (k : ℕ) (x : X) → slice_get xs k ≡ Some x → passes_at test xs k ≡ test x
passes_row test [] k x h = cc
passes_row test (y ∷ ys) zero x h = let s : y ≡ x = cc in ap test s
passes_row test (y ∷ ys) (suc k) x h = passes_row test ys k x h

module _ {X Y : Type 0} (test : X → Bool) where
  pub beside_set : (xs : List X) (ys : List Y) (k : ℕ) (y : Y) → passes_at test xs k ≡ true → beside test xs (slice_set ys k y) ≡ slice_set (beside test xs ys) (rank test xs k) y
  beside_set [] ys k y h = refl
  beside_set (x ∷ xs) [] k y h = refl
  beside_set (x ∷ xs) (z ∷ zs) zero y h = rw h refl
  beside_set (x ∷ xs) (z ∷ zs) (suc k) y h = let rest = beside_set xs zs k y h in both (test x) (λ e. rw e (ap (λ ws. z ∷ ws) rest)) (λ e. rw e rest)

  pub beside_unset : (xs : List X) (ys : List Y) (k : ℕ) (y : Y) → passes_at test xs k ≡ false → beside test xs (slice_set ys k y) ≡ beside test xs ys
  beside_unset [] ys k y h = refl
  beside_unset (x ∷ xs) [] k y h = refl
  beside_unset (x ∷ xs) (z ∷ zs) zero y h = rw h refl
  beside_unset (x ∷ xs) (z ∷ zs) (suc k) y h = let rest = beside_unset xs zs k y h in both (test x) (λ e. rw e (ap (λ ws. z ∷ ws) rest)) (λ e. rw e rest)

  pub beside_changed : (f : Y → Y) (xs : List X) (ys : List Y) (k : ℕ) → passes_at test xs k ≡ true → beside test xs (changed f ys k) ≡ changed f (beside test xs ys) (rank test xs k)
  beside_changed f [] ys k h = refl
  beside_changed f (x ∷ xs) [] k h = refl
  beside_changed f (x ∷ xs) (z ∷ zs) zero h = rw h refl
  beside_changed f (x ∷ xs) (z ∷ zs) (suc k) h = let rest = beside_changed f xs zs k h in both (test x) (λ e. rw e (ap (λ ws. z ∷ ws) rest)) (λ e. rw e rest)

  pub beside_unchanged : (f : Y → Y) (xs : List X) (ys : List Y) (k : ℕ) → passes_at test xs k ≡ false → beside test xs (changed f ys k) ≡ beside test xs ys
  beside_unchanged f [] ys k h = refl
  beside_unchanged f (x ∷ xs) [] k h = refl
  beside_unchanged f (x ∷ xs) (z ∷ zs) zero h = rw h refl
  beside_unchanged f (x ∷ xs) (z ∷ zs) (suc k) h = let rest = beside_unchanged f xs zs k h in both (test x) (λ e. rw e (ap (λ ws. z ∷ ws) rest)) (λ e. rw e rest)

  pub get_beside : (xs : List X) (ys : List Y) (k : ℕ) → passes_at test xs k ≡ true → slice_get (beside test xs ys) (rank test xs k) ≡ slice_get ys k
  get_beside [] ys k h = cc
  get_beside (x ∷ xs) [] zero h = refl
  get_beside (x ∷ xs) [] (suc k) h = refl
  get_beside (x ∷ xs) (y ∷ ys) zero h = rw h refl
  get_beside (x ∷ xs) (y ∷ ys) (suc k) h = let rest = get_beside xs ys k h in both (test x) (λ e. rw e rest) (λ e. rw e rest)

  pub index_beside : (xs : List X) (ys : List Y) (k : ℕ) (d : Y) → passes_at test xs k ≡ true → slice_index_or (beside test xs ys) (rank test xs k) d ≡ slice_index_or ys k d
  index_beside [] ys k d h = cc
  index_beside (x ∷ xs) [] k d h = refl
  index_beside (x ∷ xs) (y ∷ ys) zero d h = rw h refl
  index_beside (x ∷ xs) (y ∷ ys) (suc k) d h = let rest = index_beside xs ys k d h in both (test x) (λ e. rw e rest) (λ e. rw e rest)

pub beside_map : {X Y Z : Type 0} (test : X → Bool) (f : Y → Z) (xs : List X) (ys : List Y) → beside test xs (map f ys) ≡ map f (beside test xs ys)
beside_map test f [] ys = refl
beside_map test f (x ∷ xs) [] = refl
beside_map test f (x ∷ xs) (y ∷ ys) = let rest = beside_map test f xs ys in both (test x) (λ e. rw e (ap (λ ws. f y ∷ ws) rest)) (λ e. rw e rest)

-- an element that is set to what is made of it is changed
pub set_is_changed : {X : Type 0} (f : X → X) (xs : List X) (k : ℕ) (d : X) → slice_set xs k (f (slice_index_or xs k d)) ≡ changed f xs k
set_is_changed f [] k d = refl
set_is_changed f (x ∷ xs) zero d = refl
set_is_changed f (x ∷ xs) (suc k) d = ap (λ ys. x ∷ ys) (set_is_changed f xs k d)

pub map_changed : {X Y : Type 0} (h : X → Y) (f : X → X) (g : Y → Y) → ((x : X) → h (f x) ≡ g (h x)) → (xs : List X) (k : ℕ) → map h (changed f xs k) ≡ changed g (map h xs) k
map_changed h f g e [] k = refl
map_changed h f g e (x ∷ xs) zero = ap (λ y. y ∷ map h xs) (e x)
map_changed h f g e (x ∷ xs) (suc k) = ap (λ ys. h x ∷ ys) (map_changed h f g e xs k)

pub map_set : {X Y : Type 0} (f : X → Y) (xs : List X) (k : ℕ) (y : X) → map f (slice_set xs k y) ≡ slice_set (map f xs) k (f y)
map_set f [] k y = refl
map_set f (x ∷ xs) zero y = refl
map_set f (x ∷ xs) (suc k) y = ap (λ ys. f x ∷ ys) (map_set f xs k y)

pub index_map : {X Y : Type 0} (f : X → Y) (xs : List X) (k : ℕ) (d : X) (e : Y) → f d ≡ e → slice_index_or (map f xs) k e ≡ f (slice_index_or xs k d)
index_map f [] k d e h = sym h
index_map f (x ∷ xs) zero d e h = refl
index_map f (x ∷ xs) (suc k) d e h = index_map f xs k d e h
