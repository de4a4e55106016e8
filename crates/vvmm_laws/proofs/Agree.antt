-- Lists that agree at the places of a set.
use Rattle.std.proofs.Common.{◌≡◌, ◌+◌, ℕ, zero, suc, List, [], ◌∷◌, length, map, Bool, true, false, refl, sym, ap, ◌∙◌, Some, slice_get, slice_set, slice_index_or, true≢false, arith}
use Rattle.sys_state.specs.Places.{beside_with, changed}

-- they have one length, and from the i-th place on what is at a place of the set is the same
abbrev pub AgreeFrom : {X : Type 0} → (ℕ → Bool) → ℕ → List X → List X → Type 0
AgreeFrom far i [] [] = Unit {0}
AgreeFrom far i [] (y ∷ ys) = ⊥
AgreeFrom far i (x ∷ xs) [] = ⊥
AgreeFrom far i (x ∷ xs) (y ∷ ys) = (far i ≡ true → x ≡ y) × AgreeFrom far (suc i) xs ys

module _ {X : Type 0} (far : ℕ → Bool) where
  pub agree_refl : (i : ℕ) (xs : List X) → AgreeFrom far i xs xs
  agree_refl i [] = tt
  agree_refl i (x ∷ xs) = ((λ f. refl), agree_refl (suc i) xs)

  pub agree_sym : (i : ℕ) (xs ys : List X) → AgreeFrom far i xs ys → AgreeFrom far i ys xs
  agree_sym i [] [] a = tt
  agree_sym i [] (y ∷ ys) a = absurd a
  agree_sym i (x ∷ xs) [] a = absurd a
  agree_sym i (x ∷ xs) (y ∷ ys) a = ((λ f. sym (a.0 f)), agree_sym (suc i) xs ys a.1)

  pub agree_trans : (i : ℕ) (xs ys zs : List X) → AgreeFrom far i xs ys → AgreeFrom far i ys zs → AgreeFrom far i xs zs
  agree_trans i [] [] zs a b = b
  agree_trans i [] (y ∷ ys) zs a b = absurd a
  agree_trans i (x ∷ xs) [] zs a b = absurd a
  agree_trans i (x ∷ xs) (y ∷ ys) [] a b = absurd b
  agree_trans i (x ∷ xs) (y ∷ ys) (z ∷ zs) a b = ((λ f. a.0 f ∙ b.0 f), agree_trans (suc i) xs ys zs a.1 b.1)

  -- what is at a place of the set
  get_from : (i : ℕ) (xs ys : List X) → AgreeFrom far i xs ys → (k j : ℕ) → i + k ≡ j → far j ≡ true → slice_get xs k ≡ slice_get ys k
  get_from i [] [] a k j e f = refl
  get_from i [] (y ∷ ys) a k j e f = absurd a
  get_from i (x ∷ xs) [] a k j e f = absurd a
  get_from i (x ∷ xs) (y ∷ ys) a zero j e f = let same : i ≡ j = omega (arith, e) in ap Some (a.0 (ap far same ∙ f))
  get_from i (x ∷ xs) (y ∷ ys) a (suc k) j e f = get_from (suc i) xs ys a.1 k j (omega (arith, e)) f

  pub agree_get : (xs ys : List X) → AgreeFrom far 0 xs ys → (k : ℕ) → far k ≡ true → slice_get xs k ≡ slice_get ys k
  agree_get xs ys a k f = get_from 0 xs ys a k k (omega arith) f

  index_of_get : (xs ys : List X) (k : ℕ) (d : X) → slice_get xs k ≡ slice_get ys k → slice_index_or xs k d ≡ slice_index_or ys k d
  index_of_get [] [] k d e = refl
  index_of_get [] (y ∷ ys) zero d e = cc
  index_of_get [] (y ∷ ys) (suc k) d e = index_of_get [] ys k d e
  index_of_get (x ∷ xs) [] zero d e = cc
  index_of_get (x ∷ xs) [] (suc k) d e = index_of_get xs [] k d e
  index_of_get (x ∷ xs) (y ∷ ys) zero d e = cc
  index_of_get (x ∷ xs) (y ∷ ys) (suc k) d e = index_of_get xs ys k d e

  pub agree_index : (xs ys : List X) → AgreeFrom far 0 xs ys → (k : ℕ) (d : X) → far k ≡ true → slice_index_or xs k d ≡ slice_index_or ys k d
  agree_index xs ys a k d f = index_of_get xs ys k d (agree_get xs ys a k f)

  -- what is done alike to both
  pub agree_changed : (i : ℕ) (f : X → X) (xs ys : List X) → AgreeFrom far i xs ys → (k : ℕ) → AgreeFrom far i (changed f xs k) (changed f ys k)
  agree_changed i f [] [] a k = tt
  agree_changed i f [] (y ∷ ys) a k = absurd a
  agree_changed i f (x ∷ xs) [] a k = absurd a
  agree_changed i f (x ∷ xs) (y ∷ ys) a zero = ((λ e. ap f (a.0 e)), a.1)
  agree_changed i f (x ∷ xs) (y ∷ ys) a (suc k) = (a.0, agree_changed (suc i) f xs ys a.1 k)

  pub agree_set : (i : ℕ) (xs ys : List X) → AgreeFrom far i xs ys → (k : ℕ) (z : X) → AgreeFrom far i (slice_set xs k z) (slice_set ys k z)
  agree_set i [] [] a k z = tt
  agree_set i [] (y ∷ ys) a k z = absurd a
  agree_set i (x ∷ xs) [] a k z = absurd a
  agree_set i (x ∷ xs) (y ∷ ys) a zero z = ((λ e. refl), a.1)
  agree_set i (x ∷ xs) (y ∷ ys) a (suc k) z = (a.0, agree_set (suc i) xs ys a.1 k z)

  -- what is done at a place that isn't of the set
  changed_from : (i : ℕ) (f : X → X) (xs : List X) (k j : ℕ) → i + k ≡ j → far j ≡ false → AgreeFrom far i xs (changed f xs k)
  changed_from i f [] k j e n = tt
  changed_from i f (x ∷ xs) zero j e n = let same : i ≡ j = omega (arith, e) in ((λ t. absurd (true≢false (sym t ∙ ap far same ∙ n))), agree_refl (suc i) xs)
  changed_from i f (x ∷ xs) (suc k) j e n = ((λ t. refl), changed_from (suc i) f xs k j (omega (arith, e)) n)

  pub agree_unchanged : (f : X → X) (xs : List X) (k : ℕ) → far k ≡ false → AgreeFrom far 0 xs (changed f xs k)
  agree_unchanged f xs k n = changed_from 0 f xs k k (omega arith) n

  set_from : (i : ℕ) (xs : List X) (z : X) (k j : ℕ) → i + k ≡ j → far j ≡ false → AgreeFrom far i xs (slice_set xs k z)
  set_from i [] z k j e n = tt
  set_from i (x ∷ xs) z zero j e n = let same : i ≡ j = omega (arith, e) in ((λ t. absurd (true≢false (sym t ∙ ap far same ∙ n))), agree_refl (suc i) xs)
  set_from i (x ∷ xs) z (suc k) j e n = ((λ t. refl), set_from (suc i) xs z k j (omega (arith, e)) n)

  pub agree_unset : (xs : List X) (z : X) (k : ℕ) → far k ≡ false → AgreeFrom far 0 xs (slice_set xs k z)
  agree_unset xs z k n = set_from 0 xs z k k (omega arith) n

  -- from what is at each place
  from_places : (i : ℕ) (xs ys : List X) → length xs ≡ length ys → ((k j : ℕ) → i + k ≡ j → far j ≡ true → slice_get xs k ≡ slice_get ys k) → AgreeFrom far i xs ys
  from_places i [] [] e h = tt
  from_places i [] (y ∷ ys) e h = absurd (omega (arith, e))
  from_places i (x ∷ xs) [] e h = absurd (omega (arith, e))
  from_places i (x ∷ xs) (y ∷ ys) e h = (
    (λ f. let one = h 0 i (omega arith) f in cc),
    from_places (suc i) xs ys (omega (arith, e)) (λ k j s f. h (suc k) j (omega (arith, s)) f),
  )

  pub agree_places : (xs ys : List X) → length xs ≡ length ys → ((k : ℕ) → far k ≡ true → slice_get xs k ≡ slice_get ys k) → AgreeFrom far 0 xs ys
  agree_places xs ys e h = from_places 0 xs ys e (λ k j s f. let same : k ≡ j = omega (arith, s) in h k (ap far same ∙ f))

pub agree_map : {X Y : Type 0} (far : ℕ → Bool) (i : ℕ) (f : X → Y) (xs ys : List X) → AgreeFrom far i xs ys → AgreeFrom far i (map f xs) (map f ys)
agree_map far i f [] [] a = tt
agree_map far i f [] (y ∷ ys) a = absurd a
agree_map far i f (x ∷ xs) [] a = absurd a
agree_map far i f (x ∷ xs) (y ∷ ys) a = ((λ e. ap f (a.0 e)), agree_map far (suc i) f xs ys a.1)

pub agree_beside : {R X Y : Type 0} (far : ℕ → Bool) (i : ℕ) (f : R → X → Y) (rows : List R) (xs ys : List X) → AgreeFrom far i xs ys → AgreeFrom far i (beside_with f rows xs) (beside_with f rows ys)
agree_beside far i f [] xs ys a = tt
agree_beside far i f (row ∷ rows) [] [] a = tt
agree_beside far i f (row ∷ rows) [] (y ∷ ys) a = absurd a
agree_beside far i f (row ∷ rows) (x ∷ xs) [] a = absurd a
agree_beside far i f (row ∷ rows) (x ∷ xs) (y ∷ ys) a = ((λ e. ap (f row) (a.0 e)), agree_beside far (suc i) f rows xs ys a.1)

-- two lists of one length
abbrev pub AsLong : {X Y : Type 0} → List X → List Y → Type 0
AsLong [] [] = Unit {0}
AsLong [] (y ∷ ys) = ⊥
AsLong (x ∷ xs) [] = ⊥
AsLong (x ∷ xs) (y ∷ ys) = AsLong xs ys

pub long_map : {X Y Z : Type 0} (f : Y → Z) (xs : List X) (ys : List Y) → AsLong xs ys → AsLong xs (map f ys)
long_map f [] [] a = tt
long_map f [] (y ∷ ys) a = absurd a
long_map f (x ∷ xs) [] a = absurd a
long_map f (x ∷ xs) (y ∷ ys) a = long_map f xs ys a

pub long_set : {X Y : Type 0} (xs : List X) (ys : List Y) → AsLong xs ys → (k : ℕ) (z : Y) → AsLong xs (slice_set ys k z)
long_set [] [] a k z = tt
long_set [] (y ∷ ys) a k z = absurd a
long_set (x ∷ xs) [] a k z = absurd a
long_set (x ∷ xs) (y ∷ ys) a zero z = a
long_set (x ∷ xs) (y ∷ ys) a (suc k) z = long_set xs ys a k z
