-- A list of which one element is written.
use Rattle.std.proofs.Common.{ℕ, zero, suc, ◌≡◌, ◌<◌, List, [], ◌∷◌, length, map, slice_set, slice_index_or, refl, sym, ◌∙◌, ap, subst, arith, Option, Some, None}
use Rattle.std.proofs.lemmas.List.Elements.{All-cons}
use Rattle.std.specs.List.{All, slice_get}
use Rattle.sys_state.specs.Places.{changed}

-- the elements of a list, each with what holds at its place
pub map_same : {X Y : Type 0} (f h : X → Y) (xs : List X) → ((i : ℕ) (y : X) → i < length xs → y ≡ slice_index_or xs i y → h y ≡ f y) → map h xs ≡ map f xs
map_same f h [] same = refl
map_same f h (x ∷ xs) same =
    let one = same 0 x (omega arith) refl in
    let rest = map_same f h xs (λ i y l e. same (suc i) y (omega (arith, l)) e) in
    λ j. one j ∷ rest j

pub map_set : {X Y : Type 0} (f h : X → Y) (g : Y → Y) (xs : List X) (k : ℕ) (x x' : X) → k < length xs → x ≡ slice_index_or xs k x → ((i : ℕ) (y : X) → i < length xs → (i ≡ k → ⊥) → y ≡ slice_index_or xs i y → h y ≡ f y) → h x' ≡ g (f x) → map h (slice_set xs k x') ≡ changed g (map f xs) k
map_set f h g [] k x x' l read same new = absurd (omega (arith, l))
map_set f h g (z ∷ xs) zero x x' l read same new =
    let one = new ∙ ap (λ y. g (f y)) read in
    let rest = map_same f h xs (λ i y m e. same (suc i) y (omega (arith, m)) (λ q. no i q) e) in
    λ j. one j ∷ rest j
  where
    no : (i : ℕ) → suc i ≡ 0 → ⊥
    no i q = omega (arith, q)
map_set f h g (z ∷ xs) (suc k) x x' l read same new =
    let one = same 0 z (omega arith) (λ q. no k q) refl in
    let rest = map_set f h g xs k x x' (omega (arith, l)) read (λ i y m ne e. same (suc i) y (omega (arith, m)) (λ q. ne (less i k q)) e) new in
    λ j. one j ∷ rest j
  where
    no : (k : ℕ) → 0 ≡ suc k → ⊥
    no k q = omega (arith, q)

    less : (i k : ℕ) → suc i ≡ suc k → i ≡ k
    less i k q = omega (arith, q)

pub all_same : {X : Type 0} (Q : X → Type 0) (xs : List X) → ((i : ℕ) (y : X) → i < length xs → y ≡ slice_index_or xs i y → Q y) → All Q xs
all_same Q [] each = λ i d l. absurd (omega (arith, l))
all_same Q (x ∷ xs) each = All-cons Q x xs (each 0 x (omega arith) refl) (all_same Q xs (λ i y l e. each (suc i) y (omega (arith, l)) e))

pub all_set : {X : Type 0} (Q : X → Type 0) (xs : List X) (k : ℕ) (x' : X) → Q x' → ((i : ℕ) (y : X) → i < length xs → (i ≡ k → ⊥) → y ≡ slice_index_or xs i y → Q y) → All Q (slice_set xs k x')
all_set Q [] k x' new each = λ i d l. absurd (omega (arith, l))
all_set Q (x ∷ xs) zero x' new each = All-cons Q x' xs new (all_same Q xs (λ i y l e. each (suc i) y (omega (arith, l)) (λ q. no i q) e))
  where
    no : (i : ℕ) → suc i ≡ 0 → ⊥
    no i q = omega (arith, q)
all_set Q (x ∷ xs) (suc k) x' new each = All-cons Q x (slice_set xs k x') (each 0 x (omega arith) (λ q. no k q) refl) (all_set Q xs k x' new (λ i y l ne e. each (suc i) y (omega (arith, l)) (λ q. ne (less i k q)) e))
  where
    no : (k : ℕ) → 0 ≡ suc k → ⊥
    no k q = omega (arith, q)

    less : (i k : ℕ) → suc i ≡ suc k → i ≡ k
    less i k q = omega (arith, q)

-- what holds of all holds of one
pub one_of_all : {X : Type 0} (Q : X → Type 0) (xs : List X) (k : ℕ) (x : X) → k < length xs → x ≡ slice_index_or xs k x → All Q xs → Q x
one_of_all Q xs k x l read all = subst (λ y. Q y) (sym read) (all k x l)

pub get_at : {X : Type 0} (xs : List X) (k : ℕ) (x : X) → k < length xs → x ≡ slice_index_or xs k x → slice_get xs k ≡ Some x
get_at [] k x h read = absurd (omega (arith, h))
get_at (y ∷ xs) zero x h read = ap Some (sym read)
get_at (y ∷ xs) (suc k) x h read = get_at xs k x (omega (arith, h)) read

pub get_map : {X Y : Type 0} (f : X → Y) (xs : List X) (k : ℕ) (x : X) → k < length xs → x ≡ slice_index_or xs k x → slice_get (map f xs) k ≡ Some (f x)
get_map f [] k x h read = absurd (omega (arith, h))
get_map f (y ∷ xs) zero x h read = ap (λ z. Some (f z)) (sym read)
get_map f (y ∷ xs) (suc k) x h read = get_map f xs k x (omega (arith, h)) read

pub none_some : {X : Type 0} (x : X) → (let o : Option X = None in o ≡ Some x) → ⊥
none_some x e = cc

same_some : {X : Type 0} (a b : X) → (let o : Option X = Some a in o ≡ Some b) → a ≡ b
same_some a b e = cc

-- an element that exists is the one at its place
pub got : {X : Type 0} (xs : List X) (k : ℕ) (x : X) → slice_get xs k ≡ Some x → x ≡ slice_index_or xs k x
got [] k x e = absurd (none_some x e)
got (y ∷ xs) zero x e = sym (same_some y x e)
got (y ∷ xs) (suc k) x e = got xs k x e
