-- Elements of lists by their places.
use Rattle.std.proofs.Common.{ℕ, zero, suc, ◌≡◌, ◌<◌, ◌+◌, List, [], ◌∷◌, ◌++◌, length, map, take, drop, slice_index_or, slice_set, refl, ap, arith}
use Rattle.sys_state.specs.Places.{changed}

-- a change at a place is a write there
pub set_changed : {X : Type 0} (f : X → X) (xs : List X) (k : ℕ) (x : X) → k < length xs → x ≡ slice_index_or xs k x → slice_set xs k (f x) ≡ changed f xs k
set_changed f [] k x h read = absurd (omega (arith, h))
set_changed f (y ∷ ys) zero x h read = ap (λ z. f z ∷ ys) read
set_changed f (y ∷ ys) (suc k) x h read = ap (λ zs. y ∷ zs) (set_changed f ys k x (omega (arith, h)) read)

pub set_changed_number : (f : ℕ → ℕ) (xs : List ℕ) (k d : ℕ) → k < length xs → slice_set xs k (f (slice_index_or xs k d)) ≡ changed f xs k
set_changed_number f [] k d h = absurd (omega (arith, h))
set_changed_number f (y ∷ ys) zero d h = refl
set_changed_number f (y ∷ ys) (suc k) d h = ap (λ zs. y ∷ zs) (set_changed_number f ys k d (omega (arith, h)))

-- all before a place are written, and then the one there
pub written_next : {X Y : Type 0} (f : X → Y) (rows : List X) (left : List Y) (i : ℕ) (d : X) → i < length rows → length left ≡ length rows → slice_set (map f (take i rows) ++ drop i left) i (f (slice_index_or rows i d)) ≡ map f (take (i + 1) rows) ++ drop (i + 1) left
written_next f [] left i d h long = absurd (omega (arith, h))
written_next f (row ∷ rows) [] i d h long = absurd (omega (arith, long))
written_next f (row ∷ rows) (n ∷ left) zero d h long = refl
written_next f (row ∷ rows) (n ∷ left) (suc i) d h long =
    let e : suc i + 1 ≡ suc (i + 1) = omega arith in
    rw e (ap (λ ys. f row ∷ ys) (written_next f rows left i d (omega (arith, h)) (omega (arith, long))))
