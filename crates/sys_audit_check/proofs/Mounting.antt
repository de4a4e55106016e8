-- The mounts of the configuration, row by row.
use Rattle.std.proofs.Common.{ℕ, zero, suc, ◌≡◌, ◌<◌, ◌+◌, List, [], ◌∷◌, length, map, take, slice_set, slice_index_or, ap, arith}

-- all before a place are there, and then the one at it
pub mounted_more : {X Y : Type 0} (f : X → Y) (rows : List X) (ys : List Y) (i : ℕ) (row : X) → i < length rows → i < length ys → row ≡ slice_index_or rows i row
    → take i ys ≡ map f (take i rows) → take (i + 1) (slice_set ys i (f row)) ≡ map f (take (i + 1) rows)
mounted_more f [] ys i row h k read before = absurd (omega (arith, h))
mounted_more f (r ∷ rows) [] i row h k read before = absurd (omega (arith, k))
mounted_more f (r ∷ rows) (y ∷ ys) zero row h k read before = ap (λ x. f x ∷ []) read
mounted_more f (r ∷ rows) (y ∷ ys) (suc i) row h k read before =
    let e : suc i + 1 ≡ suc (i + 1) = omega arith in
    let first : y ≡ f r = cc in
    let others : take i ys ≡ map f (take i rows) = cc in
    let rest : take (i + 1) (slice_set ys i (f row)) ≡ map f (take (i + 1) rows) = mounted_more f rows ys i row (omega (arith, h)) (omega (arith, k)) read others in
    rw e (λ j. first j ∷ rest j)
