-- An element that is set twice, and elements that are changed one by one.
use Rattle.std.proofs.Common.{◌≡◌, ◌+◌, ◌<◌, ℕ, zero, suc, List, [], ◌∷◌, ◌++◌, drop, length, map, slice_index_or, slice_set, take, refl, sym, ap, ◌∙◌, add-one, arith}

pub set_over : {X Y : Type 0} (f : X → Y) (xs : List X) (t : ℕ) (x : X) (y : Y) → slice_set (map f (slice_set xs t x)) t y ≡ slice_set (map f xs) t y
set_over f [] t x y = refl
set_over f (z ∷ xs) zero x y = refl
set_over f (z ∷ xs) (suc t) x y = ap (λ ys. f z ∷ ys) (set_over f xs t x y)

step : {X : Type 0} (f : X → X) (xs : List X) (t : ℕ) (d : X) → t < length xs
    → slice_set (map f (take t xs) ++ drop t xs) t (f (slice_index_or (map f (take t xs) ++ drop t xs) t d)) ≡ map f (take (suc t) xs) ++ drop (suc t) xs
step f [] t d h = absurd (omega arith)
step f (x ∷ xs) zero d h = refl
step f (x ∷ xs) (suc t) d h = ap (λ ys. f x ∷ ys) (step f xs t d (omega arith))

pub changed_one : {X : Type 0} (f : X → X) (xs at : List X) (t : ℕ) (d y : X) → t < length xs → at ≡ map f (take t xs) ++ drop t xs → y ≡ f (slice_index_or at t d) → slice_set at t y ≡ map f (take (t + 1) xs) ++ drop (t + 1) xs
changed_one f xs at t d y h e k =
    ap (slice_set at t) k ∙ ap (λ (zs : List _). slice_set zs t (f (slice_index_or zs t d))) e ∙ step f xs t d h ∙ sym (ap (λ (n : ℕ). map f (take n xs) ++ drop n xs) (add-one t))
