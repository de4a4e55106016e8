-- Steps of loops.
use Rattle.std.proofs.Common.{◌≡◌, ◌<◌, ◌≤◌, ◌+◌, ◌∙◌, ℕ, List, [], ◌∷◌, ◌++◌, length, map, max, get_or, drop, sym, ap, arith}
use Rattle.std.proofs.lemmas.List.{at_drop_more, at_drop_all, map-id}
use Rattle.std.proofs.lemmas.List.FromFn.{map-range_with_len_more, length-map-range_with_len}
use Rattle.std.specs.List.{range_with_len}
use Rattle.sys_flow.specs.Layout.{greatest}

abbrev pub greatest_by : {X : Type 0} → (X → ℕ) → List X → ℕ
greatest_by f xs = greatest (map f xs)

pub greatest_more : {X : Type 0} (f : X → ℕ) (xs : List X) (i most : ℕ) (d : X) → i < length xs → max most (greatest_by f (drop i xs)) ≡ greatest_by f xs
    → max (max most (f (get_or xs i d))) (greatest_by f (drop (i + 1) xs)) ≡ greatest_by f xs
greatest_more f xs i most d h e =
    let step : greatest_by f (drop i xs) ≡ max (f (get_or xs i d)) (greatest_by f (drop (i + 1) xs)) = at_drop_more (greatest_by f) xs i d h in
    omega (arith, step, e)

pub greatest_all : {X : Type 0} (f : X → ℕ) (xs : List X) (i most : ℕ) → length xs ≤ i → max most (greatest_by f (drop i xs)) ≡ greatest_by f xs → most ≡ greatest_by f xs
greatest_all f xs i most h e =
    let none : greatest_by f (drop i xs) ≡ 0 = at_drop_all (greatest_by f) xs i h in
    omega (arith, none, e)

-- a list of the values for the first numbers grows by one
pub pushed : {X : Type 0} (f : ℕ → X) (xs : List X) (x : X) (a : ℕ) → xs ≡ map f (range_with_len 0 a) → x ≡ f a → xs ++ x ∷ [] ≡ map f (range_with_len 0 (a + 1))
pushed f xs x a is last = (λ i. is i ++ last i ∷ []) ∙ sym (map-range_with_len_more f 0 a a (omega arith))

pub as_many : {X : Type 0} (f : ℕ → X) (xs : List X) (a : ℕ) → xs ≡ map f (range_with_len 0 a) → length xs ≡ a
as_many f xs a is = ap length is ∙ length-map-range_with_len f 0 a

pub range_more : (n : ℕ) → range_with_len 0 (n + 1) ≡ range_with_len 0 n ++ n ∷ []
range_more n =
    let same : map (λ (k : ℕ). k) (range_with_len 0 (n + 1)) ≡ map (λ (k : ℕ). k) (range_with_len 0 n) ++ n ∷ [] = map-range_with_len_more (λ (k : ℕ). k) 0 n n (omega arith) in
    sym (map-id (range_with_len 0 (n + 1))) ∙ same ∙ ap (λ (ns : List ℕ). ns ++ n ∷ []) (map-id (range_with_len 0 n))
