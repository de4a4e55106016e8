-- The sum of the first registers, where one of them changes.
use Rattle.std.proofs.Common.{◌≡◌, ◌≢◌, ℕ, zero, suc, ◌+◌, ◌*◌, ◌<◌, ◌≤◌, List, [], ◌∷◌, length, sum, take, arith, slice_index}
use Rattle.std.proofs.lemmas.List.Sums.{sum_by-cons}

one_more : (x : ℕ) (xs : List ℕ) → sum (x ∷ xs) ≡ x + sum xs
one_more x xs = sum_by-cons (λ (n : ℕ). n) x xs

-- lists that are alike so far have one sum
alike_sum : (k : ℕ) (r q : List ℕ) → length r ≡ length q → ((i : ℕ) → i < k → slice_index q i ≡ slice_index r i) → sum (take k q) ≡ sum (take k r)
alike_sum zero r q same h = omega arith
alike_sum (suc k) [] [] same h = omega arith
alike_sum (suc k) [] (y ∷ q) same h = absurd (omega (arith, same))
alike_sum (suc k) (x ∷ r) [] same h = absurd (omega (arith, same))
alike_sum (suc k) (x ∷ r) (y ∷ q) same h =
    let first : y ≡ x = h 0 (omega arith) in
    let rest : sum (take k q) ≡ sum (take k r) = alike_sum k r q (omega (arith, same)) (λ i low. h (suc i) (omega arith)) in
    omega (arith, first, rest, one_more y (take k q), one_more x (take k r))

pub changed_sum : (k n : ℕ) (r q : List ℕ) → length r ≡ length q → n < k → n < length r → ((i : ℕ) → i < k → i ≢ n → slice_index q i ≡ slice_index r i) →
    sum (take k q) + slice_index r n ≡ sum (take k r) + slice_index q n
changed_sum zero n r q same low there h = absurd (omega arith)
changed_sum (suc k) n [] q same low there h = absurd (omega arith)
changed_sum (suc k) n (x ∷ r) [] same low there h = absurd (omega (arith, same))
changed_sum (suc k) zero (x ∷ r) (y ∷ q) same low there h =
    let rest : sum (take k q) ≡ sum (take k r) = alike_sum k r q (omega (arith, same)) (λ i few. h (suc i) (omega arith) (λ e. omega (arith, e))) in
    omega (arith, rest, one_more y (take k q), one_more x (take k r))
changed_sum (suc k) (suc n) (x ∷ r) (y ∷ q) same low there h =
    let first : y ≡ x = h 0 (omega arith) (λ e. omega (arith, e)) in
    let rest : sum (take k q) + slice_index r n ≡ sum (take k r) + slice_index q n = changed_sum k n r q (omega (arith, same)) (omega arith) (omega arith) (λ i few ne. h (suc i) (omega arith) (λ e. ne (omega (arith, e)))) in
    omega (arith, first, rest, one_more y (take k q), one_more x (take k r))

-- each is within the sum
pub part_of_sum : (k n : ℕ) (r : List ℕ) → n < k → slice_index r n ≤ sum (take k r)
part_of_sum zero n r low = absurd (omega arith)
part_of_sum (suc k) n [] low = omega arith
part_of_sum (suc k) zero (x ∷ r) low = omega (arith, one_more x (take k r))
part_of_sum (suc k) (suc n) (x ∷ r) low = let rest : slice_index r n ≤ sum (take k r) = part_of_sum k n r (omega arith) in omega (arith, rest, one_more x (take k r))

pub small_sum : (k most : ℕ) (r : List ℕ) → ((i : ℕ) → slice_index r i < most) → sum (take k r) ≤ k * most
small_sum zero most r h = omega arith
small_sum (suc k) most [] h = omega arith
small_sum (suc k) most (x ∷ r) h =
    let first : x < most = h 0 in
    let rest : sum (take k r) ≤ k * most = small_sum k most r (λ i. h (suc i)) in
    omega (arith, first, rest, one_more x (take k r))
