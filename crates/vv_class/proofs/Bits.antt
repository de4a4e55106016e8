-- The categories of sets that are kept as numbers.
use Rattle.std.proofs.Common.{◌≡◌, ℕ, zero, suc, ◌+◌, ◌*◌, ◌<◌, ◌≤◌, ◌/◌, ◌%◌, ◌^◌, ◌==◌, Bool, true, false, not, ◌&&◌, ◌||◌, inl, inr, refl, sym, ap, ◌∙◌, arith, bit_and, bit_or, subst}
use Rattle.std.specs.List.{list_all, range_with_len}
use Rattle.std.proofs.lemmas.Bool.{and_from, and_parts, cases_eq, eqb-true, eq-eqb, true≢false, false≢true}
use Rattle.std.proofs.lemmas.Nat.{mod-pow-add, and_shr, and_mod, and_le_l, or_shr, or_mod}
use Rattle.vv_class.specs.Class.{is_subset}
use Rattle.vv_base.specs.Bits.{is_set}

-- one bit more
pub cut : (m n : ℕ) → m % 2 ^ suc n ≡ (m / 2 ^ n % 2) * 2 ^ n + m % 2 ^ n
cut m n = let turned : suc n ≡ 1 + n = omega arith in ap (λ x. m % 2 ^ x) turned ∙ mod-pow-add m 1 n

bit_value : (x y : ℕ) → x < 2 → y < 2 → (x == 1) ≡ (y == 1) → x ≡ y
bit_value zero zero below_x below_y e = refl
bit_value zero (suc zero) below_x below_y e = absurd (false≢true e)
bit_value (suc zero) zero below_x below_y e = absurd (true≢false e)
bit_value (suc zero) (suc zero) below_x below_y e = refl
bit_value (suc (suc x)) y below_x below_y e = absurd (omega arith)
bit_value zero (suc (suc y)) below_x below_y e = absurd (omega arith)
bit_value (suc zero) (suc (suc y)) below_x below_y e = absurd (omega arith)

-- numbers with the same categories have the same low bits
pub same_below : (a b n : ℕ) → ((k : ℕ) → k < n → is_set a k ≡ is_set b k) → a % 2 ^ n ≡ b % 2 ^ n
same_below a b zero h = omega arith
same_below a b (suc n) h =
    let top : a / 2 ^ n % 2 ≡ b / 2 ^ n % 2 = bit_value (a / 2 ^ n % 2) (b / 2 ^ n % 2) (omega arith) (omega arith) (h n (omega arith)) in
    let rest : a % 2 ^ n ≡ b % 2 ^ n = same_below a b n (λ k below. h k (omega arith)) in
    cut a n ∙ (λ i. top i * 2 ^ n + rest i) ∙ sym (cut b n)

pub bool_same : (s t : Bool) → (s ≡ true → t ≡ true) → (t ≡ true → s ≡ true) → s ≡ t
bool_same true t f g = sym (f refl)
bool_same false true f g = g refl
bool_same false false f g = refl

pub same_sets : (a b : ℕ) → a < 2 ^ 64 → b < 2 ^ 64 → ((k : ℕ) → k < 64 → is_set a k ≡ is_set b k) → a ≡ b
same_sets a b below_a below_b h =
    let low : a % 2 ^ 64 ≡ b % 2 ^ 64 = same_below a b 64 h in
    omega (arith, low, below_a, below_b)

one_bit_and : (x y : ℕ) → x < 2 → y < 2 → (bit_and x y == 1) ≡ ((x == 1) && (y == 1))
one_bit_and zero zero p q = refl
one_bit_and zero (suc zero) p q = refl
one_bit_and (suc zero) zero p q = refl
one_bit_and (suc zero) (suc zero) p q = refl
one_bit_and (suc (suc x)) y p q = absurd (omega arith)
one_bit_and zero (suc (suc y)) p q = absurd (omega arith)
one_bit_and (suc zero) (suc (suc y)) p q = absurd (omega arith)

one_bit_or : (x y : ℕ) → x < 2 → y < 2 → (bit_or x y == 1) ≡ ((x == 1) || (y == 1))
one_bit_or zero zero p q = refl
one_bit_or zero (suc zero) p q = refl
one_bit_or (suc zero) zero p q = refl
one_bit_or (suc zero) (suc zero) p q = refl
one_bit_or (suc (suc x)) y p q = absurd (omega arith)
one_bit_or zero (suc (suc y)) p q = absurd (omega arith)
one_bit_or (suc zero) (suc (suc y)) p q = absurd (omega arith)

-- the categories of two sets at once
pub has_and : (a b k : ℕ) → is_set (bit_and a b) k ≡ (is_set a k && is_set b k)
has_and a b k =
    let bits : bit_and a b / 2 ^ k % 2 ≡ bit_and (a / 2 ^ k % 2) (b / 2 ^ k % 2) = ap (λ x. x % 2) (and_shr a b k) ∙ and_mod (a / 2 ^ k) (b / 2 ^ k) 1 in
    ap (λ x. x == 1) bits ∙ one_bit_and (a / 2 ^ k % 2) (b / 2 ^ k % 2) (omega arith) (omega arith)

pub has_or : (a b k : ℕ) → is_set (bit_or a b) k ≡ (is_set a k || is_set b k)
has_or a b k =
    let bits : bit_or a b / 2 ^ k % 2 ≡ bit_or (a / 2 ^ k % 2) (b / 2 ^ k % 2) = ap (λ x. x % 2) (or_shr a b k) ∙ or_mod (a / 2 ^ k) (b / 2 ^ k) 1 in
    ap (λ x. x == 1) bits ∙ one_bit_or (a / 2 ^ k % 2) (b / 2 ^ k % 2) (omega arith) (omega arith)

-- a test of each number of a range
pub all_of : (p : ℕ → Bool) (a n : ℕ) → ((k : ℕ) → a ≤ k → k < a + n → p k ≡ true) → list_all p (range_with_len a n) ≡ true
all_of p a zero h = refl
all_of p a (suc n) h =
    and_from (p a) (list_all p (range_with_len (a + 1) n)) (h a (omega arith) (omega arith)) (all_of p (a + 1) n (λ k from to. h k (omega arith) (omega arith)))

pub each_of : (p : ℕ → Bool) (a n : ℕ) → list_all p (range_with_len a n) ≡ true → (k : ℕ) → a ≤ k → k < a + n → p k ≡ true
each_of p a zero all k from to = absurd (omega arith)
each_of p a (suc n) all k from to =
    let both = and_parts (p a) (list_all p (range_with_len (a + 1) n)) all in
    elim (cases_eq a k) [
      | inl same ↦ subst (λ n. p n ≡ true) same both.0
      | inr other ↦ each_of p (a + 1) n both.1 k (omega arith) (omega arith)
    ]

implied : (x y : Bool) → (x && y) ≡ x → (not x || y) ≡ true
implied true y e = e
implied false y e = refl

implies : (x y : Bool) → (not x || y) ≡ true → (x && y) ≡ x
implies true y e = e
implies false y e = refl

pub implies_at : (x y : Bool) → (not x || y) ≡ true → x ≡ true → y ≡ true
implies_at true y e h = e
implies_at false y e h = absurd (false≢true h)

pub implied_by : (x y : Bool) → (x ≡ true → y ≡ true) → (not x || y) ≡ true
implied_by true y f = f refl
implied_by false y f = refl

-- a set is part of another where nothing of it goes at an `&`
pub subset_law : (a b : ℕ) → a < 2 ^ 64 → (bit_and a b == a) ≡ is_subset a b
unfolding is_subset
subset_law a b below =
    let p : ℕ → Bool = λ k. not (is_set a k) || is_set b k in
    bool_same (bit_and a b == a) (list_all p (range_with_len 0 64))
    (λ yes. let same : bit_and a b ≡ a = eqb-true (bit_and a b) a yes in
    all_of p 0 64 (λ k from to. implied (is_set a k) (is_set b k) (sym (has_and a b k) ∙ ap (λ n. is_set n k) same)))
    (λ yes. eq-eqb (bit_and a b) a (same_sets (bit_and a b) a (let le = and_le_l a b in omega arith) below
    (λ k to. has_and a b k ∙ implies (is_set a k) (is_set b k) (each_of p 0 64 yes k (omega arith) (omega arith)))))
