-- Rows of bits.
use Rattle.vv_base.specs.Bits.{is_set}
use Rattle.std.proofs.Common.{◌≡◌, ◌≢◌, ◌<◌, ◌≤◌, ◌+◌, ◌*◌, ◌%◌, ◌^◌, ◌∙◌, ◌==◌, ℕ, zero, suc, List, [], ◌∷◌, ◌++◌, length, Bool, true, false, ◌&&◌, ◌||◌, refl, sym, ap, subst, arith, ◌⊎◌, inl, inr, bit_or, get_or, set, max, length-append, length-set, drop}
use Rattle.std.specs.Int.{bit_at, w128}
use Rattle.std.specs.List.{refill}
use Rattle.std.proofs.lemmas.Nat.Bits.{bit_at-zero, bit_at_or, bit_at_set_same, bit_at_set_other, bit_at-lt}
use Rattle.std.proofs.lemmas.List.{get_or-set_same, get_or-set_other, get_or_append_left, get_or_at, get_or_past, take_at}
use Rattle.std.proofs.lemmas.Bool.{cases_lt}
use Rattle.sys_flow.specs.Relation.{reads}

pub no_bit : (k : ℕ) → is_set 0 k ≡ false
no_bit k = rw bit_at-zero refl

pub bit_set : (row k : ℕ) → k < 128 → is_set (bit_or row (1 * 2 ^ k % 2 ^ 128)) k ≡ true
bit_set row k h = ap (λ n. n == 1) (bit_at_set_same w128 row k h)

pub bit_kept : (row k j : ℕ) → k < 128 → j ≢ k → is_set (bit_or row (1 * 2 ^ k % 2 ^ 128)) j ≡ is_set row j
bit_kept row k j h ne = ap (λ n. n == 1) (bit_at_set_other w128 row k h j ne)

max_one : (x y : ℕ) → x < 2 → y < 2 → (max x y == 1) ≡ ((x == 1) || (y == 1))
max_one zero zero h j = refl
max_one zero (suc zero) h j = refl
max_one zero (suc (suc y)) h j = absurd (omega arith)
max_one (suc zero) zero h j = refl
max_one (suc zero) (suc zero) h j = refl
max_one (suc zero) (suc (suc y)) h j = absurd (omega arith)
max_one (suc (suc x)) y h j = absurd (omega arith)

pub bit_of_both : (x y k : ℕ) → is_set (bit_or x y) k ≡ (is_set x k || is_set y k)
bit_of_both x y k = ap (λ n. n == 1) (bit_at_or x y k) ∙ max_one (bit_at x k) (bit_at y k) (bit_at-lt x k) (bit_at-lt y k)

-- a row that is being filled: so far, the bits below k are those of f, and no other is set
pub record IsFilled (f : ℕ → Bool) (k row : ℕ) : Type 0 where
  pub below : (j : ℕ) → j < k → is_set row j ≡ f j
  pub above : (j : ℕ) → k ≤ j → is_set row j ≡ false

pub filled_none : (f : ℕ → Bool) → IsFilled f 0 0
filled_none f = record { below = λ j h. absurd (omega arith); above = λ j h. no_bit j }

split : (j k : ℕ) → j < k + 1 → (j < k) ⊎ (j ≡ k)
split j k h = elim (cases_lt j k) [ inl l ↦ inl l | inr l ↦ inr (omega arith) ]

pub filled_set : (f : ℕ → Bool) (k row : ℕ) → k < 128 → IsFilled f k row → f k ≡ true → IsFilled f (k + 1) (bit_or row (1 * 2 ^ k % 2 ^ 128))
filled_set f k row few is here = record { below = below; above = λ j h. bit_kept row k j few (omega arith) ∙ is.above j (omega arith) } where
  below : (j : ℕ) → j < k + 1 → is_set (bit_or row (1 * 2 ^ k % 2 ^ 128)) j ≡ f j
  below j h = elim (split j k h) [
    | inl l ↦ bit_kept row k j few (omega arith) ∙ is.below j l
    | inr e ↦ subst (λ (i : ℕ). is_set (bit_or row (1 * 2 ^ k % 2 ^ 128)) i ≡ f i) (sym e) (bit_set row k few ∙ sym here)
  ]

pub filled_left : (f : ℕ → Bool) (k row : ℕ) → IsFilled f k row → f k ≡ false → IsFilled f (k + 1) row
filled_left f k row is here = record { below = below; above = λ j h. is.above j (omega arith) } where
  below : (j : ℕ) → j < k + 1 → is_set row j ≡ f j
  below j h = elim (split j k h) [
    | inl l ↦ is.below j l
    | inr e ↦ subst (λ (i : ℕ). is_set row i ≡ f i) (sym e) (is.above k (omega arith) ∙ sym here)
  ]

-- rows that are being filled
pub record AreFilled (f : ℕ → ℕ → Bool) (n : ℕ) (rows : List ℕ) : Type 0 where
  pub len : length rows ≡ n
  pub rows_are : (a b : ℕ) → a < n → reads rows a b ≡ f a b

pub rows_more : (f : ℕ → ℕ → Bool) (n : ℕ) (rows : List ℕ) (row : ℕ) → AreFilled f n rows → ((b : ℕ) → is_set row b ≡ f n b) → AreFilled f (n + 1) (rows ++ row ∷ [])
rows_more f n rows row is last = record { len = simp length-append (omega (arith, is.len)); rows_are = here } where
  here : (a b : ℕ) → a < n + 1 → reads (rows ++ row ∷ []) a b ≡ f a b
  here a b h = elim (split a n h) [
    | inl l ↦ ap (λ x. is_set x b) (get_or_append_left rows (row ∷ []) 0 a (omega (arith, is.len))) ∙ is.rows_are a b l
    | inr e ↦ subst (λ (i : ℕ). reads (rows ++ row ∷ []) i b ≡ f i b) (sym e) (ap (λ x. is_set x b) (get_or_at rows row [] 0 n is.len) ∙ last b)
  ]

pub beyond_rows : (rows : List ℕ) (a b : ℕ) → length rows ≤ a → reads rows a b ≡ false
beyond_rows rows a b h = ap (λ x. is_set x b) (get_or_past rows a 0 h) ∙ no_bit b

-- rows that are being joined with row k
abbrev pub joined : List ℕ → ℕ → ℕ → ℕ → Bool
joined old k a b = reads old a b || (reads old a k && reads old k b)

pub record ArePassed (old : List ℕ) (k i : ℕ) (rows : List ℕ) : Type 0 where
  pub len : length rows ≡ length old
  pub later : (a b : ℕ) → a < i → reads rows a b ≡ joined old k a b
  pub ahead : (a b : ℕ) → i ≤ a → reads rows a b ≡ reads old a b

pub passed_none : (old : List ℕ) (k : ℕ) → ArePassed old k 0 old
passed_none old k = record { len = refl; later = λ a b h. absurd (omega arith); ahead = λ a b h. refl }

module _ (old : List ℕ) (k i : ℕ) (rows : List ℕ) (is : ArePassed old k i rows) where
  without : (b : ℕ) → reads old i k ≡ false → reads old i b ≡ joined old k i b
  without b e = by (reads old i b) (reads old k b) (reads old i k) e where
    by : (x y z : Bool) → z ≡ false → x ≡ (x || (z && y))
    by true y z e = refl
    by false y false e = refl
    by false y true e = absurd (cc)

  pub passed_left : is_set (get_or rows i 0) k ≡ false → ArePassed old k (i + 1) rows
  passed_left e = record { len = is.len; later = later; ahead = λ a b h. is.ahead a b (omega arith) } where
    later : (a b : ℕ) → a < i + 1 → reads rows a b ≡ joined old k a b
    later a b h = elim (split a i h) [
      | inl l ↦ is.later a b l
      | inr s ↦ subst (λ (j : ℕ). reads rows j b ≡ joined old k j b) (sym s) (is.ahead i b (omega arith) ∙ without b (sym (is.ahead i k (omega arith)) ∙ e))
    ]

  pub passed_joined : i < length rows → (beyond : ℕ) → beyond ≡ get_or old k 0 → is_set (get_or rows i 0) k ≡ true → ArePassed old k (i + 1) (set rows i (bit_or (get_or rows i 0) beyond))
  passed_joined within beyond what e = record {
    len = simp length-set is.len;
    later = later;
    ahead = λ a b h. ap (λ x. is_set x b) (get_or-set_other rows i a (bit_or (get_or rows i 0) beyond) 0 (omega arith)) ∙ is.ahead a b (omega arith);
  } where
    here : (b : ℕ) → reads (set rows i (bit_or (get_or rows i 0) beyond)) i b ≡ joined old k i b
    here b =
        ap (λ x. is_set x b) (get_or-set_same rows i (bit_or (get_or rows i 0) beyond) 0 within) ∙ bit_of_both (get_or rows i 0) beyond b
        ∙ by (is_set (get_or rows i 0) b) (reads old i b) (is_set beyond b) (reads old k b) (reads old i k) (is.ahead i b (omega arith)) (ap (λ x. is_set x b) what) (sym (is.ahead i k (omega arith)) ∙ e)
      where
        by : (x x' y y' z : Bool) → x ≡ x' → y ≡ y' → z ≡ true → (x || y) ≡ (x' || (z && y'))
        by x x' y y' true p q r = λ j. p j || q j
        by x x' y y' false p q r = absurd (cc)

    later : (a b : ℕ) → a < i + 1 → reads (set rows i (bit_or (get_or rows i 0) beyond)) a b ≡ joined old k a b
    later a b h = elim (split a i h) [
      | inl l ↦ ap (λ x. is_set x b) (get_or-set_other rows i a (bit_or (get_or rows i 0) beyond) 0 (omega arith)) ∙ is.later a b l
      | inr s ↦ subst (λ (j : ℕ). reads (set rows i (bit_or (get_or rows i 0) beyond)) j b ≡ joined old k j b) (sym s) (here b)
    ]

pub passed_all : (old : List ℕ) (k : ℕ) (rows : List ℕ) (i : ℕ) → length old ≤ i → ArePassed old k i rows → (a b : ℕ) → reads rows a b ≡ joined old k a b
passed_all old k rows i h is a b = elim (cases_lt a i) [ inl l ↦ is.later a b l | inr l ↦ beyond_rows rows a b (omega (arith, is.len)) ∙ sym (none l) ] where
  none : i ≤ a → joined old k a b ≡ false
  none l = λ j. beyond_rows old a b (omega arith) j || (beyond_rows old a k (omega arith) j && reads old k b)

-- a slice that is written whole
pub refilled : (xs ws : List ℕ) → length ws ≡ length xs → refill (length xs) xs ws ≡ ws
refilled xs ws e = take_at ws (drop (length ws) xs) (length xs) e
