-- The categories of a set as a list, and the text of such a list.
use Rattle.std.proofs.Common.{◌≡◌, ℕ, zero, suc, ◌+◌, ◌-◌, ◌*◌, ◌<◌, ◌≤◌, ◌/◌, ◌%◌, ◌^◌, ◌==◌, Bool, true, false, cond, List, [], ◌∷◌, ◌++◌, length, filter, codes, refl, sym, ap, ◌∙◌, arith, subst, append_assoc, append-nil, length-append, decimal, add-one}
use Rattle.std.specs.List.{range_with_len}
use Rattle.std.proofs.lemmas.Bool.{cond_both}
use Rattle.std.proofs.lemmas.Fmt.{length-decimal-le}
use Rattle.std.proofs.lemmas.List.{map-id}
use Rattle.std.proofs.lemmas.List.FromFn.{filter_of_map_range_with_len_more}
use Rattle.std.proofs.lemmas.Nat.{pow-add, div-mul-add, div-add-mod', mod_below, pow_pos}
use Rattle.std.proofs.Math.Nat.{div-eq_of_lt, pow-suc}
use Rattle.std.proofs.Math.Pow.{pow_mono}
use Rattle.vv_base.specs.Bits.{is_set}
use Rattle.vv_class.specs.Text.{categories_below, listed}
use Rattle.vv_class.proofs.Bits.{cut}

-- no category is below 0
zero_below : (m : ℕ) → categories_below 0 m ≡ []
unfolding categories_below
zero_below m = refl

-- one category more
pub below_more : (n cats : ℕ) → categories_below (n + 1) cats ≡ categories_below n cats ++ cond (is_set cats n) (n ∷ []) []
unfolding categories_below
below_more n cats =
    let more = filter_of_map_range_with_len_more (is_set cats) (λ k. k) 0 n n (omega arith) in
    rw (map-id (range_with_len 0 (n + 1)), map-id (range_with_len 0 n)) at more

-- the categories of a list, as the number that keeps them
abbrev pub weight : List ℕ → ℕ
weight [] = 0
weight (k ∷ ks) = 2 ^ k + weight ks

weight-append : (xs ys : List ℕ) → weight (xs ++ ys) ≡ weight xs + weight ys
weight-append [] ys = omega arith
weight-append (x ∷ xs) ys = let rest = weight-append xs ys in omega arith

pub weight_below : (n m : ℕ) → weight (categories_below n m) ≡ m % 2 ^ n
weight_below zero m = ap weight (zero_below m) ∙ omega arith
weight_below (suc n) m =
    let bit : ℕ = m / 2 ^ n % 2 in
    let rest : weight (categories_below n m) ≡ m % 2 ^ n = weight_below n m in
    ap (λ k. weight (categories_below k m)) (sym (add-one n)) ∙ ap weight (below_more n m) ∙ weight-append (categories_below n m) (cond (is_set m n) (n ∷ []) [])
    ∙ (λ i. rest i + own (m / 2 ^ n % 2) n (omega arith) i) ∙ turn (m % 2 ^ n) ((m / 2 ^ n % 2) * 2 ^ n) ∙ sym (cut m n)
  where
    own : (b n : ℕ) → b < 2 → weight (cond (b == 1) (n ∷ []) []) ≡ b * 2 ^ n
    own zero n below = omega arith
    own (suc zero) n below = omega arith
    own (suc (suc b)) n below = absurd (omega arith)

    turn : (x y : ℕ) → x + y ≡ y + x
    turn x y = omega arith

-- rising categories from a least one on
abbrev pub Rising : ℕ → List ℕ → Type 0
Rising least [] = Unit {0}
Rising least (k ∷ ks) = (least ≤ k) × (k < 64) × Rising (k + 1) ks

lower : (least more : ℕ) (ks : List ℕ) → least ≤ more → Rising more ks → Rising least ks
lower least more [] le h = tt
lower least more (k ∷ ks) le h = (omega (arith, h.0), h.1, h.2)

rising_range : (p : ℕ → Bool) (a n : ℕ) → a + n ≤ 64 → Rising a (filter p (range_with_len a n))
rising_range p a zero below = tt
rising_range p a (suc n) below =
    let rest : Rising (a + 1) (filter p (range_with_len (a + 1) n)) = rising_range p (a + 1) n (omega arith) in
    cond_both (p a) (a ∷ filter p (range_with_len (a + 1) n)) (filter p (range_with_len (a + 1) n)) (Rising a)
    (λ e. (omega arith, omega arith, rest)) (λ e. lower a (a + 1) (filter p (range_with_len (a + 1) n)) (omega arith) rest)

pub rising_below : (m : ℕ) → Rising 0 (categories_below 64 m)
unfolding categories_below
rising_below m = rising_range (is_set m) 0 64 (omega arith)

-- the categories of no set, and of a set with one above all of its own
pub none_below : categories_below 64 0 ≡ []
unfolding categories_below
none_below = refl

same_bit : (a b n : ℕ) → a / 2 ^ n % 2 ≡ b / 2 ^ n % 2 → categories_below n a ≡ categories_below n b → categories_below (suc n) a ≡ categories_below (suc n) b
same_bit a b n bit rest =
    ap (λ k. categories_below k a) (sym (add-one n)) ∙ below_more n a ∙ (λ i. rest i ++ cond (bit i == 1) (n ∷ []) []) ∙ sym (below_more n b) ∙ ap (λ k. categories_below k b) (add-one n)

low_bit : (cats n i : ℕ) → (cats + 2 ^ (n + suc i)) / 2 ^ n % 2 ≡ cats / 2 ^ n % 2
low_bit cats n i =
    let p : ℕ = 2 ^ n in
    let positive : 0 < 2 ^ n = pow_pos n in
    let split : cats / 2 ^ n * 2 ^ n + cats % 2 ^ n ≡ cats = div-add-mod' cats (2 ^ n) in
    let high : 2 ^ (n + suc i) ≡ 2 ^ n * (2 ^ i * 2) = pow-add 2 n (suc i) ∙ ap (λ x. 2 ^ n * x) (pow-suc 2 i) in
    let sum : cats + 2 ^ (n + suc i) ≡ (cats / 2 ^ n + 2 ^ i * 2) * 2 ^ n + cats % 2 ^ n = grind arith in
    ap (λ x. x / 2 ^ n % 2) sum ∙ ap (λ x. x % 2) (div-mul-add (cats / 2 ^ n + 2 ^ i * 2) (2 ^ n) (cats % 2 ^ n) (mod_below cats (2 ^ n) positive)) ∙ omega arith

below_same : (n i k cats : ℕ) → n + i ≡ k → categories_below n (cats + 2 ^ k) ≡ categories_below n cats
below_same zero i k cats e = zero_below (cats + 2 ^ k) ∙ sym (zero_below cats)
below_same (suc n) i k cats e =
    let far : n + suc i ≡ k = omega arith in
    same_bit (cats + 2 ^ k) cats n (subst (λ x. (cats + 2 ^ x) / 2 ^ n % 2 ≡ cats / 2 ^ n % 2) far (low_bit cats n i)) (below_same n (suc i) k cats far)

high_bit : (cats k n : ℕ) → cats < 2 ^ k → k ≤ n → cats / 2 ^ n % 2 ≡ 0
high_bit cats k n below le =
    let wide : 2 ^ k ≤ 2 ^ n = pow_mono le in
    let none : cats / 2 ^ n ≡ 0 = div-eq_of_lt (omega arith) in
    ap (λ x. x % 2) none

pub below_all : (r k cats : ℕ) → cats < 2 ^ k → categories_below (k + r) cats ≡ categories_below k cats
below_all zero k cats below = ap (λ n. categories_below n cats) (omega arith)
below_all (suc r) k cats below =
    let turned : k + suc r ≡ k + r + 1 = omega arith in
    ap (λ n. categories_below n cats) turned ∙ below_more (k + r) cats
    ∙ ap (λ (x : ℕ). categories_below (k + r) cats ++ cond (x == 1) ((k + r) ∷ []) []) (high_bit cats k (k + r) below (omega arith))
    ∙ append-nil (categories_below (k + r) cats) ∙ below_all r k cats below

-- a category above all of a set's own comes last
pub with_one : (cats least k : ℕ) → cats < 2 ^ least → least ≤ k → k < 64 → categories_below 64 (cats + 2 ^ k) ≡ categories_below 64 cats ++ k ∷ []
with_one cats least k below at to =
    let wide : 2 ^ least ≤ 2 ^ k = pow_mono at in
    let low : cats < 2 ^ k = omega arith in
    let up : 2 ^ (k + 1) ≡ 2 ^ k * 2 = ap (λ n. 2 ^ n) (add-one k) ∙ pow-suc 2 k in
    let room : cats + 2 ^ k < 2 ^ (k + 1) = omega arith in
    let rest : (k + 1) + (63 - k) ≡ 64 = omega arith in
    let own : k + (64 - k) ≡ 64 = omega arith in
    let top : (cats + 2 ^ k) / 2 ^ k % 2 ≡ 1 = top_bit cats k low in
    ap (λ n. categories_below n (cats + 2 ^ k)) (sym rest) ∙ below_all (63 - k) (k + 1) (cats + 2 ^ k) room ∙ below_more k (cats + 2 ^ k)
    ∙ (λ i. below_same k 0 k cats (omega arith) i ++ cond (top i == 1) (k ∷ []) [])
    ∙ ap (λ (xs : List ℕ). xs ++ k ∷ []) (sym (below_all (64 - k) k cats low) ∙ ap (λ n. categories_below n cats) own)
  where
    top_bit : (cats k : ℕ) → cats < 2 ^ k → (cats + 2 ^ k) / 2 ^ k % 2 ≡ 1
    top_bit cats k low =
        let sum : cats + 2 ^ k ≡ 1 * 2 ^ k + cats = omega arith in
        ap (λ x. x / 2 ^ k % 2) sum ∙ ap (λ x. x % 2) (div-mul-add 1 (2 ^ k) cats low)

-- what is in front of a further category: those before, and a comma
abbrev pub lead : List ℕ → List ℕ
lead [] = []
lead (k ∷ ks) = listed (k ∷ ks) ++ codes ","

pub listed-push : (ks : List ℕ) (k : ℕ) → listed (ks ++ k ∷ []) ≡ lead ks ++ decimal k
listed-push [] k = refl
listed-push (a ∷ []) k = sym (append_assoc (decimal a) (codes ",") (decimal k))
listed-push (a ∷ b ∷ ks) k =
    ap (λ (xs : List ℕ). decimal a ++ 44 ∷ xs) (listed-push (b ∷ ks) k)
    ∙ sym (append_assoc (decimal a ++ 44 ∷ listed (b ∷ ks)) (codes ",") (decimal k) ∙ append_assoc (decimal a) (44 ∷ listed (b ∷ ks)) (codes "," ++ decimal k) ∙ ap (λ (xs : List ℕ). decimal a ++ 44 ∷ xs) (sym (append_assoc (listed (b ∷ ks)) (codes ",") (decimal k))))

pub lead-push : (ks : List ℕ) (k : ℕ) → lead (ks ++ k ∷ []) ≡ lead ks ++ (decimal k ++ codes ",")
lead-push [] k = refl
lead-push (a ∷ ks) k = ap (λ (xs : List ℕ). xs ++ codes ",") (listed-push (a ∷ ks) k) ∙ append_assoc (lead (a ∷ ks)) (decimal k) (codes ",")

-- categories after the first
abbrev pub tail_text : List ℕ → List ℕ
tail_text [] = []
tail_text (k ∷ ks) = 44 ∷ (decimal k ++ tail_text ks)

pub listed-cons : (k : ℕ) (ks : List ℕ) → listed (k ∷ ks) ≡ decimal k ++ tail_text ks
listed-cons k [] = sym (append-nil (decimal k))
listed-cons k (j ∷ ks) = ap (λ (xs : List ℕ). decimal k ++ 44 ∷ xs) (listed-cons j ks)

length-lead : (ks : List ℕ) → length (lead ks) ≤ length (listed ks) + 1
length-lead [] = omega arith
length-lead (k ∷ ks) = omega (arith, length-append (listed (k ∷ ks)) (codes ","))

-- each category takes at most three bytes
pub length-listed : (n cats : ℕ) → n ≤ 64 → length (listed (categories_below n cats)) ≤ 3 * n
length-listed zero cats le = let none = ap (λ (ks : List ℕ). length (listed ks)) (zero_below cats) in omega arith
length-listed (suc n) cats le =
    let ks : List ℕ = categories_below n cats in
    let before : length (listed ks) ≤ 3 * n = length-listed n cats (omega arith) in
    let digits : length (decimal n) ≤ 2 = length-decimal-le 2 n (omega arith) (omega arith) (omega arith) in
    let P : List ℕ → Type 0 = λ xs. length (listed xs) ≤ 3 * suc n in
    let pushed : length (listed (ks ++ n ∷ [])) ≤ 3 * suc n = rw (listed-push ks n) (omega (arith, length-append (lead ks) (decimal n), length-lead ks)) in
    let same : length (listed (ks ++ [])) ≤ 3 * suc n = rw (append-nil ks) (omega arith) in
    subst P (sym (ap (λ k. categories_below k cats) (sym (add-one n)) ∙ below_more n cats))
    (cond_both (is_set cats n) (n ∷ []) [] (λ (xs : List ℕ). length (listed (ks ++ xs)) ≤ 3 * suc n) (λ e. pushed) (λ e. same))

-- the texts of numbers
pub two_digits : (n : ℕ) → n < 64 → length (decimal n) ≤ 2
two_digits n below = length-decimal-le 2 n (omega arith) (omega arith) (omega arith)

pub three_digits : (n : ℕ) → n < 256 → length (decimal n) ≤ 3
three_digits n below = length-decimal-le 3 n (omega arith) (omega arith) (omega arith)

pub ruleset lengths = (two_digits, three_digits)

-- writing the categories of a set in turn
pub begun : (text : List ℕ) (cats : ℕ) → text ≡ text ++ listed (categories_below 0 cats)
begun text cats = sym (ap (λ (ks : List ℕ). text ++ listed ks) (zero_below cats) ∙ append-nil text)

pub begun_comma : (cats : ℕ) → listed (categories_below 0 cats) ++ [] ≡ lead (categories_below 0 cats)
begun_comma cats = ap (λ (ks : List ℕ). listed ks ++ []) (zero_below cats) ∙ sym (ap lead (zero_below cats))

pub below_skipped : (cats k : ℕ) → is_set cats k ≡ false → categories_below (k + 1) cats ≡ categories_below k cats
below_skipped cats k out = below_more k cats ∙ ap (λ t. categories_below k cats ++ cond t (k ∷ []) []) out ∙ append-nil (categories_below k cats)

below_kept : (cats k : ℕ) → is_set cats k ≡ true → categories_below (k + 1) cats ≡ categories_below k cats ++ k ∷ []
below_kept cats k is = below_more k cats ∙ ap (λ t. categories_below k cats ++ cond t (k ∷ []) []) is

pub one_more : (start text comma : List ℕ) (cats k : ℕ) → is_set cats k ≡ true → text ≡ start ++ listed (categories_below k cats) → listed (categories_below k cats) ++ comma ≡ lead (categories_below k cats)
    → text ++ comma ++ decimal k ≡ start ++ listed (categories_below (k + 1) cats)
one_more start text comma cats k is written lead_is =
    let ks : List ℕ = categories_below k cats in
    ap (λ (xs : List ℕ). xs ++ comma ++ decimal k) written ∙ ap (λ (xs : List ℕ). xs ++ decimal k) (append_assoc start (listed ks) comma ∙ ap (λ (xs : List ℕ). start ++ xs) lead_is)
    ∙ append_assoc start (lead ks) (decimal k) ∙ sym (ap (λ (xs : List ℕ). start ++ listed xs) (below_kept cats k is) ∙ ap (λ (xs : List ℕ). start ++ xs) (listed-push ks k))

lead_after : (ks : List ℕ) (k : ℕ) → listed (ks ++ k ∷ []) ++ codes "," ≡ lead (ks ++ k ∷ [])
lead_after [] k = refl
lead_after (a ∷ ks) k = refl

pub comma_more : (cats k : ℕ) → is_set cats k ≡ true → listed (categories_below (k + 1) cats) ++ codes "," ≡ lead (categories_below (k + 1) cats)
comma_more cats k is =
    let kept = below_kept cats k is in
    ap (λ (ks : List ℕ). listed ks ++ codes ",") kept ∙ lead_after (categories_below k cats) k ∙ sym (ap lead kept)
