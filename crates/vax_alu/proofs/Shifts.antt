-- What shifts by far counts give.
use Rattle.std.proofs.Common.{◌≡◌, ◌≢◌, ℕ, zero, suc, ◌+◌, ◌-◌, ◌*◌, ◌/◌, ◌^◌, ◌<◌, ◌≤◌, true, false, not, eqb, ℤ, pos, negsuc, neg_ℤ, ◌<ℤ◌, ◌≤ℤ◌, FitsSigned, of_z, w32, arith, refl, sym, ap, ◌∙◌, mul_assoc}
use Rattle.std.specs.Prelude.{unsigned_abs}
use Rattle.std.specs.Int.{int_div_euclid}
use Rattle.std.proofs.lemmas.Bool.Decides.{nat_tests}
use Rattle.std.proofs.Math.Nat.{mul-pos}
use Rattle.std.proofs.Math.Pow.{pow_mono}
use Rattle.std.proofs.lemmas.Int.{ints}
use Rattle.std.proofs.lemmas.Nat.{pow-add, pow_pos, div_below}
use Rattle.vv_base.specs.declared.width.Width.{Width}
use Rattle.vv_base.specs.declared.width.Width.TheVariants.{Byte, Word, Long, Quad}
use Rattle.vax_table.specs.Arithmetic.{reduced, does_fit, valued, exactly, shifted}

-- a number below 2 ^ 31 by 2 ^ 32 or more is 0
far_div : (a k : ℕ) → a < 2 ^ 31 → 32 ≤ k → a / 2 ^ k ≡ 0
far_div a k h m = let p : 2 ^ 32 ≤ 2 ^ k = pow_mono m in let l : a / 2 ^ k < 1 = div_below a (2 ^ k) 1 (pow_pos k) (omega arith) in omega arith

-- a signed longword by 2 ^ 32 or more, rounded down, is its sign
pub far_minus : (x : ℤ) (k : ℕ) → FitsSigned w32 x → x <ℤ pos 0 → 32 ≤ k → negsuc 0 ≡ int_div_euclid x (pos (2 ^ k))
far_minus (pos a) k f h m = absurd (omega (arith, ints))
far_minus (negsuc a) k f h m = let l : a < 2 ^ 31 = omega (arith, ints) in ap negsuc (sym (far_div a k l m))

pub far_plus : (x : ℤ) (k : ℕ) → FitsSigned w32 x → pos 0 ≤ℤ x → 32 ≤ k → pos 0 ≡ int_div_euclid x (pos (2 ^ k))
far_plus (pos a) k f h m = let l : a < 2 ^ 31 = omega (arith, ints) in ap pos (sym (far_div a k l m))
far_plus (negsuc a) k f h m = absurd (omega (arith, ints))

-- a count below 0, by which the code divides
pub shifted_down : (x count : ℤ) (by : ℕ) → count <ℤ pos 0 → by ≡ unsigned_abs count → int_div_euclid x (pos (2 ^ by)) ≡ shifted x count
shifted_down x (pos k) by h e = absurd (omega (arith, ints))
shifted_down x (negsuc k) by h e = let q : by ≡ k + 1 = omega arith in rw q refl

-- multiples of 2 ^ 32
pos_reduced : (w : Width) → w ≢ Quad → (n : ℕ) → reduced w (pos (n * 2 ^ 32)) ≡ 0
pos_reduced Byte h n = omega arith
pos_reduced Word h n = omega arith
pos_reduced Long h n = omega arith
pos_reduced Quad h n = absurd (h refl)

neg_reduced : (w : Width) → w ≢ Quad → (n q : ℕ) → suc q ≡ n * 2 ^ 32 → reduced w (negsuc q) ≡ 0
neg_reduced Byte h n q e = omega arith
neg_reduced Word h n q e = omega arith
neg_reduced Long h n q e = omega arith
neg_reduced Quad h n q e = absurd (h refl)

pos_fit : (w : Width) → w ≢ Quad → (n : ℕ) → 0 < n → does_fit w (pos (n * 2 ^ 32)) ≡ false
pos_fit Byte h n l = grind (arith, nat_tests)
pos_fit Word h n l = grind (arith, nat_tests)
pos_fit Long h n l = grind (arith, nat_tests)
pos_fit Quad h n l = absurd (h refl)

neg_fit : (w : Width) → w ≢ Quad → (n q : ℕ) → suc q ≡ n * 2 ^ 32 → does_fit w (negsuc q) ≡ false
neg_fit Byte h n q e = grind (arith, nat_tests)
neg_fit Word h n q e = grind (arith, nat_tests)
neg_fit Long h n q e = grind (arith, nat_tests)
neg_fit Quad h n q e = absurd (h refl)

exactly_zero : (w : Width) → w ≢ Quad → exactly w (pos 0) false ≡ valued w 0 false false
exactly_zero Byte h = refl
exactly_zero Word h = refl
exactly_zero Long h = refl
exactly_zero Quad h = absurd (h refl)

exactly_pos : (w : Width) → w ≢ Quad → (m n : ℕ) → m ≡ n * 2 ^ 32 → 0 < n → exactly w (pos m) false ≡ valued w 0 true false
exactly_pos w h m n e l = rw (e, pos_reduced w h n, pos_fit w h n l) refl

exactly_neg : (w : Width) → w ≢ Quad → (q n : ℕ) → suc q ≡ n * 2 ^ 32 → exactly w (negsuc q) false ≡ valued w 0 true false
exactly_neg w h q n e = rw (neg_reduced w h n q e, neg_fit w h n q e) refl

split_power : (m k : ℕ) → 32 ≤ k → m * 2 ^ k ≡ (m * 2 ^ (k - 32)) * 2 ^ 32
split_power m k h = let e : k ≡ (k - 32) + 32 = omega arith in let p : 2 ^ ((k - 32) + 32) ≡ 2 ^ (k - 32) * 2 ^ 32 = pow-add 2 (k - 32) 32 in ap (λ (i : ℕ). m * 2 ^ i) e ∙ (ap (λ (i : ℕ). m * i) p ∙ sym (mul_assoc m (2 ^ (k - 32)) (2 ^ 32)))

zero_test : (x : ℤ) → FitsSigned w32 x → x ≢ pos 0 → not (eqb (of_z w32 x) 0) ≡ true
zero_test (pos zero) f h = absurd (h refl)
zero_test (pos (suc a)) f h = grind (arith, nat_tests)
zero_test (negsuc a) f h = let l : a < 2 ^ 31 = omega (arith, ints) in grind (arith, nat_tests)

neg_some : (m : ℕ) → 0 < m → neg_ℤ (pos m) ≡ negsuc (m - 1)
neg_some zero h = absurd (omega arith)
neg_some (suc q) h = ap negsuc (omega arith)

-- a count of 32 or more, by which the code gives 0
pub shifted_up : (w : Width) (x count : ℤ) (by : ℕ) → w ≢ Quad → FitsSigned w32 x → pos 0 ≤ℤ count → by ≡ unsigned_abs count → 32 ≤ by →
    exactly w (shifted x count) false ≡ valued w 0 (not (eqb (of_z w32 x) 0)) false
shifted_up w x (negsuc k) by h f g e l = absurd (omega (arith, ints))
shifted_up w (pos zero) (pos k) by h f g e l = let z : 0 * 2 ^ k ≡ 0 = omega arith in rw z (exactly_zero w h)
shifted_up w (pos (suc a)) (pos k) by h f g e l =
    let far : 32 ≤ k = omega arith in
    let more : 0 < suc a * 2 ^ (k - 32) = mul-pos (omega arith) (pow_pos (k - 32)) in
    rw (zero_test (pos (suc a)) f (λ e. cc)) (exactly_pos w h (suc a * 2 ^ k) (suc a * 2 ^ (k - 32)) (split_power (suc a) k far) more)
shifted_up w (negsuc a) (pos k) by h f g e l =
    let far : 32 ≤ k = omega arith in
    let some : 0 < suc a * 2 ^ k = mul-pos (omega arith) (pow_pos k) in
    let minus : neg_ℤ (pos (suc a * 2 ^ k)) ≡ negsuc (suc a * 2 ^ k - 1) = neg_some (suc a * 2 ^ k) some in
    let split : suc a * 2 ^ k ≡ (suc a * 2 ^ (k - 32)) * 2 ^ 32 = split_power (suc a) k far in
    rw (zero_test (negsuc a) f (λ e. cc), minus) (exactly_neg w h (suc a * 2 ^ k - 1) (suc a * 2 ^ (k - 32)) (omega arith))
