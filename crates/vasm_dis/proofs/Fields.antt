-- A number in a field is read as it is printed.
use Rattle.std.specs.List.{list_all}
use Rattle.std.proofs.Common.{◌≡◌, ℕ, zero, suc, ◌+◌, ◌*◌, ◌/◌, ◌%◌, ◌^◌, ◌<◌, true, Some, length, nat_le, refl, ap, ◌∙◌, arith, lit<}
use Rattle.std.proofs.Math.Arith.{mod-mul}
use Rattle.std.proofs.Math.Nat.{pow-suc}
use Rattle.std.proofs.lemmas.Bool.{lt-ltb}
use Rattle.vv_base.specs.Digits.{hex_digit, hex_text}
use Rattle.vasm_text.specs.Numbers.{is_hex_digit, hex_value, hex_from, hex_of, number_in, field_in}
use Rattle.vasm_text.specs.Printing.{field_text}
use Rattle.vasm_dis.proofs.Finite.{everywhere, is_plain, ArePlain}
use Rattle.std.specs.List.{range_with_len}
use Rattle.std.specs.Prelude.{map}

digits_back : map (λ d. hex_value (hex_digit d)) (range_with_len 0 16) ≡ map (λ d. d) (range_with_len 0 16)
digits_back = refl

digits_hex : map (λ d. is_hex_digit (hex_digit d)) (range_with_len 0 16) ≡ map (λ d. true) (range_with_len 0 16)
digits_hex = refl

digits_plain : map (λ d. is_plain (hex_digit d)) (range_with_len 0 16) ≡ map (λ d. true) (range_with_len 0 16)
digits_plain = refl

digit_back : (n : ℕ) → hex_value (hex_digit (n % 16)) ≡ n % 16
digit_back n = everywhere (λ d. hex_value (hex_digit d)) (λ d. d) 16 digits_back (n % 16) (omega arith)

digit_hex : (n : ℕ) → is_hex_digit (hex_digit (n % 16)) ≡ true
digit_hex n = everywhere (λ d. is_hex_digit (hex_digit d)) (λ d. true) 16 digits_hex (n % 16) (omega arith)

digit_plain : (n : ℕ) → is_plain (hex_digit (n % 16)) ≡ true
digit_plain n = everywhere (λ d. is_plain (hex_digit d)) (λ d. true) 16 digits_plain (n % 16) (omega arith)

hex_all : (k v : ℕ) → list_all is_hex_digit (hex_text k v) ≡ true
hex_all zero v = refl
hex_all (suc k) v = rw (digit_hex (v / 2 ^ (4 * k)), hex_all k v)

pub hex_plain : (k v : ℕ) → ArePlain (hex_text k v)
hex_plain zero v = refl
hex_plain (suc k) v = rw (digit_plain (v / 2 ^ (4 * k)), hex_plain k v)

pub hex_length : (k v : ℕ) → length (hex_text k v) ≡ k
hex_length zero v = refl
hex_length (suc k) v = ap suc (hex_length k v)

pow_some : (k : ℕ) → 0 < 16 ^ k
pow_some zero = lit< tt
pow_some (suc k) = let h : 0 < 16 ^ k = pow_some k in omega (arith, pow-suc 16 k)

fours : (k : ℕ) → 2 ^ (4 * k) ≡ 16 ^ k
fours zero = refl
fours (suc k) =
    let more : 4 * suc k ≡ suc (suc (suc (suc (4 * k)))) = omega arith in
    let h : 2 ^ (4 * k) ≡ 16 ^ k = fours k in
    ap (λ n. 2 ^ n) more ∙ omega (arith, pow-suc 2 (4 * k), pow-suc 2 (suc (4 * k)), pow-suc 2 (suc (suc (4 * k))), pow-suc 2 (suc (suc (suc (4 * k)))), pow-suc 16 k)

hex_read : (k v so_far : ℕ) → hex_from so_far (hex_text k v) ≡ so_far * 16 ^ k + v % 16 ^ k
hex_read zero v so_far = omega arith
hex_read (suc k) v so_far =
    let d : ℕ = v / 16 ^ k % 16 in
    let first : hex_value (hex_digit (v / 2 ^ (4 * k) % 16)) ≡ d = digit_back (v / 2 ^ (4 * k)) ∙ ap (λ b. v / b % 16) (fours k) in
    let rest : hex_from (16 * so_far + d) (hex_text k v) ≡ (16 * so_far + d) * 16 ^ k + v % 16 ^ k = hex_read k v (16 * so_far + d) in
    let split : v % (16 * 16 ^ k) ≡ d * 16 ^ k + v % 16 ^ k = mod-mul v (lit< tt) (pow_some k) in
    let step : 16 ^ (suc k) ≡ 16 * 16 ^ k = omega (arith, pow-suc 16 k) in
    ap (λ x. hex_from (16 * so_far + x) (hex_text k v)) first ∙ rest ∙ rw (step, split) (grind arith)

-- the sizes of fields
pub data IsSize : ℕ → Type 0 where
  one : IsSize 1
  two : IsSize 2
  four : IsSize 4
  eight : IsSize 8

whole : (size v : ℕ) → IsSize size → v < 256 ^ size → v % 16 ^ (2 * size) ≡ v
whole size v one h = omega arith
whole size v two h = omega arith
whole size v four h = omega arith
whole size v eight h = omega arith

few : (size : ℕ) → IsSize size → (nat_le 1 (2 * size) ≡ true) × (nat_le (2 * size) 16 ≡ true)
few size one = (refl, refl)
few size two = (refl, refl)
few size four = (refl, refl)
few size eight = (refl, refl)

hex_back : (size v : ℕ) → IsSize size → v < 256 ^ size → hex_of (hex_text (2 * size) v) ≡ Some v
hex_back size v is below =
    let f : (nat_le 1 (2 * size) ≡ true) × (nat_le (2 * size) 16 ≡ true) = few size is in
    let value : hex_from 0 (hex_text (2 * size) v) ≡ v = hex_read (2 * size) v 0 ∙ (let e : v % 16 ^ (2 * size) ≡ v = whole size v is below in omega arith) in
    rw (hex_length (2 * size) v, f.0, f.1, hex_all (2 * size) v, value)

pub field_back : (size v : ℕ) → IsSize size → v < 256 ^ size → field_in size (field_text size v) ≡ Some v
unfolding field_in field_text number_in
field_back size v is below = rw (hex_back size v is below, lt-ltb v (256 ^ size) below)

pub field_plain : (size v : ℕ) → ArePlain (field_text size v)
unfolding field_text
field_plain size v = hex_plain (2 * size) v
