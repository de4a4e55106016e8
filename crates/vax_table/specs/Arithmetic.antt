-- The integer arithmetic and logic of the instructions (VAX Architecture Reference Manual: integer arithmetic and
-- logical instructions): an exact whole number, reduced to the width once, and the condition codes.
use Rattle.std.specs.Prelude.{ℕ, ◌+◌, ◌-◌, ◌*◌, ◌/◌, ◌^◌, ◌==◌, Bool, true, false, not, ◌&&◌, nat_lt, nat_le, ℤ, pos, negsuc, ◌+ℤ◌, ◌-ℤ◌, ◌*ℤ◌, neg_ℤ, int_lt, int_le, int_div, unsigned_abs, bit_and, bit_or, bit_xor, Option, Some, None, if◌then◌else◌}
use Rattle.std.specs.Int.{int_rem_euclid, int_div_euclid, rotate_left, w8, w16, w32, w64}
use Rattle.vv_base.specs.declared.width.Width.{Width}
use Rattle.vv_base.specs.declared.width.Width.TheVariants.{Byte, Word, Long, Quad}
use Rattle.vv_base.specs.Bits.{is_set}
use Rattle.vv_base.specs.Width.{bits_of, low, signed_of}
use Rattle.vax_table.specs.declared.answer.Alu.{Alu}
use Rattle.vax_table.specs.declared.answer.AluOp.{AluOp}
use Rattle.vax_table.specs.declared.answer.AluOp.TheVariants.{Add, Sub, AddCarry, SubBorrow, Mul, Div, Bis, Bic, Xor, Mneg, Mcom, Move, Cmp, Bit, Tst, Ash, Rot, Narrow}

-- the low bits of an exact result
abbrev pub reduced : Width → ℤ → ℕ
reduced w x = unsigned_abs (int_rem_euclid x (pos (2 ^ bits_of w)))

-- whether an exact result is a two's complement value of the width
abbrev pub does_fit : Width → ℤ → Bool
does_fit w x = int_le (neg_ℤ (pos (2 ^ (bits_of w - 1)))) x && int_lt x (pos (2 ^ (bits_of w - 1)))

-- all bits of the width set, but those of a number
abbrev pub complement : Width → ℕ → ℕ
complement w n = 2 ^ bits_of w - 1 - low w n

abbrev pub bit_of : Bool → ℕ
bit_of b = if b then 1 else 0

-- The condition codes.
pub record Codes : Type 0 where
  pub n : Bool
  pub z : Bool
  pub v : Bool
  pub c : Bool

-- what an operation gives: a value of the width, the codes, and whether the divisor was 0
pub record ArithmeticResult : Type 0 where
  pub value : ℕ
  pub codes : Codes
  pub zero_divisor : Bool

-- a value, with N and Z of it; of bits V is 0, and C as before (class L)
abbrev pub valued : Width → ℕ → Bool → Bool → ArithmeticResult
valued w n v c = record { value = n; codes = record { n = nat_le (2 ^ (bits_of w - 1)) n; z = n == 0; v = v; c = c }; zero_divisor = false }

-- An exact result: V says that it doesn't fit. C is a carry or borrow (class A), 0 (M), or as before (K).
abbrev pub exactly : Width → ℤ → Bool → ArithmeticResult
exactly w x c = valued w (reduced w x) (not (does_fit w x)) c

-- second plus first plus a carry
abbrev pub sum_of : Width → ℕ → ℕ → Bool → ArithmeticResult
sum_of w a b c = exactly w ((signed_of w b +ℤ signed_of w a) +ℤ pos (bit_of c)) (nat_le (2 ^ bits_of w) (low w b + low w a + bit_of c))

-- second minus first minus a borrow
abbrev pub difference_of : Width → ℕ → ℕ → Bool → ArithmeticResult
difference_of w a b c = exactly w ((signed_of w b -ℤ signed_of w a) -ℤ pos (bit_of c)) (nat_lt (low w b) (low w a + bit_of c))

-- Second by first, toward zero. A zero divisor gives the dividend and sets V. The one quotient that doesn't fit, of
-- the least number by -1, has the bits of the dividend.
abbrev pub quotient_of : Width → ℕ → ℕ → ArithmeticResult
quotient_of w a b = if low w a == 0
    then record (valued w (low w b) true false) { zero_divisor = true }
    else exactly w (int_div (signed_of w b) (signed_of w a)) false

-- minus a number, where C says that the result isn't 0
abbrev pub negation_of : Width → ℕ → ArithmeticResult
negation_of w a = let x = neg_ℤ (signed_of w a) in exactly w x (not (reduced w x == 0))

-- first against second: N below, signed; Z equal; V 0; C below, unsigned
abbrev pub comparison_of : Width → ℕ → ℕ → ArithmeticResult
comparison_of w a b = record {
  value = 0;
  codes = record { n = int_lt (signed_of w a) (signed_of w b); z = low w a == low w b; v = false; c = nat_lt (low w a) (low w b) };
  zero_divisor = false;
}

-- a number times 2 to a count, rounded down where the count is below 0
abbrev pub shifted : ℤ → ℤ → ℤ
shifted x (pos k) = x *ℤ pos (2 ^ k)
shifted x (negsuc k) = int_div_euclid x (pos (2 ^ (k + 1)))

-- the bits of the width rotated left by a count, which counts modulo their number
abbrev pub rotated : Width → ℕ → ℕ → ℕ
rotated Byte n count = rotate_left w8 n count
rotated Word n count = rotate_left w16 n count
rotated Long n count = rotate_left w32 n count
rotated Quad n count = rotate_left w64 n count

-- a is the first operand, b the second, c the carry before. The values of CMP, BIT and TST are stored nowhere.
abbrev pub outcome_of : AluOp → Width → ℕ → ℕ → Bool → ArithmeticResult
outcome_of Add w a b c = sum_of w a b false
outcome_of AddCarry w a b c = sum_of w a b c
outcome_of Sub w a b c = difference_of w a b false
outcome_of SubBorrow w a b c = difference_of w a b c
outcome_of Mul w a b c = exactly w (signed_of w b *ℤ signed_of w a) false
outcome_of Div w a b c = quotient_of w a b
outcome_of Bis w a b c = valued w (bit_or (low w b) (low w a)) false c
outcome_of Bic w a b c = valued w (bit_and (low w b) (complement w a)) false c
outcome_of Xor w a b c = valued w (bit_xor (low w b) (low w a)) false c
outcome_of Mneg w a b c = negation_of w a
outcome_of Mcom w a b c = valued w (complement w a) false c
outcome_of Move w a b c = valued w (low w a) false c
outcome_of Cmp w a b c = comparison_of w a b
outcome_of Bit w a b c = valued w (bit_and (low w b) (low w a)) false c
outcome_of Tst w a b c = valued w (low w a) false false
outcome_of Ash w a b c = exactly w (shifted (signed_of w b) (signed_of Byte a)) false
outcome_of Rot w a b c = valued w (rotated w (low w b) (low Byte a)) false c
outcome_of Narrow w a b c = exactly w (signed_of Long a) false

-- the PSW: C is bit 0, V 1, Z 2, N 3, IV 5
abbrev pub codes_of : ℕ → Codes
codes_of psw = record { n = is_set psw 3; z = is_set psw 2; v = is_set psw 1; c = is_set psw 0 }

abbrev pub psw_with : ℕ → Codes → ℕ
psw_with psw codes = psw / 16 * 16 + 8 * bit_of codes.n + 4 * bit_of codes.z + 2 * bit_of codes.v + bit_of codes.c

-- a zero divisor is trap 2 whatever IV is; V by overflow is trap 1 where IV is set
abbrev pub arithmetic_trap : ℕ → ArithmeticResult → Option ℕ
arithmetic_trap psw o = if o.zero_divisor then Some 2 else if o.codes.v && is_set psw 5 then Some 1 else None

-- an outcome as an answer, over the PSW of before
abbrev pub alu_of_result : ArithmeticResult → ℕ → Alu
alu_of_result o psw = record { value = o.value; psw = psw_with psw o.codes; trap = arithmetic_trap psw o }

-- an operation's value of the width, the PSW after it, and the type of its arithmetic trap
unfoldable pub alu_of : AluOp → ℕ → ℕ → Width → ℕ → Alu
alu_of op a b w psw = alu_of_result (outcome_of op w a b (is_set psw 0)) psw
