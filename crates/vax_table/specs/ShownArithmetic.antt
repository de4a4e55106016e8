-- Worked examples of the arithmetic, by computation. In a PSW the codes N, Z, V and C are 8, 4, 2 and 1, and IV is 20 hex.
use Rattle.std.specs.Prelude.{◌≡◌, refl, Some, None}
use Rattle.vv_base.specs.declared.width.Width.TheVariants.{Byte, Word, Long}
use Rattle.vax_table.specs.declared.answer.AluOp.TheVariants.{Add, Sub, AddCarry, SubBorrow, Mul, Div, Bis, Bic, Xor, Mneg, Mcom, Move, Cmp, Bit, Tst, Ash, Rot, Narrow}
use Rattle.vax_table.specs.Arithmetic.{alu_of}

-- DIVL2 #0 of 7: the dividend, V, trap 2 though IV is clear
pub zero_divisor : alu_of Div 0 7 Long 0 ≡ record { value = 7; psw = 2; trap = Some 2 }
unfolding alu_of
zero_divisor = refl

-- the least number by -1 leaves it, with V and trap 1
pub quotient_too_great : alu_of Div 0xff 0x80 Byte 0x20 ≡ record { value = 0x80; psw = 0x2a; trap = Some 1 }
unfolding alu_of
quotient_too_great = refl

pub quotient_too_great_word : alu_of Div 0xffff 0x8000 Word 0 ≡ record { value = 0x8000; psw = 0x0a; trap = None }
unfolding alu_of
quotient_too_great_word = refl

pub quotient_too_great_long : alu_of Div 0xffff_ffff 0x8000_0000 Long 1 ≡ record { value = 0x8000_0000; psw = 0x0a; trap = None }
unfolding alu_of
quotient_too_great_long = refl

-- -7 by 2 is -3
pub quotient_toward_zero : alu_of Div 2 0xfff9 Word 1 ≡ record { value = 0xfffd; psw = 8; trap = None }
unfolding alu_of
quotient_toward_zero = refl

pub sum_overflows : alu_of Add 1 0x7fff_ffff Long 0x20 ≡ record { value = 0x8000_0000; psw = 0x2a; trap = Some 1 }
unfolding alu_of
sum_overflows = refl

-- of a byte only the low bits count
pub sum_carries : alu_of Add 0xff 0x101 Byte 0xf0 ≡ record { value = 0; psw = 0xf5; trap = None }
unfolding alu_of
sum_carries = refl

-- 0 plus FFFF plus the carry is 0 with a carry
pub carry_goes_on : alu_of AddCarry 0xffff 0 Word 1 ≡ record { value = 0; psw = 5; trap = None }
unfolding alu_of
carry_goes_on = refl

-- 0 minus 0 minus the borrow is -1 with a borrow
pub borrow_goes_on : alu_of SubBorrow 0 0 Word 1 ≡ record { value = 0xffff; psw = 9; trap = None }
unfolding alu_of
borrow_goes_on = refl

-- 5 minus 7
pub difference_borrows : alu_of Sub 7 5 Byte 0 ≡ record { value = 0xfe; psw = 9; trap = None }
unfolding alu_of
difference_borrows = refl

-- 16 times 8 is 128, which isn't a signed byte; C goes
pub product_overflows : alu_of Mul 8 16 Byte 1 ≡ record { value = 0x80; psw = 0x0a; trap = None }
unfolding alu_of
product_overflows = refl

pub bits_set : alu_of Bis 0x0f 0xf0 Byte 1 ≡ record { value = 0xff; psw = 9; trap = None }
unfolding alu_of
bits_set = refl

pub bits_cleared : alu_of Bic 0x0f 0x3c Byte 3 ≡ record { value = 0x30; psw = 1; trap = None }
unfolding alu_of
bits_cleared = refl

pub bits_differ : alu_of Xor 0x3c 0x3c Byte 0 ≡ record { value = 0; psw = 4; trap = None }
unfolding alu_of
bits_differ = refl

pub negation : alu_of Mneg 1 0 Byte 0 ≡ record { value = 0xff; psw = 9; trap = None }
unfolding alu_of
negation = refl

pub negation_overflows : alu_of Mneg 0x80 0 Byte 0 ≡ record { value = 0x80; psw = 0x0b; trap = None }
unfolding alu_of
negation_overflows = refl

pub complement_of_0 : alu_of Mcom 0 0 Word 1 ≡ record { value = 0xffff; psw = 9; trap = None }
unfolding alu_of
complement_of_0 = refl

pub move_keeps_carry : alu_of Move 0x1_0000 0 Word 3 ≡ record { value = 0; psw = 5; trap = None }
unfolding alu_of
move_keeps_carry = refl

-- -1 against 1: below signed, not below unsigned
pub comparison : alu_of Cmp 0xff 1 Byte 0 ≡ record { value = 0; psw = 8; trap = None }
unfolding alu_of
comparison = refl

pub test_of_bits : alu_of Bit 0x80 0xc0 Byte 1 ≡ record { value = 0x80; psw = 9; trap = None }
unfolding alu_of
test_of_bits = refl

pub test_clears_carry : alu_of Tst 0 0 Long 3 ≡ record { value = 0; psw = 4; trap = None }
unfolding alu_of
test_clears_carry = refl

pub shift_left_overflows : alu_of Ash 4 0x1234_5678 Long 0 ≡ record { value = 0x2345_6780; psw = 2; trap = None }
unfolding alu_of
shift_left_overflows = refl

-- by -4
pub shift_right : alu_of Ash 0xfc 0x8000_0000 Long 0 ≡ record { value = 0xf800_0000; psw = 8; trap = None }
unfolding alu_of
shift_right = refl

-- by 127 and by -128
pub shift_far_left : alu_of Ash 127 1 Long 0 ≡ record { value = 0; psw = 6; trap = None }
unfolding alu_of
shift_far_left = refl

pub shift_far_right : alu_of Ash 0x80 0xffff_fffe Long 0 ≡ record { value = 0xffff_ffff; psw = 8; trap = None }
unfolding alu_of
shift_far_right = refl

-- by 36, which is 4 modulo 32
pub rotation : alu_of Rot 36 0x8000_0001 Long 1 ≡ record { value = 0x18; psw = 1; trap = None }
unfolding alu_of
rotation = refl

-- 128 isn't a signed byte; -128 is
pub narrowed_overflows : alu_of Narrow 0x80 0 Byte 0x20 ≡ record { value = 0x80; psw = 0x2a; trap = Some 1 }
unfolding alu_of
narrowed_overflows = refl

pub narrowed : alu_of Narrow 0xffff_ff80 0 Byte 0x20 ≡ record { value = 0x80; psw = 0x28; trap = None }
unfolding alu_of
narrowed = refl
