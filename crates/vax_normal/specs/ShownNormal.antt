-- Worked examples of what instructions in normal form do, by computation.
use Rattle.std.specs.Prelude.{◌≡◌, ℕ, ◌<◌, List, [], ◌∷◌, None, true, false, refl, slice_index}
use Rattle.vv_base.specs.declared.width.Width.TheVariants.{Byte, Word, Long}
use Rattle.vax_table.specs.Arithmetic.{alu_of}
use Rattle.vax_table.specs.Branches.{bit_in}
use Rattle.vax_table.specs.Interaction.{Refuse}
use Rattle.vax_table.specs.AllOperands.{past_own_bytes}
use Rattle.vax_table.specs.declared.act.Dest.TheVariants.{Register}
use Rattle.vax_table.specs.declared.act.Refusal.TheVariants.{ReservedOperand}
use Rattle.vax_table.specs.declared.meaning.Condition.TheVariants.{Always, Equal}
use Rattle.vax_normal.specs.Normal.{done_by, gone_on, has_bits, number_by, quietly, with_result}
use Rattle.vax_normal.specs.declared.shape.Shape.TheVariants.{Branches, BranchesOnBits, CountsDown}

-- R0 to R15
abbrev registers : List ℕ
registers = 0 ∷ 1 ∷ 2 ∷ 0x12345678 ∷ 4 ∷ 5 ∷ 6 ∷ 7 ∷ 8 ∷ 9 ∷ 10 ∷ 11 ∷ 12 ∷ 13 ∷ 14 ∷ 0x200 ∷ []

-- the low byte of R3, and a constant whatever the registers are
pub low_byte : (h : 3 < 16) → number_by (record { register = 3; mask = 0xff; offset = 0; there = h }) registers ≡ 0x78
low_byte h = refl

pub constant : (h : 0 < 16) → number_by (record { register = 0; mask = 0; offset = 63; there = h }) registers ≡ 63
constant h = refl

-- MOVAB B^-2(R1) and MOVAB B^-2(R4): an address is a register and an offset, modulo 2 ^ 32
pub address : (h : 1 < 16) → number_by (record { register = 1; mask = 0xffffffff; offset = 0xfffffffe; there = h }) registers ≡ 0xffffffff
address h = refl

pub address_around : (h : 4 < 16) → number_by (record { register = 4; mask = 0xffffffff; offset = 0xfffffffe; there = h }) registers ≡ 2
address_around h = refl

-- MOVAB of the byte after it, by PC: PC is before the instruction
pub address_of_next : (h : 15 < 16) → number_by (record { register = 15; mask = 0xffffffff; offset = 4; there = h }) registers ≡ 0x204
address_of_next h = refl

-- a byte leaves the upper 24 bits, a longword none; 15 is no register
pub byte_put : slice_index (with_result 3 Byte 0xff registers) 3 ≡ 0x123456ff
byte_put = refl

pub word_put : slice_index (with_result 3 Word 0xff registers) 3 ≡ 0x123400ff
word_put = refl

pub long_put : slice_index (with_result 3 Long 0xff registers) 3 ≡ 0xff
long_put = refl

pub nothing_put : with_result 15 Long 0xff registers ≡ registers
nothing_put = refl

-- a branch back by 14 bytes from the next instruction is one by 12 from its own address; where it isn't taken, PC goes on
pub taken_back : slice_index (gone_on true 0xfffffff4 2 registers) 15 ≡ 0x1f4
taken_back = refl

pub not_taken : slice_index (gone_on false 0xfffffff4 2 registers) 15 ≡ 0x202
not_taken = refl

pub equal : slice_index (done_by (Branches Equal 0x40) 2 registers 4).r 15 ≡ 0x240
equal = refl

-- BLBS R1: its low bit is set
pub low_bit : (h : 1 < 16) → slice_index (done_by (BranchesOnBits true (record { register = 1; mask = 0xffffffff; offset = 0; there = h }) 1 0x40) 3 registers 0).r 15 ≡ 0x240
low_bit h = refl

-- BBC S^#3,R2: its bit 3 isn't set; BBC S^#1,R2: its bit 1 is
pub bit_clear : (h : 2 < 16) → slice_index (done_by (BranchesOnBits false (record { register = 2; mask = 0xffffffff; offset = 0; there = h }) 8 0x40) 4 registers 0).r 15 ≡ 0x240
bit_clear h = refl

pub bit_set : (h : 2 < 16) → slice_index (done_by (BranchesOnBits false (record { register = 2; mask = 0xffffffff; offset = 0; there = h }) 2 0x40) 4 registers 0).r 15 ≡ 0x204
bit_set h = refl

-- BBS S^#0,R3: its lowest bit isn't set; BBC S^#31,R3: its highest isn't either
pub lowest_bit : (h : 3 < 16) → slice_index (done_by (BranchesOnBits true (record { register = 3; mask = 0xffffffff; offset = 0; there = h }) 1 0x40) 4 registers 0).r 15 ≡ 0x204
lowest_bit h = refl

pub highest_bit : (h : 3 < 16) → slice_index (done_by (BranchesOnBits false (record { register = 3; mask = 0xffffffff; offset = 0; there = h }) 0x80000000 0x40) 4 registers 0).r 15 ≡ 0x240
highest_bit h = refl

-- each bit by itself
pub highest_alone : has_bits 0x80000000 0x80000000 ≡ true
highest_alone = refl

pub others_alone : has_bits 0x80000000 0x7fffffff ≡ false
others_alone = refl

-- BLBS S^#3: the low bit of a constant
pub constant_bit : (h : 0 < 16) → slice_index (done_by (BranchesOnBits true (record { register = 0; mask = 0; offset = 3; there = h }) 1 0x40) 3 registers 0).r 15 ≡ 0x240
constant_bit h = refl

-- a register has no bit 32: BBS #32,R2 is refused, and has no normal form
pub no_such_bit : bit_in true None (Register 2) 32 0x240 (quietly registers 0) ≡ Refuse ReservedOperand
no_such_bit = refl

-- NOP goes on by its byte, whatever the condition codes are
pub nothing : (done_by (Branches Always 1) 1 registers 15) ≡ quietly (past_own_bytes 1 registers) 15
nothing = refl

-- from 1 to 0 SOBGEQ branches and SOBGTR doesn't; Z is set, and C stays
pub down_to_zero : (h : 1 < 15) → slice_index (done_by (CountsDown (record { at_zero = true; register = 1; there = h }) 0x40) 3 registers 1).r 15 ≡ 0x240
unfolding alu_of
down_to_zero h = refl

pub above_zero : (h : 1 < 15) → slice_index (done_by (CountsDown (record { at_zero = false; register = 1; there = h }) 0x40) 3 registers 1).r 15 ≡ 0x203
unfolding alu_of
above_zero h = refl

pub codes : (h : 1 < 15) → (done_by (CountsDown (record { at_zero = true; register = 1; there = h }) 0x40) 3 registers 1).psw ≡ 5
unfolding alu_of
codes h = refl

-- from 0 it is 0xffffffff, which is below zero
pub below_zero : (h : 0 < 15) → slice_index (done_by (CountsDown (record { at_zero = true; register = 0; there = h }) 0x40) 3 registers 0).r 0 ≡ 0xffffffff
unfolding alu_of
below_zero h = refl
