-- Worked examples of operands, by computation.
use Rattle.std.specs.Prelude.{◌≡◌, refl, ℕ, ◌%◌, ◌==◌, nat_lt, List, [], ◌∷◌, Result, Ok, Err, Some, false, true, if◌then◌else◌}
use Rattle.vv_base.specs.declared.width.Width.TheVariants.{Byte, Word, Long, Quad}
use Rattle.vax_arch.specs.declared.mode.Intent.TheVariants as intents
use Rattle.vax_table.specs.declared.act.Dest.TheVariants.{Nowhere, Register, Memory}
use Rattle.vax_table.specs.declared.decoded.Spec.{Spec}
use Rattle.vax_table.specs.declared.evaluation.Evaluated.{Evaluated}
use Rattle.vax_table.specs.declared.forms.Form.{Form}
use Rattle.vax_table.specs.Operand.{evaluated, base_address, address_of, read_operand, modified_operand, written_operand, address_operand, bits_operand, branch_operand}
use Rattle.vax_table.specs.AllOperands.{operand_of, operands_of}
use Rattle.vax_table.specs.InstructionSet.{r, m, w, a, v, b}
use Rattle.vax_table.specs.Rows.{row_of}
use Rattle.vax_table.specs.Interaction.{Space, Trouble, At, Absent, number_at, outcome, reached}
use Rattle.vax_table.specs.Spelled.{value_size}
use Rattle.vax_table.specs.Spelling.{Instruction, unindexed}

-- 1000 has the longword 2000; the bytes below 1100 are 0 otherwise, those from 1100 to 7FFF their address modulo 251,
-- so that A0, A1, .. are from 2000 on; from 8000 on there is nothing
abbrev pub space : Space
space i at =
    if at == 0x1001 then Ok 0x20 else
    if nat_lt at 0x1100 then Ok 0 else
    if nat_lt at 0x8000 then Ok (at % 251) else Err Absent

-- R0 to R4, SP 600 and PC
abbrev pub registers : ℕ → ℕ → ℕ → ℕ → ℕ → ℕ → List ℕ
registers r0 r1 r2 r3 r4 pc = r0 ∷ r1 ∷ r2 ∷ r3 ∷ r4 ∷ 0 ∷ 0 ∷ 0 ∷ 0 ∷ 0 ∷ 0 ∷ 0 ∷ 0 ∷ 0 ∷ 0x600 ∷ pc ∷ []

-- R0 and PC
abbrev pub only : ℕ → ℕ → List ℕ
only r0 pc = registers r0 0 0 0 0 pc

abbrev pub instruction : ℕ → List Spec → Instruction
instruction opcode specs = record { opcode = opcode; wait = false; length = 0; specs = specs }

abbrev pub indexed : ℕ → ℕ → ℕ → ℕ → Spec
indexed x mode reg value = record { index = Some x; mode = mode; reg = reg; value = value }

abbrev pub shown : Form → Spec → List ℕ → Result Evaluated Trouble
shown f s rs = outcome space (operand_of f s rs)

-- ADDL2 1234(R3)[R4], R0, with R3 1000 and R4 2
abbrev pub addl2_indexed : Instruction
addl2_indexed = instruction 0xc0 (indexed 4 12 3 0x1234 ∷ unindexed 5 0 0 ∷ [])

pub indexed_displacement : outcome space (operands_of addl2_indexed (registers 7 0 0 0x1000 2 0x200)) ≡ Ok (record {
  values = 0xe9e8e7e6 ∷ 7 ∷ 0 ∷ 0 ∷ [];
  dests = Nowhere ∷ Register 0 ∷ Nowhere ∷ Nowhere ∷ [];
  r = registers 7 0 0 0x1000 2 0x206;
})
unfolding operands_of operand_of read_operand modified_operand address_of base_address value_size row_of
indexed_displacement = refl

-- its first operand is read at 223C
pub read_at : reached space (operands_of addl2_indexed (registers 7 0 0 0x1000 2 0x200)) ≡ 0x223c ∷ 0x223d ∷ 0x223e ∷ 0x223f ∷ []
unfolding operands_of operand_of read_operand modified_operand address_of base_address value_size row_of
read_at = refl

-- ADDL2 (R0)+, (R0)+, with R0 1000: the first operand is read at 1000, the second is at 1004, R0 becomes 1008
pub autoincrement_twice : outcome space (operands_of (instruction 0xc0 (unindexed 8 0 0 ∷ unindexed 8 0 0 ∷ [])) (only 0x1000 0x200)) ≡ Ok (record {
  values = 0x2000 ∷ 0 ∷ 0 ∷ 0 ∷ [];
  dests = Nowhere ∷ Memory 0x1004 ∷ Nowhere ∷ Nowhere ∷ [];
  r = only 0x1008 0x203;
})
unfolding operands_of operand_of read_operand modified_operand address_of base_address value_size row_of
autoincrement_twice = refl

-- TSTL 7FFF: the trouble is the second byte's, and it is the last that is asked for
abbrev pub tstl_across : Instruction
tstl_across = instruction 0xd5 (unindexed 6 0 0 ∷ [])

pub second_byte : outcome space (operands_of tstl_across (only 0x7fff 0x200)) ≡ Err (At Absent intents.Read 0x8000)
unfolding operands_of operand_of read_operand address_of base_address value_size row_of
second_byte = refl

pub second_byte_reached : reached space (operands_of tstl_across (only 0x7fff 0x200)) ≡ 0x7fff ∷ 0x8000 ∷ []
unfolding operands_of operand_of read_operand address_of base_address value_size row_of
second_byte_reached = refl

-- INCW 7FFF: a modified operand is one access with write intent
pub second_byte_modified : outcome space (operands_of (instruction 0xb6 (unindexed 6 0 0 ∷ [])) (only 0x7fff 0x200)) ≡ Err (At Absent intents.Write 0x8000)
unfolding operands_of operand_of modified_operand address_of base_address value_size row_of
second_byte_modified = refl

-- Addresses wrap: the upper bytes of a longword at FFFFFFFE are those at 0 and 1.
pub around : number_at (λ i at. Ok (at % 256)) intents.Read 4 0xfffffffe ≡ Ok 0x100fffe
around = refl

-- WAIT has two bytes and no operands
pub wait_after : outcome space (operands_of (record { opcode = 0xfd; wait = true; length = 2; specs = [] }) (only 0 0x200)) ≡ Ok (record {
  values = 0 ∷ 0 ∷ 0 ∷ 0 ∷ [];
  dests = Nowhere ∷ Nowhere ∷ Nowhere ∷ Nowhere ∷ [];
  r = only 0 0x202;
})
unfolding operands_of row_of
wait_after = refl

-- Each mode once, with PC 200 after the opcode.

pub literal : shown (r Quad) (unindexed 0 0 63) (only 0 0x200) ≡ Ok (evaluated 63 Nowhere (only 0 0x201))
unfolding operand_of read_operand value_size
literal = refl

-- a word of a register is its low bits
pub register_word : shown (r Word) (unindexed 5 0 0) (only 0x12345678 0x200) ≡ Ok (evaluated 0x5678 Nowhere (only 0x12345678 0x201))
unfolding operand_of read_operand value_size
register_word = refl

-- R1 and R2
pub register_pair : shown (r Quad) (unindexed 5 1 0) (registers 0 5 6 0 0 0x200) ≡ Ok (evaluated 0x600000005 Nowhere (registers 0 5 6 0 0 0x201))
unfolding operand_of read_operand value_size
register_pair = refl

pub register_deferred : shown (r Word) (unindexed 6 0 0) (only 0x2000 0x200) ≡ Ok (evaluated 0xa1a0 Nowhere (only 0x2000 0x201))
unfolding operand_of read_operand address_of base_address value_size
register_deferred = refl

-- the register goes down first, by the size
pub autodecrement : shown (m Word) (unindexed 7 0 0) (only 0x2002 0x200) ≡ Ok (evaluated 0xa1a0 (Memory 0x2000) (only 0x2000 0x201))
unfolding operand_of modified_operand address_of base_address value_size
autodecrement = refl

pub autodecrement_below_zero : shown (a Quad) (unindexed 7 0 0) (only 4 0x200) ≡ Ok (evaluated 0xfffffffc Nowhere (only 0xfffffffc 0x201))
unfolding operand_of address_operand address_of base_address value_size
autodecrement_below_zero = refl

-- the register goes up afterwards, by the size
pub autoincrement : shown (w Byte) (unindexed 8 0 0) (only 0x2000 0x200) ≡ Ok (evaluated 0 (Memory 0x2000) (only 0x2001 0x201))
unfolding operand_of written_operand address_of base_address value_size
autoincrement = refl

pub immediate : shown (r Long) (unindexed 8 15 0x80000041) (only 0 0x200) ≡ Ok (evaluated 0x80000041 Nowhere (only 0 0x205))
unfolding operand_of read_operand value_size
immediate = refl

-- a written immediate is the word in front of PC
pub immediate_written : shown (w Word) (unindexed 8 15 0x1234) (only 0 0x200) ≡ Ok (evaluated 0 (Memory 0x201) (only 0 0x203))
unfolding operand_of written_operand address_of base_address value_size
immediate_written = refl

-- the longword at the register is the address, and the register goes up by 4
pub autoincrement_deferred : shown (r Byte) (unindexed 9 0 0) (only 0x1000 0x200) ≡ Ok (evaluated 0xa0 Nowhere (only 0x1004 0x201))
unfolding operand_of read_operand address_of base_address value_size
autoincrement_deferred = refl

pub absolute : shown (r Byte) (unindexed 9 15 0x2001) (only 0 0x200) ≡ Ok (evaluated 0xa1 Nowhere (only 0 0x205))
unfolding operand_of read_operand address_of base_address value_size
absolute = refl

-- minus 4
pub byte_displacement : shown (r Byte) (unindexed 10 0 0xfc) (only 0x2006 0x200) ≡ Ok (evaluated 0xa2 Nowhere (only 0x2006 0x202))
unfolding operand_of read_operand address_of base_address value_size
byte_displacement = refl

pub byte_displacement_deferred : shown (m Byte) (unindexed 11 0 0x7f) (only 0xf81 0x200) ≡ Ok (evaluated 0xa0 (Memory 0x2000) (only 0xf81 0x202))
unfolding operand_of modified_operand address_of base_address value_size
byte_displacement_deferred = refl

-- plus 1E00 and minus 8000, from PC after the specifier
pub word_displacement : shown (r Byte) (unindexed 12 15 0x1e00) (only 0 0x200) ≡ Ok (evaluated 0xa3 Nowhere (only 0 0x203))
unfolding operand_of read_operand address_of base_address value_size
word_displacement = refl

pub word_displacement_back : shown (a Byte) (unindexed 12 15 0x8000) (only 0 0x200) ≡ Ok (evaluated 0xffff8203 Nowhere (only 0 0x203))
unfolding operand_of address_operand address_of base_address value_size
word_displacement_back = refl

pub word_displacement_deferred : shown (r Byte) (unindexed 13 15 0xdfd) (only 0 0x200) ≡ Ok (evaluated 0xa0 Nowhere (only 0 0x203))
unfolding operand_of read_operand address_of base_address value_size
word_displacement_deferred = refl

pub long_displacement : shown (w Quad) (unindexed 14 0 0xfffffff0) (only 0x2010 0x200) ≡ Ok (evaluated 0 (Memory 0x2000) (only 0x2010 0x205))
unfolding operand_of written_operand address_of base_address value_size
long_displacement = refl

pub long_displacement_deferred : shown (a Long) (unindexed 15 0 0x1000) (only 0 0x200) ≡ Ok (evaluated 0x2000 Nowhere (only 0 0x205))
unfolding operand_of address_operand address_of base_address value_size
long_displacement_deferred = refl

-- (R0)+[R0]: the index register is read after the base's side effect; 400 plus 4 times 404
pub index_after_side_effect : shown (a Long) (indexed 0 8 0 0) (only 0x400 0x200) ≡ Ok (evaluated 0x1410 Nowhere (only 0x404 0x202))
unfolding operand_of address_operand address_of base_address value_size
index_after_side_effect = refl

-- @(R1)[R0]: the index is added after the indirection; 2000 plus 2 times 3, modulo 2 ^ 32 with minus 3
pub index_after_indirection : shown (a Word) (indexed 0 11 1 0) (registers 3 0x1000 0 0 0 0x200) ≡ Ok (evaluated 0x2006 Nowhere (registers 3 0x1000 0 0 0 0x203))
unfolding operand_of address_operand address_of base_address value_size
index_after_indirection = refl

pub index_below_zero : shown (a Word) (indexed 0 11 1 0) (registers 0xfffffffd 0x1000 0 0 0 0x200) ≡ Ok (evaluated 0x1ffa Nowhere (registers 0xfffffffd 0x1000 0 0 0 0x203))
unfolding operand_of address_operand address_of base_address value_size
index_below_zero = refl

-- bits are counted from a register, from an address by bytes, or from the byte in the instruction
pub bits_in_register : shown (v Byte) (unindexed 5 0 0) (only 0x1234 0x200) ≡ Ok (evaluated 0 (Register 0) (only 0x1234 0x201))
unfolding operand_of bits_operand value_size
bits_in_register = refl

pub bits_in_memory : shown (v Byte) (indexed 1 8 0 0) (registers 0x2000 3 0 0 0 0x200) ≡ Ok (evaluated 0 (Memory 0x2003) (registers 0x2001 3 0 0 0 0x202))
unfolding operand_of bits_operand address_of base_address value_size
bits_in_memory = refl

pub bits_in_instruction : shown (v Byte) (unindexed 8 15 0) (only 0 0x200) ≡ Ok (evaluated 0 (Memory 0x201) (only 0 0x202))
unfolding operand_of bits_operand address_of base_address value_size
bits_in_instruction = refl

-- back by 4 and on by 100, from the next PC
pub branch_back : shown (b Byte) (unindexed 16 0 0xfc) (only 0 0x201) ≡ Ok (evaluated 0x1fe Nowhere (only 0 0x202))
unfolding operand_of branch_operand
branch_back = refl

pub branch_on : shown (b Word) (unindexed 16 0 0x100) (only 0 0x201) ≡ Ok (evaluated 0x303 Nowhere (only 0 0x203))
unfolding operand_of branch_operand
branch_on = refl
