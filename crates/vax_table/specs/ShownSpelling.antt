-- Worked examples of reading an instruction, by computation.
use Rattle.std.specs.Prelude.{◌≡◌, refl, Some, [], ◌∷◌, true, false}
use Rattle.vax_table.specs.Spelling.{unindexed}
use Rattle.vax_table.specs.Reading.{decoded_at, operand_at, indexed_at, specifier_at, specifier_by, Whole, Short, Unknown, Reserved}
use Rattle.vax_table.specs.Rows.{row_of}

-- ADDL2 1234(R3)[R4], R2: a word displacement, indexed
pub indexed_displacement : decoded_at (0xc0 ∷ 0x44 ∷ 0xc3 ∷ 0x34 ∷ 0x12 ∷ 0x52 ∷ [])
    ≡ Whole (record { opcode = 0xc0; wait = false; length = 6; specs = record { index = Some 4; mode = 12; reg = 3; value = 0x1234 } ∷ unindexed 5 2 0 ∷ [] }) []
unfolding decoded_at operand_at indexed_at specifier_at specifier_by row_of
indexed_displacement = refl

-- ADDL2 (R1)+, 4(R2), and a byte after it
pub with_rest : decoded_at (0xc0 ∷ 0x81 ∷ 0xa2 ∷ 4 ∷ 9 ∷ []) ≡ Whole (record { opcode = 0xc0; wait = false; length = 4; specs = unindexed 8 1 0 ∷ unindexed 10 2 4 ∷ [] }) (9 ∷ [])
unfolding decoded_at operand_at indexed_at specifier_at specifier_by row_of
with_rest = refl

-- MOVL #80000041, @#1000
pub immediate_absolute : decoded_at (0xd0 ∷ 0x8f ∷ 0x41 ∷ 0 ∷ 0 ∷ 0x80 ∷ 0x9f ∷ 0 ∷ 0x10 ∷ 0 ∷ 0 ∷ [])
    ≡ Whole (record { opcode = 0xd0; wait = false; length = 11; specs = unindexed 8 15 0x8000_0041 ∷ unindexed 9 15 0x1000 ∷ [] }) []
unfolding decoded_at operand_at indexed_at specifier_at specifier_by row_of
immediate_absolute = refl

-- SOBGTR R0, back by 3: a displacement is the number of its bytes
pub branch_back : decoded_at (0xf5 ∷ 0x50 ∷ 0xfd ∷ []) ≡ Whole (record { opcode = 0xf5; wait = false; length = 3; specs = unindexed 5 0 0 ∷ unindexed 16 0 0xfd ∷ [] }) []
unfolding decoded_at operand_at indexed_at specifier_at specifier_by row_of
branch_back = refl

pub nothing_yet : decoded_at [] ≡ Short
unfolding decoded_at
nothing_yet = refl

-- MOVL with a piece of an immediate
pub short_immediate : decoded_at (0xd0 ∷ 0x8f ∷ 1 ∷ []) ≡ Short
unfolding decoded_at operand_at indexed_at specifier_at specifier_by row_of
short_immediate = refl

-- MOVL to a literal
pub literal_written : decoded_at (0xd0 ∷ 1 ∷ 1 ∷ []) ≡ Reserved
unfolding decoded_at operand_at indexed_at specifier_at specifier_by row_of
literal_written = refl

-- MOVL with PC as index is decided at that byte
pub pc_as_index : decoded_at (0xd0 ∷ 0x4f ∷ []) ≡ Reserved
unfolding decoded_at operand_at indexed_at specifier_at specifier_by row_of
pc_as_index = refl

-- ADDL2 with an index over a register
pub index_over_register : decoded_at (0xc0 ∷ 0x44 ∷ 0x53 ∷ 0x50 ∷ []) ≡ Reserved
unfolding decoded_at operand_at indexed_at specifier_at specifier_by row_of
index_over_register = refl

-- MOVL with an index over an immediate
pub index_over_immediate : decoded_at (0xd0 ∷ 0x41 ∷ 0x8f ∷ []) ≡ Reserved
unfolding decoded_at operand_at indexed_at specifier_at specifier_by row_of
index_over_immediate = refl

-- MOVAL of a register
pub address_of_register : decoded_at (0xde ∷ 0x51 ∷ 0x50 ∷ []) ≡ Reserved
unfolding decoded_at operand_at indexed_at specifier_at specifier_by row_of
address_of_register = refl

-- MOVQ R13, R14: the pair of R13 is allowed, that of R14 isn't
pub quadword_in_r14 : decoded_at (0x7d ∷ 0x5d ∷ 0x5e ∷ []) ≡ Reserved
unfolding decoded_at operand_at indexed_at specifier_at specifier_by row_of
quadword_in_r14 = refl

pub wait_first : decoded_at (0xfd ∷ []) ≡ Short
unfolding decoded_at
wait_first = refl

pub wait_whole : decoded_at (0xfd ∷ 1 ∷ []) ≡ Whole (record { opcode = 0xfd; wait = true; length = 2; specs = [] }) []
unfolding decoded_at
wait_whole = refl

pub wait_other : decoded_at (0xfd ∷ 2 ∷ []) ≡ Unknown
unfolding decoded_at
wait_other = refl

-- XFC is an instruction; FF is none
pub xfc : decoded_at (0xfc ∷ []) ≡ Whole (record { opcode = 0xfc; wait = false; length = 1; specs = [] }) []
unfolding decoded_at row_of
xfc = refl

pub unknown : decoded_at (0xff ∷ 0x50 ∷ []) ≡ Unknown
unfolding decoded_at row_of
unknown = refl
