-- Worked examples of disassembling, by computation.
use Rattle.std.specs.Fmt.{digits}
use Rattle.std.specs.Prelude.{◌≡◌, refl, List, ℕ, [], ◌∷◌, codes}
use Rattle.vax_table.specs.Rows.{row_of}
use Rattle.vax_table.specs.Reading.{decoded_at, operand_at, indexed_at, specifier_at, specifier_by}
use Rattle.vasm_text.specs.Mnemonics.{mnemonic_of}
use Rattle.vasm_text.specs.Statements.{forms_of}
use Rattle.vasm_text.specs.Printing.{register_text, field_text, displacement_text, increment_text, specifier_text, operand_text, instruction_text, byte_text}
use Rattle.vasm_text.specs.Dis.{dis_of}
use Rattle.vasm_text.specs.Front.{front_text}

-- An instruction's text with all that it computes with: the examples unfold this one name.
whole_dis : List ℕ → List ℕ
unfolding
    digits dis_of front_text instruction_text byte_text operand_text specifier_text increment_text displacement_text field_text
    register_text forms_of mnemonic_of decoded_at operand_at indexed_at specifier_at specifier_by row_of
whole_dis image = dis_of image

-- each displacement, and each deferred
abbrev displacements : List ℕ
displacements =
    0xc1 ∷ 0xa0 ∷ 0x01 ∷ 0xc1 ∷ 0x02 ∷ 0x00 ∷ 0xec ∷ 0x03 ∷ 0x00 ∷ 0x00 ∷ 0x00
    ∷ 0xc1 ∷ 0xb2 ∷ 0xff ∷ 0xd3 ∷ 0xfe ∷ 0xff ∷ 0xff ∷ 0x05 ∷ 0x00 ∷ 0x00 ∷ 0x00 ∷ []

abbrev displacement_lines : List ℕ
displacement_lines = codes "ADDL3 B^^X01(R0),W^^X0002(R1),L^^X00000003(AP)\nADDL3 @B^^XFF(R2),@W^^XFFFE(R3),@L^^X00000005(PC)\n"

-- an immediate, and an absolute address
abbrev immediate : List ℕ
immediate = 0xb0 ∷ 0x8f ∷ 0x2c ∷ 0x01 ∷ 0x9f ∷ 0x00 ∷ 0x10 ∷ 0x00 ∷ 0x00 ∷ []

-- whole images
pub images :
    -- a loop
    (dis_of (0xd7 ∷ 0x50 ∷ 0x12 ∷ 0xfc ∷ []) ≡ codes "DECL R0\nBNEQ ^XFC\n")
    -- no instruction
    × (dis_of (0xff ∷ 0xd0 ∷ []) ≡ codes ".byte ^XFF\n.byte ^XD0\n")
    × (dis_of [] ≡ codes "")
    -- literals
    × (dis_of (0xd0 ∷ 0x01 ∷ 0x50 ∷ 0x00 ∷ []) ≡ codes "MOVL S^#1,R0\nHALT\n")
    × (dis_of (0xd0 ∷ 0x3f ∷ 0x5c ∷ []) ≡ codes "MOVL S^#63,AP\n")
    -- registers and their modes
    × (dis_of (0xd0 ∷ 0x5b ∷ 0x5d ∷ 0xdd ∷ 0x5e ∷ []) ≡ codes "MOVL R11,FP\nPUSHL SP\n")
    × (dis_of (0xc1 ∷ 0x61 ∷ 0x72 ∷ 0x83 ∷ 0xdd ∷ 0x9e ∷ []) ≡ codes "ADDL3 (R1),-(R2),(R3)+\nPUSHL @(SP)+\n")
    × (dis_of immediate ≡ codes "MOVW I^#^X012C,@#^X00001000\n")
    × (dis_of displacements ≡ displacement_lines)
    -- indices
    × (dis_of (0xd0 ∷ 0x42 ∷ 0x61 ∷ 0x4c ∷ 0xa3 ∷ 0x04 ∷ []) ≡ codes "MOVL (R1)[R2],B^^X04(R3)[AP]\n")
    -- branches
    × (dis_of (0x31 ∷ 0xfe ∷ 0xff ∷ 0xf5 ∷ 0x50 ∷ 0xfd ∷ []) ≡ codes "BRW ^XFFFE\nSOBGTR R0,^XFD\n")
    × (dis_of (0xfd ∷ 0x01 ∷ 0xfd ∷ 0xfe ∷ 0xfc ∷ []) ≡ codes "WAIT\n.byte ^XFD\n.byte ^XFE\nXFC\n")
    -- MOVL to a literal is no instruction; its other bytes are
    × (dis_of (0xd0 ∷ 0x01 ∷ 0x01 ∷ 0x00 ∷ []) ≡ codes ".byte ^XD0\nNOP\nNOP\nHALT\n")
    -- a front alone
    × (dis_of (0xd0 ∷ 0x8f ∷ 0x01 ∷ []) ≡ codes ".byte ^XD0\n.byte ^X8F\nNOP\n")
unfolding whole_dis
images = (refl, refl, refl, refl, refl, refl, refl, refl, refl, refl, refl, refl, refl, refl)

-- what is at the front
pub fronts :
    (front_text (0xd7 ∷ 0x50 ∷ 0x12 ∷ 0xfc ∷ []) ≡ codes "DECL R0")
    × (front_text (0xff ∷ 0xd7 ∷ 0x50 ∷ []) ≡ codes ".byte ^XFF")
    -- an immediate of four bytes, of which one is there
    × (front_text (0xd0 ∷ 0x8f ∷ 0x01 ∷ []) ≡ codes ".byte ^XD0")
    × (front_text [] ≡ codes "")
unfolding whole_dis
fronts = (refl, refl, refl, refl)
