-- Worked examples of assembling, by computation.
use Rattle.std.specs.Prelude.{◌≡◌, refl, ℕ, zero, suc, List, ◌++◌, Result, Ok, Err, [], ◌∷◌, codes}
use Rattle.vax_table.specs.Rows.{row_of}
use Rattle.vax_table.specs.Spelled.{value_size, spelled_specifier, spelled}
use Rattle.vasm_text.specs.declared.fault.AsmFault.{AsmFault}
use Rattle.vasm_text.specs.declared.fault.AsmKind.{AsmKind}
use Rattle.vasm_text.specs.declared.fault.AsmKind.TheVariants.{BadLine, TwiceNamed, NoName, OutOfReach}
use Rattle.vasm_text.specs.Mnemonics.{mnemonic_of, opcode_of}
use Rattle.vasm_text.specs.Numbers.{number_in, field_in, register_in}
use Rattle.vasm_text.specs.Operands.{closed_in, literal_in, displaced_in, displacement_in, deferred_in, direct_in, specifier_in, value_in, operand_in}
use Rattle.vasm_text.specs.Statements.{forms_of, words_in, statement_in, content_in, source_line_in}
use Rattle.vasm_text.specs.Asm.{statement_size, resolved, statement_bytes, asm_of}

-- Assembling with all that it computes with: the examples unfold this one name.
whole_asm : List ℕ → Result (List ℕ) AsmFault
unfolding
    asm_of statement_bytes resolved statement_size source_line_in content_in statement_in words_in forms_of
    operand_in value_in specifier_in direct_in deferred_in displacement_in displaced_in literal_in closed_in
    register_in field_in number_in opcode_of mnemonic_of row_of spelled spelled_specifier value_size
whole_asm text = asm_of text

-- a text's bytes
abbrev pub Gives : (text bytes : List ℕ) → Type 0
Gives text bytes = asm_of text ≡ Ok bytes

-- a text is refused for a line, or for the one that it has
abbrev pub Fails : List ℕ → (line : ℕ) → AsmKind → Type 0
Fails text line kind = asm_of text ≡ Err (record { line = line; kind = kind })

abbrev pub IsBad : List ℕ → Type 0
IsBad text = Fails text 1 BadLine

-- each directive; A's address is 200 and the 11 bytes before it
abbrev field_text : List ℕ
field_text = codes ".byte 255\n.word ^X1234\n.long 4294967295\n.long A\nA: .byte ^X00000000000000FE\n"

abbrev field_bytes : List ℕ
field_bytes = 0xff ∷ 0x34 ∷ 0x12 ∷ 0xff ∷ 0xff ∷ 0xff ∷ 0xff ∷ 0x0b ∷ 0x02 ∷ 0x00 ∷ 0x00 ∷ 0xfe ∷ []

-- whole texts
pub texts :
    -- a loop
    Gives (codes "L: DECL R0\nBNEQ L\n") (0xd7 ∷ 0x50 ∷ 0x12 ∷ 0xfc ∷ [])
    -- no end of the last line
    × Gives (codes "HALT") (0x00 ∷ [])
    × Gives (codes "") []
    -- blanks (the second is a tab) at both ends don't count, and a comment begins anywhere
    × Gives (codes "; all\n\n \tNOP \t; one\nA:;two\n") (0x01 ∷ [])
    -- a carriage return goes
    × Gives (codes "NOP\r\nNOP\n") (0x01 ∷ 0x01 ∷ [])
    -- a field, the lowest byte first
    × Gives field_text field_bytes
    × Gives (codes "WAIT\nXFC\n") (0xfd ∷ 0x01 ∷ 0xfc ∷ [])
    -- a label with the name of a mnemonic, and one on the last line
    × Gives (codes "NOP: BRB NOP\n") (0x11 ∷ 0xfe ∷ [])
    × Gives (codes "BRB Z\nZ:") (0x11 ∷ 0x00 ∷ [])
    -- a raw branch
    × Gives (codes "BRB ^XFE\nBRW 65535\n") (0x11 ∷ 0xfe ∷ 0x31 ∷ 0xff ∷ 0xff ∷ [])
unfolding whole_asm
texts = (refl, refl, refl, refl, refl, refl, refl, refl, refl, refl)

-- all register numbers that have a name beside it
abbrev register_text : List ℕ
register_text = codes "MOVL R0,R11\nMOVL R12,AP\nMOVL R13,FP\nMOVL R14,SP\n"

abbrev register_bytes : List ℕ
register_bytes = 0xd0 ∷ 0x50 ∷ 0x5b ∷ 0xd0 ∷ 0x5c ∷ 0x5c ∷ 0xd0 ∷ 0x5d ∷ 0x5d ∷ 0xd0 ∷ 0x5e ∷ 0x5e ∷ []

-- each displacement, and each deferred
abbrev displacement_text : List ℕ
displacement_text = codes "ADDL3 B^1(R0),W^2(R1),L^3(AP)\nADDL3 @B^255(R2),@W^^XFFFE(R3),@L^5(PC)\n"

abbrev displacement_bytes : List ℕ
displacement_bytes =
    0xc1 ∷ 0xa0 ∷ 0x01 ∷ 0xc1 ∷ 0x02 ∷ 0x00 ∷ 0xec ∷ 0x03 ∷ 0x00 ∷ 0x00 ∷ 0x00
    ∷ 0xc1 ∷ 0xb2 ∷ 0xff ∷ 0xd3 ∷ 0xfe ∷ 0xff ∷ 0xff ∷ 0x05 ∷ 0x00 ∷ 0x00 ∷ 0x00 ∷ []

abbrev index_text : List ℕ
index_text = codes "MOVL (R1)[R2],B^4(R3)[AP]\nMOVAL @#0[R0],-(SP)[R14]\n"

abbrev index_bytes : List ℕ
index_bytes =
    0xd0 ∷ 0x42 ∷ 0x61 ∷ 0x4c ∷ 0xa3 ∷ 0x04 ∷ 0xde ∷ 0x40 ∷ 0x9f ∷ 0x00 ∷ 0x00 ∷ 0x00 ∷ 0x00 ∷ 0x4e ∷ 0x7e ∷ []

-- 200 minus the address after each specifier: 203, 206 and 20C
abbrev relative_bytes : List ℕ
relative_bytes = 0xd0 ∷ 0xaf ∷ 0xfd ∷ 0xcf ∷ 0xfa ∷ 0xff ∷ 0xde ∷ 0xff ∷ 0xf4 ∷ 0xff ∷ 0xff ∷ 0xff ∷ 0x50 ∷ []

-- operands
pub operands :
    Gives (codes "MOVL S^#1,R0\nHALT\n") (0xd0 ∷ 0x01 ∷ 0x50 ∷ 0x00 ∷ [])
    × Gives register_text register_bytes
    × Gives (codes "ADDL3 (R1),-(R2),(R3)+\nPUSHL @(SP)+\n") (0xc1 ∷ 0x61 ∷ 0x72 ∷ 0x83 ∷ 0xdd ∷ 0x9e ∷ [])
    × Gives (codes "MOVW I^#300,@#^X00001000\n") (0xb0 ∷ 0x8f ∷ 0x2c ∷ 0x01 ∷ 0x9f ∷ 0x00 ∷ 0x10 ∷ 0x00 ∷ 0x00 ∷ [])
    -- the displacement is the raw field
    × Gives displacement_text displacement_bytes
    × Gives index_text index_bytes
    × Gives (codes "A: MOVL B^A,W^A\nMOVAL @L^A,R0\n") relative_bytes
unfolding whole_asm
operands = (refl, refl, refl, refl, refl, refl, refl)

-- operands that are refused
pub bad_operands :
    -- a literal of 64, and one that is written
    IsBad (codes "MOVL S^#64,R0")
    × IsBad (codes "MOVL R0,S^#1")
    -- the address of a register
    × IsBad (codes "MOVAL R0,R1")
    -- a quadword in SP
    × IsBad (codes "MOVQ SP,R0")
    -- PC as a register, deferred, decremented, incremented, incremented and deferred, and as an index
    × IsBad (codes "MOVL PC,R0")
    × IsBad (codes "MOVL (PC),R0")
    × IsBad (codes "MOVL -(PC),R0")
    × IsBad (codes "MOVL (PC)+,R0")
    × IsBad (codes "MOVL @(PC)+,R0")
    × IsBad (codes "MOVL (R0)[PC],R0")
    -- an index over a literal, a register, an immediate and an index
    × IsBad (codes "MOVL S^#1[R0],R0")
    × IsBad (codes "MOVL R1[R0],R0")
    × IsBad (codes "MOVL I^#1[R0],R0")
    × IsBad (codes "MOVL (R1)[R0][R0],R0")
unfolding whole_asm
bad_operands = (refl, refl, refl, refl, refl, refl, refl, refl, refl, refl, refl, refl, refl, refl)

-- fields that are refused
pub bad_fields :
    -- too great for a byte
    Fails (codes "NOP\n.byte 256") 2 BadLine
    -- too many digits, none, small ones, and a needless zero
    × IsBad (codes ".byte ^X00000000000000001")
    × IsBad (codes ".byte ^X")
    × IsBad (codes ".byte ^Xff")
    × IsBad (codes ".byte 01")
    -- a name in a byte
    × IsBad (codes "A: .byte A")
unfolding whole_asm
bad_fields = (refl, refl, refl, refl, refl, refl)

-- lines that are refused
pub bad_lines :
    -- two blanks, also after a label, or none there, or one after a comma
    IsBad (codes "MOVL  R0,R1")
    × IsBad (codes "A:  NOP")
    × IsBad (codes "A:NOP")
    × IsBad (codes "MOVL R0, R1")
    -- a small mnemonic, and an unknown one
    × IsBad (codes "movl R0,R1")
    × IsBad (codes "ASHQ R0,R1,R2")
    -- too few operands, too many, some where there are none, and none
    × IsBad (codes "MOVL R0")
    × IsBad (codes "CLRL R0,R1")
    × IsBad (codes "HALT R0")
    × IsBad (codes "CLRL")
    -- a label that is no name, and one of nine
    × IsBad (codes "1A: NOP")
    × IsBad (codes "ABCDEFGHI: NOP")
    -- a carriage return at the end of the last line
    × Fails (codes "NOP\nNOP\r") 2 BadLine
unfolding whole_asm
bad_lines = (refl, refl, refl, refl, refl, refl, refl, refl, refl, refl, refl, refl, refl)

-- names, and which fault comes first
pub names :
    Fails (codes "A: NOP\nA: NOP\nA: NOP") 2 TwiceNamed
    -- a bad line comes before a name, also on a line after it
    × Fails (codes "A: NOP\nA: NOPE") 2 BadLine
    × Fails (codes "BRB B\nNOPE") 2 BadLine
    -- a name of no line
    × Fails (codes "NOP\nBRB B") 2 NoName
unfolding whole_asm
names = (refl, refl, refl, refl)

-- n NOPs of a byte each, in front of the rest
abbrev nops : ℕ → List ℕ → List ℕ
nops zero rest = rest
nops (suc n) rest = codes "NOP\n" ++ nops n rest

abbrev ones : ℕ → List ℕ
ones zero = []
ones (suc n) = 1 ∷ ones n

-- a branch's reach
pub reach :
    -- forward by 127 and 128
    Gives (codes "BRB M\n" ++ nops 127 (codes "M:\n")) (0x11 ∷ 0x7f ∷ ones 127)
    × Fails (codes "BRB M\n" ++ nops 128 (codes "M:\n")) 1 OutOfReach
    -- back by 128 and 129
    × Gives (codes "M:\n" ++ nops 126 (codes "BRB M")) (ones 126 ++ (0x11 ∷ 0x80 ∷ []))
    × Fails (codes "M:\n" ++ nops 127 (codes "BRB M")) 129 OutOfReach
    -- a word reaches further
    × Gives (codes "BRW M\n" ++ nops 128 (codes "M:\n")) (0x31 ∷ 0x80 ∷ 0 ∷ ones 128)
    -- M is out of reach, and N labels no line: a name comes first
    × Fails (codes "MOVL B^M,B^N\n" ++ nops 128 (codes "M:\n")) 1 NoName
unfolding whole_asm
reach = (refl, refl, refl, refl, refl, refl)
