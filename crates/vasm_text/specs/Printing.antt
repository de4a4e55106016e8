-- The text of an instruction that bytes spell: a literal in decimal, every other number as `^X` and two
-- digits for each byte of its field, a branch displacement as the field itself.
use Rattle.std.specs.Option.{unwrap_or, option_map_or}
use Rattle.std.specs.Prelude.{ℕ, ◌*◌, ◌%◌, ◌==◌, nat_lt, List, [], ◌∷◌, ◌++◌, codes, decimal, if◌then◌else◌, Option}
use Rattle.vv_base.specs.Digits.{hex_text}
use Rattle.vv_base.specs.Width.{size_of}
use Rattle.vax_table.specs.declared.forms.Form.{Form}
use Rattle.vax_table.specs.declared.decoded.Spec.{Spec}
use Rattle.vax_table.specs.Reading.{is_branch, displacement_size}
use Rattle.vasm_text.specs.Mnemonics.{mnemonic_of}
use Rattle.vasm_text.specs.Statements.{forms_of}

-- R0 to R11, AP, FP, SP, PC
unfoldable pub register_text : ℕ → List ℕ
register_text n =
    if nat_lt n 12 then codes "R" ++ decimal n else
    if n == 12 then codes "AP" else
    if n == 13 then codes "FP" else
    if n == 14 then codes "SP" else codes "PC"

-- a number in a field of `size` bytes
unfoldable pub field_text : ℕ → ℕ → List ℕ
field_text size n = codes "^X" ++ hex_text (2 * size) n

abbrev pub size_letter : ℕ → List ℕ
size_letter mode = if nat_lt mode 12 then codes "B^" else if nat_lt mode 14 then codes "W^" else codes "L^"

-- after @ where it is deferred, in the odd modes
unfoldable pub displacement_text : Spec → List ℕ
displacement_text s =
    (if s.mode % 2 == 1 then codes "@" else []) ++ (size_letter s.mode ++ (field_text (displacement_size s.mode) s.value ++ (codes "(" ++ (register_text s.reg ++ codes ")"))))

-- what is in the modes 8 and 9
unfoldable pub increment_text : Form → Spec → List ℕ
increment_text form s =
    if s.mode == 8 then (if s.reg == 15 then codes "I^#" ++ field_text (size_of form.width) s.value else codes "(" ++ (register_text s.reg ++ codes ")+")) else
    (if s.reg == 15 then codes "@#" ++ field_text 4 s.value else codes "@(" ++ (register_text s.reg ++ codes ")+"))

-- a specifier without its index
unfoldable pub specifier_text : Form → Spec → List ℕ
specifier_text form s =
    if s.mode == 0 then codes "S^#" ++ decimal s.value else
    if s.mode == 5 then register_text s.reg else
    if s.mode == 6 then codes "(" ++ (register_text s.reg ++ codes ")") else
    if s.mode == 7 then codes "-(" ++ (register_text s.reg ++ codes ")") else
    if nat_lt s.mode 10 then increment_text form s else displacement_text s

abbrev pub index_text : Option ℕ → List ℕ
index_text index = option_map_or (λ x. codes "[" ++ (register_text x ++ codes "]")) index []

unfoldable pub operand_text : Form → Spec → List ℕ
operand_text form s = if is_branch form.access then field_text (size_of form.width) s.value else specifier_text form s ++ index_text s.index

-- operands, the first after a mark and each other after a comma (44)
abbrev pub text_after_mark : ℕ → List Form → List Spec → List ℕ
text_after_mark mark (f ∷ fs) (s ∷ ss) = mark ∷ (operand_text f s ++ text_after_mark 44 fs ss)
text_after_mark mark fs ss = []

-- its name, and after a blank (32) its operands
unfoldable pub instruction_text : ℕ → List Spec → List ℕ
instruction_text opcode ss = unwrap_or (mnemonic_of opcode) [] ++ text_after_mark 32 (forms_of opcode) ss

-- a byte by itself
unfoldable pub byte_text : ℕ → List ℕ
byte_text b = codes ".byte " ++ field_text 1 b
