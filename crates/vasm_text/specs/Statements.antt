-- The lines of an assembler's text. A comment begins at the first `;`, and blanks at both ends don't count.
-- What is left is nothing, `NAME:`, `NAME: STATEMENT` or `STATEMENT`. A statement is a mnemonic alone, a
-- mnemonic, one blank and its operands, or `.byte N`, `.word N`, `.long N` or `.long NAME`.
use Rattle.std.specs.Option.{option_map_or}
use Rattle.std.specs.Prelude.{ℕ, List, [], ◌∷◌, codes, bytes_eq, if◌then◌else◌, Option, Some, None}
use Rattle.vv_base.specs.Names.{is_object_name}
use Rattle.vax_table.specs.declared.forms.Form.{Form}
use Rattle.vax_table.specs.Rows.{row_of}
use Rattle.vasm_text.specs.Cutting.{◌>>=◌, cut, cut_at, is_blank, trimmed, before_mark}
use Rattle.vasm_text.specs.Mnemonics.{opcode_of}
use Rattle.vasm_text.specs.Numbers.{field_in}
use Rattle.vasm_text.specs.Operands.{SourceOperand, unnamed_operand, value_in, operands_in}

-- a value in a number of bytes, or an opcode and its operands
pub data Statement : Type 0 where
  Field : ℕ → SourceOperand → Statement
  Instruct : ℕ → List SourceOperand → Statement

-- what it labels, and what it says
pub record SourceLine : Type 0 where
  pub label : Option (List ℕ)
  pub statement : Option Statement

-- the forms of an instruction's operands
unfoldable pub forms_of : ℕ → List Form
forms_of opcode = option_map_or (λ e. e.operands) (row_of opcode) []

-- a number in `size` bytes
abbrev pub number_field_in : ℕ → List ℕ → Option Statement
number_field_in size text = field_in size text >>= λ n. Some (Field size (unnamed_operand 16 0 n))

-- a number or a name in four bytes
abbrev pub long_field_in : List ℕ → Option Statement
long_field_in text = value_in 4 text >>= λ o. Some (Field 4 o)

abbrev pub instruction_in : List ℕ → Option (List ℕ) → Option Statement
instruction_in word text = opcode_of word >>= λ opcode. operands_in (forms_of opcode) text >>= λ os. Some (Instruct opcode os)

-- a word and what follows the blank, None where there is none
unfoldable pub words_in : List ℕ → Option (List ℕ) → Option Statement
words_in word text =
    if bytes_eq word (codes ".byte") then (text >>= number_field_in 1) else
    if bytes_eq word (codes ".word") then (text >>= number_field_in 2) else
    if bytes_eq word (codes ".long") then (text >>= long_field_in) else instruction_in word text

unfoldable pub statement_in : List ℕ → Option Statement
statement_in text = elim (cut is_blank text) [
  | None ↦ words_in text None
  | Some c ↦ words_in c.before (Some (c.later))
]

abbrev pub saying : Option (List ℕ) → List ℕ → Option SourceLine
saying label text = statement_in text >>= λ s. Some (record { label = label; statement = Some s })

-- exactly one blank comes after a label
abbrev pub after_label : List ℕ → List ℕ → Option SourceLine
after_label name [] = Some (record { label = Some name; statement = None })
after_label name (b ∷ text) = if is_blank b then saying (Some name) text else None

abbrev pub unlabelled : List ℕ → Option SourceLine
unlabelled [] = Some (record { label = None; statement = None })
unlabelled (b ∷ text) = saying None (b ∷ text)

-- 58 is the colon
unfoldable pub content_in : List ℕ → Option SourceLine
content_in text = elim (cut_at 58 text) [
  | None ↦ unlabelled text
  | Some c ↦ if is_object_name c.before then after_label c.before c.later else None
]

-- what a line says before a semicolon (59); None where it is of no form
unfoldable pub source_line_in : List ℕ → Option SourceLine
source_line_in text = content_in (trimmed (before_mark 59 text))
