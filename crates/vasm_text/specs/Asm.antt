-- Assembling: the bytes of a text's lines in order, from the address 200 on, or the first line that is
-- refused and why. The lines are those of std's `lines`: each ends with a line feed, or with a carriage
-- return and a line feed; the last may lack its end, and a carriage return there is part of it.
use Rattle.std.specs.Int.{int_rem_euclid}
use Rattle.std.specs.List.{list_any}
use Rattle.std.specs.Prelude.{ℕ, ◌+◌, ◌/◌, ◌^◌, ◌==◌, ◌&&◌, ◌||◌, List, [], ◌∷◌, ◌++◌, length, bytes_eq, Bool, false, nat_lt, nat_le, if◌then◌else◌, Option, Some, None, Result, Ok, Err, pos, ◌-ℤ◌, unsigned_abs}
use Rattle.std.specs.Option.{is_none, unwrap_or, option_map_or}
use Rattle.std.specs.Str.Lines.{lines}
use Rattle.vax_table.specs.declared.forms.Form.{Form}
use Rattle.vax_table.specs.declared.decoded.Spec.{Spec}
use Rattle.vv_base.specs.Width.{size_of}
use Rattle.vax_table.specs.Reading.{is_branch, displacement_size}
use Rattle.vax_table.specs.Spelling.{bytes_of}
use Rattle.vax_table.specs.Spelled.{spelled}
use Rattle.vasm_text.specs.Operands.{SourceOperand}
use Rattle.vasm_text.specs.Statements.{Statement, Field, Instruct, SourceLine, forms_of, source_line_in}
use Rattle.vasm_text.specs.declared.fault.AsmFault.{AsmFault}
use Rattle.vasm_text.specs.declared.fault.AsmKind.{AsmKind}
use Rattle.vasm_text.specs.declared.fault.AsmKind.TheVariants.{BadLine, TwiceNamed, NoName, OutOfReach}

infixl 10 ◌>>=◌
abbrev pub ◌>>=◌ : {A B E : Type 0} → Result A E → (A → Result B E) → Result B E
(Ok x) >>= f = f x
(Err e) >>= f = Err e

-- a kind with the number of its line
abbrev pub at_line : {A : Type 0} → ℕ → Result A AsmKind → Result A AsmFault
at_line number (Ok x) = Ok x
at_line number (Err kind) = Err (record { line = number; kind = kind })

-- ---- the lines and their labels

abbrev pub is_labelled : Option (List ℕ) → List (List ℕ) → Bool
is_labelled label labels = option_map_or (λ name. list_any (bytes_eq name) labels) label false

abbrev pub and_label : List (List ℕ) → Option (List ℕ) → List (List ℕ)
and_label labels None = labels
and_label labels (Some name) = labels ++ name ∷ []

-- a line after lines with these labels
abbrev pub read_source_line : List (List ℕ) → Option SourceLine → Result SourceLine AsmKind
read_source_line labels None = Err BadLine
read_source_line labels (Some line) = if is_labelled line.label labels then Err TwiceNamed else Ok line

-- the lines from a number on, after lines with these labels
abbrev pub read_from : ℕ → List (List ℕ) → List (List ℕ) → Result (List SourceLine) AsmFault
read_from number labels [] = Ok []
read_from number labels (text ∷ texts) =
    at_line number (read_source_line labels (source_line_in text)) >>= λ line. read_from (number + 1) (and_label labels line.label) texts >>= λ more. Ok (line ∷ more)

-- ---- sizes and addresses, which the lines' texts alone fix

abbrev pub opcode_bytes : ℕ → List ℕ
opcode_bytes opcode = if opcode == 0xfd then opcode ∷ 1 ∷ [] else opcode ∷ []

-- a specifier's size doesn't depend on its value
abbrev pub operand_size : Form → SourceOperand → ℕ
operand_size form o = length (spelled form o.spec)

abbrev pub operands_size : List Form → List SourceOperand → ℕ
operands_size (f ∷ fs) (o ∷ os) = operand_size f o + operands_size fs os
operands_size fs os = 0

unfoldable pub statement_size : Statement → ℕ
statement_size (Field size o) = size
statement_size (Instruct opcode os) = length (opcode_bytes opcode) + operands_size (forms_of opcode) os

abbrev pub source_line_size : SourceLine → ℕ
source_line_size line = elim (line.statement) [ None ↦ 0 | Some s ↦ statement_size s ]

abbrev pub is_label : List ℕ → Option (List ℕ) → Bool
is_label name label = option_map_or (bytes_eq name) label false

-- the address of the line that a name labels, where the lines begin at an address
abbrev pub address_in : List SourceLine → ℕ → List ℕ → Option ℕ
address_in [] at name = None
address_in (line ∷ more) at name = if is_label name line.label then Some at else address_in more (at + source_line_size line) name

-- ---- bytes

-- whether a difference is in the signed field of a byte or a word; any is in that of a longword
abbrev pub is_in_field : ℕ → ℕ → ℕ → Bool
is_in_field size target from = size == 4 || (nat_le from (target + 256 ^ size / 2) && nat_lt target (from + 256 ^ size / 2))

-- the field of a difference, in two's complement
abbrev pub difference : ℕ → ℕ → ℕ → ℕ
difference size target from = unsigned_abs (int_rem_euclid (pos target -ℤ pos from) (pos (256 ^ size)))

-- the bytes of the field that a name stands for: a branch displacement, or a displacement
abbrev pub field_size : Form → Spec → ℕ
field_size form spec = if is_branch form.access then size_of form.width else displacement_size spec.mode

abbrev pub named_target : (List ℕ → Option ℕ) → List ℕ → ℕ
named_target names name = unwrap_or (names name) 0

-- a name's value minus the address after the field, in the field
abbrev pub with_displacement : ℕ → Spec → ℕ → ℕ → Result Spec AsmKind
with_displacement size spec target later = if is_in_field size target later then Ok (record spec { value = difference size target later }) else Err OutOfReach

-- an operand's specifier, where the operand ends before an address. A branch displacement is the last
-- operand, so the address after it is the next instruction's.
unfoldable pub resolved : (List ℕ → Option ℕ) → ℕ → Form → SourceOperand → Result Spec AsmKind
resolved names later form o = elim (o.name) [
  | None ↦ Ok (o.spec)
  | Some name ↦ with_displacement (field_size form o.spec) o.spec (named_target names name) later
]

-- the bytes of operands that begin at an address
abbrev pub operands_bytes : (List ℕ → Option ℕ) → ℕ → List Form → List SourceOperand → Result (List ℕ) AsmKind
operands_bytes names at (f ∷ fs) (o ∷ os) =
    resolved names (at + operand_size f o) f o >>= λ s. operands_bytes names (at + operand_size f o) fs os >>= λ bytes. Ok (spelled f s ++ bytes)
operands_bytes names at fs os = Ok []

-- a number, or the value of a name
abbrev pub field_value : (List ℕ → Option ℕ) → SourceOperand → ℕ
field_value names o = elim (o.name) [ None ↦ o.spec.value | Some name ↦ named_target names name ]

-- whether a name in it labels no line
abbrev pub lacks : (List ℕ → Option ℕ) → SourceOperand → Bool
lacks names o = elim (o.name) [ None ↦ false | Some name ↦ is_none (names name) ]

abbrev pub lacks_any : (List ℕ → Option ℕ) → Statement → Bool
lacks_any names (Field size o) = lacks names o
lacks_any names (Instruct opcode os) = list_any (lacks names) os

abbrev pub known_statement_bytes : (List ℕ → Option ℕ) → ℕ → Statement → Result (List ℕ) AsmKind
known_statement_bytes names at (Field size o) = Ok (bytes_of size (field_value names o))
known_statement_bytes names at (Instruct opcode os) = operands_bytes names (at + length (opcode_bytes opcode)) (forms_of opcode) os >>= λ bytes. Ok (opcode_bytes opcode ++ bytes)

-- the bytes of a statement at an address; in all of it a name is looked for before a field is filled
unfoldable pub statement_bytes : (List ℕ → Option ℕ) → ℕ → Statement → Result (List ℕ) AsmKind
statement_bytes names at s = if lacks_any names s then Err NoName else known_statement_bytes names at s

abbrev pub source_line_bytes : (List ℕ → Option ℕ) → ℕ → SourceLine → Result (List ℕ) AsmKind
source_line_bytes names at line = elim (line.statement) [ None ↦ Ok [] | Some s ↦ statement_bytes names at s ]

-- the bytes of lines from a number and an address on
abbrev pub assembled_bytes : (List ℕ → Option ℕ) → ℕ → ℕ → List SourceLine → Result (List ℕ) AsmFault
assembled_bytes names number at [] = Ok []
assembled_bytes names number at (line ∷ more) =
    at_line number (source_line_bytes names at line) >>= λ bytes. assembled_bytes names (number + 1) (at + source_line_size line) more >>= λ others. Ok (bytes ++ others)

-- the bytes of a text, or the first line that is refused: first by what it says alone and the labels
-- before it, then by the names in it
unfoldable pub asm_of : List ℕ → Result (List ℕ) AsmFault
asm_of text = read_from 1 [] (lines text) >>= λ program. assembled_bytes (address_in program 0x200) 1 0x200 program
