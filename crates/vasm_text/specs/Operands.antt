-- The operands of a statement: each form of text, and the specifier that it means. A text that means a reserved form (as in what
-- spells an instruction) is no operand. S^#N literal; I^#N immediate; R register; (R) register deferred; -(R) autodecrement; (R)+
-- autoincrement; @(R)+ autoincrement deferred; @#N absolute; B^N(R), W^N(R), L^N(R) displacement, B^NAME, W^NAME, L^NAME
-- relative, each deferred after @. Any of these and [R] indexed; N or NAME where the instruction branches.
use Rattle.std.specs.Option.{option_or}
use Rattle.std.specs.Prelude.{ℕ, ◌+◌, ◌==◌, List, [], ◌∷◌, take, drop, codes, bytes_eq, nat_lt, ◌&&◌, ◌||◌, if◌then◌else◌, Option, Some, None}
use Rattle.vv_base.specs.Names.{is_object_name, tested}
use Rattle.vv_base.specs.Width.{size_of}
use Rattle.vax_table.specs.declared.forms.Form.{Form}
use Rattle.vax_table.specs.declared.decoded.Spec.{Spec}
use Rattle.vax_table.specs.Spelling.{unindexed}
use Rattle.vax_table.specs.Reading.{is_read, is_address, is_branch, is_quad}
use Rattle.vasm_text.specs.Cutting.{◌>>=◌, Cut, cut_at, before_mark}
use Rattle.vasm_text.specs.Numbers.{number_in, if_below, field_in, register_in, not_pc}

-- a specifier, and the name that stands for its value where one does
pub record SourceOperand : Type 0 where
  pub spec : Spec
  pub name : Option (List ℕ)

-- without a name: mode, register, value
abbrev pub unnamed_operand : ℕ → ℕ → ℕ → SourceOperand
unnamed_operand mode reg value = record { spec = unindexed mode reg value; name = None }

-- a name for the value
abbrev pub with_name : ℕ → ℕ → List ℕ → SourceOperand
with_name mode reg name = record { spec = unindexed mode reg 0; name = Some name }

abbrev pub operand_of_value : ℕ → ℕ → ℕ → Option SourceOperand
operand_of_value mode reg value = Some (unnamed_operand mode reg value)

abbrev pub named_in : ℕ → ℕ → List ℕ → Option SourceOperand
named_in mode reg text = tested is_object_name text >>= λ name. Some (with_name mode reg name)

-- a register before a closing mark, with nothing but an ending after that
unfoldable pub closed_in : ℕ → List ℕ → List ℕ → Option ℕ
closed_in mark ending text = cut_at mark text >>= λ c. if bytes_eq c.later ending then register_in c.before else None

-- R), and R)+, after a parenthesis (41 closes it)
abbrev pub enclosed : ℕ → List ℕ → List ℕ → Option SourceOperand
enclosed mode ending text = not_pc (closed_in 41 ending text) >>= λ n. operand_of_value mode n 0

unfoldable pub literal_in : Form → List ℕ → Option SourceOperand
literal_in form text = if is_read form.access then (number_in text >>= if_below 64 >>= operand_of_value 0 0) else None

-- a number in a field of `size` bytes, as the value of a mode and a register
abbrev pub valued_in : ℕ → ℕ → ℕ → List ℕ → Option SourceOperand
valued_in size mode reg text = field_in size text >>= operand_of_value mode reg

-- the register of a register operand
abbrev pub allowed : Form → ℕ → Option SourceOperand
allowed form n = if is_address form.access || (is_quad form.width && n == 14) then None else operand_of_value 5 n 0

abbrev pub register_operand_in : Form → List ℕ → Option SourceOperand
register_operand_in form text = not_pc (register_in text) >>= allowed form

-- N(R), after B^ or the like; any register
abbrev pub based : ℕ → ℕ → Cut → Option SourceOperand
based mode size c = field_in size c.before >>= λ value. closed_in 41 [] c.later >>= λ reg. operand_of_value mode reg value

-- N(R) or NAME, in a mode with `size` bytes
unfoldable pub displaced_in : ℕ → ℕ → List ℕ → Option SourceOperand
displaced_in mode size text = elim (cut_at 40 text) [
  | None ↦ named_in mode 15 text
  | Some c ↦ based mode size c
]

-- a displacement; deferred is 1 after @, else 0
unfoldable pub displacement_in : ℕ → List ℕ → Option SourceOperand
displacement_in deferred text =
    if bytes_eq (take 2 text) (codes "B^") then displaced_in (0xa + deferred) 1 (drop 2 text) else
    if bytes_eq (take 2 text) (codes "W^") then displaced_in (0xc + deferred) 2 (drop 2 text) else
    if bytes_eq (take 2 text) (codes "L^") then displaced_in (0xe + deferred) 4 (drop 2 text) else None

-- after @
unfoldable pub deferred_in : List ℕ → Option SourceOperand
deferred_in text =
    if bytes_eq (take 1 text) (codes "#") then valued_in 4 9 15 (drop 1 text) else
    if bytes_eq (take 1 text) (codes "(") then enclosed 9 (codes "+") (drop 1 text) else displacement_in 1 text

-- after an opening parenthesis
abbrev pub opened_in : List ℕ → Option SourceOperand
opened_in text = option_or (enclosed 6 [] text) (enclosed 8 (codes "+") text)

-- without @
unfoldable pub direct_in : Form → List ℕ → Option SourceOperand
direct_in form text =
    if bytes_eq (take 3 text) (codes "S^#") then literal_in form (drop 3 text) else
    if bytes_eq (take 3 text) (codes "I^#") then valued_in (size_of form.width) 8 15 (drop 3 text) else
    if bytes_eq (take 2 text) (codes "-(") then enclosed 7 [] (drop 2 text) else
    if bytes_eq (take 1 text) (codes "(") then opened_in (drop 1 text) else
    option_or (displacement_in 0 text) (register_operand_in form text)

-- a specifier without index
unfoldable pub specifier_in : Form → List ℕ → Option SourceOperand
specifier_in form text = if bytes_eq (take 1 text) (codes "@") then deferred_in (drop 1 text) else direct_in form text

-- an index over a literal or a register, or over an immediate, is reserved
abbrev pub indexed : SourceOperand → ℕ → Option SourceOperand
indexed o x = if nat_lt o.spec.mode 6 || (o.spec.mode == 8 && o.spec.reg == 15) then None else Some (record o { spec = record (o.spec) { index = Some x } })

-- with R] after an opening bracket (93 closes it)
abbrev pub indexed_in : Form → Cut → Option SourceOperand
indexed_in form c = specifier_in form c.before >>= λ o. not_pc (closed_in 93 [] c.later) >>= indexed o

-- a number, or a name that stands for one; 16 is the mode of what branches
unfoldable pub value_in : ℕ → List ℕ → Option SourceOperand
value_in size text = option_or (valued_in size 16 0 text) (named_in 16 0 text)

-- an operand of the form (91 opens the index)
unfoldable pub operand_in : Form → List ℕ → Option SourceOperand
operand_in form text =
    if is_branch form.access then value_in (size_of form.width) text else elim (cut_at 91 text) [
      | None ↦ specifier_in form text
      | Some c ↦ indexed_in form c
    ]

-- what follows a comma (44), None where there is none
abbrev pub text_after_comma : List ℕ → Option (List ℕ)
text_after_comma text = elim (cut_at 44 text) [ None ↦ None | Some c ↦ Some (c.later) ]

-- operands of the forms with commas between: all of the text, or no text for no operands
abbrev pub operands_in : List Form → Option (List ℕ) → Option (List SourceOperand)
operands_in [] None = Some []
operands_in (f ∷ fs) (Some text) = operand_in f (before_mark 44 text) >>= λ o. operands_in fs (text_after_comma text) >>= λ os. Some (o ∷ os)
operands_in fs text = None
