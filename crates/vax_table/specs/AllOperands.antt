-- All operands of an instruction, in their order: each sees PC after its own bytes, and the registers as those before it left them
-- (VAX Architecture Reference Manual, instruction formats and addressing modes: operand specifiers).
use Rattle.std.specs.Prelude.{ℕ, ◌+◌, ◌==◌, List, [], ◌∷◌, Option, Some, None, is_some, if◌then◌else◌, slice_index, slice_set}
use Rattle.vv_base.specs.declared.width.Width.TheVariants.{Long}
use Rattle.vv_base.specs.Width.{size_of}
use Rattle.vax_table.specs.declared.act.Dest.TheVariants.{Nowhere}
use Rattle.vax_table.specs.declared.decoded.Spec.{Spec}
use Rattle.vax_table.specs.declared.evaluation.Evaluated.{Evaluated}
use Rattle.vax_table.specs.declared.evaluation.Operands.{Operands}
use Rattle.vax_table.specs.declared.forms.Access.TheVariants.{Read, Bits}
use Rattle.vax_table.specs.declared.forms.Form.{Form}
use Rattle.vax_table.specs.Interaction.{Interaction, Done, ◌>>=◌}
use Rattle.vax_table.specs.Operand.{by_access, plus}
use Rattle.vax_table.specs.Reading.{is_branch}
use Rattle.vax_table.specs.Rows.{OpcodeEntry, row_of}
use Rattle.vax_table.specs.Spelled.{value_size}
use Rattle.vax_table.specs.Spelling.{Instruction}

-- the bytes of an operand in the instruction: an index, the specifier's first and those after it; or a displacement
abbrev pub operand_length : Form → Spec → ℕ
operand_length f s =
    if is_branch f.access then size_of f.width else
    if is_some s.index then 2 + value_size f s else 1 + value_size f s

-- PC goes on by k bytes
abbrev pub past_own_bytes : ℕ → List ℕ → List ℕ
past_own_bytes k r = slice_set r 15 (plus (slice_index r 15) k)

-- an operand, which sees PC after its own bytes
unfoldable pub operand_of : Form → Spec → List ℕ → Interaction Evaluated
operand_of f s r = by_access f.access f.width s (past_own_bytes (operand_length f s) r)

-- an operand put at its number, with the registers after it
abbrev pub with_operand : ℕ → Operands → Evaluated → Operands
with_operand i o e = record { values = slice_set o.values i e.value; dests = slice_set o.dests i e.dest; r = e.r }

-- the operands from number i on, in order
abbrev pub operands_from : ℕ → List Form → List Spec → Operands → Interaction Operands
operands_from i (f ∷ fs) (s ∷ ss) o = operand_of f s o.r >>= λ e. operands_from (i + 1) fs ss (with_operand i o e)
operands_from i fs ss o = Done o

abbrev pub no_operands : List ℕ → Operands
no_operands r = record { values = 0 ∷ 0 ∷ 0 ∷ 0 ∷ []; dests = Nowhere ∷ Nowhere ∷ Nowhere ∷ Nowhere ∷ []; r = r }

abbrev pub forms_in : Option OpcodeEntry → List Form
forms_in None = []
forms_in (Some e) = e.operands

-- operands of these forms, after an opcode of one byte, or of two for WAIT
abbrev pub operands_by : List Form → Instruction → List ℕ → Interaction Operands
operands_by forms d r = operands_from 0 forms d.specs (no_operands (past_own_bytes (if d.wait then 2 else 1) r))

-- the operands of an instruction
unfoldable pub operands_of : Instruction → List ℕ → Interaction Operands
operands_of d r = operands_by (forms_in (row_of d.opcode)) d r

-- The forms of an instruction that traps. MFPR's destination is not translated then, so it is located as bits are.
abbrev pub trap_forms : ℕ → List Form
trap_forms opcode = if opcode == 0xdb then record { access = Read; width = Long } ∷ record { access = Bits; width = Long } ∷ [] else forms_in (row_of opcode)

-- the operands of an instruction that traps
unfoldable pub trap_operands : Instruction → List ℕ → Interaction Operands
trap_operands d r = operands_by (trap_forms d.opcode) d r
