-- What a plain instruction does over a space: its operands in order, and then its operation
-- (VAX Architecture Reference Manual: instruction execution). The interaction sees the registers and the PSL alone.
-- From it follow the outcome, the first trouble, the bytes that are reached, and the places that are claimed, in
-- access order. All accesses come before the first store, since stores are in the outcome.
use Rattle.std.specs.Prelude.{ℕ, ◌+◌, ◌*◌, ◌/◌, ◌%◌, ◌^◌, Bool, true, false, not, List}
use Rattle.vv_base.specs.declared.width.Width.TheVariants.{Long}
use Rattle.vax_table.specs.Arithmetic.{bit_of}
use Rattle.vax_table.specs.Branches.{added_and_compared, added_one, branched_on_bit, branched_on_low_bit, called_subroutine, cased, left_subroutine, subtracted_one}
use Rattle.vax_table.specs.Calls.{called_general, called_on_stack, registers_popped, registers_pushed, returned}
use Rattle.vax_table.specs.Computing.{moved_quad, operand_pushed, status_cleared, status_set}
use Rattle.vax_table.specs.Effects.{Effect, begun, dest_of, put, quad_of}
use Rattle.vax_table.specs.AllOperands.{operands_of}
use Rattle.vax_table.specs.Operations.{operation_of, computed, branched}
use Rattle.vax_table.specs.Interaction.{Interaction, Done, Refuse, ◌>>=◌}
use Rattle.vax_table.specs.Spelling.{Instruction}
use Rattle.vax_table.specs.declared.act.Refusal.TheVariants as refusals
use Rattle.vax_table.specs.declared.evaluation.Operands.{Operands}
use Rattle.vax_table.specs.declared.meaning.Operation.{Operation}
use Rattle.vax_table.specs.declared.meaning.Operation.TheVariants.{Other, Sensitive, Nothing, Compute, ClearQuad, MoveQuad, Push, SetStatus, ClearStatus, Branch, CallSubroutine, LeaveSubroutine, AddAndCompare, AddOne, SubtractOne, BranchOnLowBit, BranchOnBit, Case, PushRegisters, PopRegisters, CallGeneral, CallOnStack, Return, MoveStatus, Probe, Breakpoint, Customer}

-- The operations that depend on registers, status word and space alone. The others refuse, as
-- instructions that don't exist.
unfoldable pub performed : Operation → Operands → ℕ → Interaction Effect
performed Nothing o psw = Done (begun o psw)
performed (Compute op w inputs target) o psw = Done (computed op w inputs target o psw)
performed ClearQuad o psw = Done (moved_quad 0 (dest_of o 0) o psw)
performed MoveQuad o psw = Done (moved_quad (quad_of o 0) (dest_of o 1) o psw)
performed Push o psw = operand_pushed o psw
performed SetStatus o psw = status_set o psw
performed ClearStatus o psw = status_cleared o psw
performed (Branch condition) o psw = Done (branched condition o psw)
performed CallSubroutine o psw = called_subroutine o psw
performed LeaveSubroutine o psw = left_subroutine o psw
performed (AddAndCompare w) o psw = Done (added_and_compared w o psw)
performed (AddOne at_limit) o psw = Done (added_one at_limit o psw)
performed (SubtractOne at_zero) o psw = Done (subtracted_one at_zero o psw)
performed (BranchOnLowBit on) o psw = Done (branched_on_low_bit on o psw)
performed (BranchOnBit on becomes) o psw = branched_on_bit on becomes o psw
performed (Case w) o psw = cased w o psw
performed PushRegisters o psw = registers_pushed o psw
performed PopRegisters o psw = registers_popped o psw
performed CallGeneral o psw = called_general o psw
performed CallOnStack o psw = called_on_stack o psw
performed Return o psw = returned o psw
performed Breakpoint o psw = Refuse refusals.Breakpoint
performed Customer o psw = Refuse refusals.Customer
performed MoveStatus o psw = Refuse refusals.Instruction
performed (Probe intent) o psw = Refuse refusals.Instruction
performed (Sensitive op) o psw = Refuse refusals.Instruction
performed Other o psw = Refuse refusals.Instruction

-- the plain instructions but MOVPSL, PROBE, BPT and XFC
abbrev pub is_planned : Operation → Bool
is_planned Other = false
is_planned (Sensitive op) = false
is_planned MoveStatus = false
is_planned (Probe intent) = false
is_planned Breakpoint = false
is_planned Customer = false
is_planned Nothing = true
is_planned (Compute op w inputs target) = true
is_planned ClearQuad = true
is_planned MoveQuad = true
is_planned Push = true
is_planned SetStatus = true
is_planned ClearStatus = true
is_planned (Branch condition) = true
is_planned CallSubroutine = true
is_planned LeaveSubroutine = true
is_planned (AddAndCompare w) = true
is_planned (AddOne at_limit) = true
is_planned (SubtractOne at_zero) = true
is_planned (BranchOnLowBit on) = true
is_planned (BranchOnBit on becomes) = true
is_planned (Case w) = true
is_planned PushRegisters = true
is_planned PopRegisters = true
is_planned CallGeneral = true
is_planned CallOnStack = true
is_planned Return = true

-- one of these: operands and operation, from the registers and the status word
unfoldable pub planned : Instruction → List ℕ → ℕ → Interaction Effect
planned d r psw = operands_of d r >>= λ o. performed (operation_of d.opcode) o psw

-- PROBE after its operands: N 0, Z where not both bytes are accessible, V 0, C as before
abbrev pub probed : Bool → Operands → ℕ → Effect
probed is_accessible o psw = record (begun o psw) { psw = psw / 16 * 16 + 4 * bit_of (not is_accessible) + psw % 2 }

-- MOVPSL stores the PSL; the other operations depend on its status word alone. PROBE is no plan: whether bytes are
-- accessible is judged after it.
abbrev pub performed_with : ℕ → Operation → Operands → Interaction Effect
performed_with psl MoveStatus o = Done (put (dest_of o 0) Long psl (begun o (psl % 2 ^ 8)))
performed_with psl operation o = performed operation o (psl % 2 ^ 8)

-- any plain instruction but PROBE, from the registers and the PSL
unfoldable pub plan_of : ℕ → Instruction → List ℕ → Interaction Effect
plan_of psl d r = operands_of d r >>= λ o. performed_with psl (operation_of d.opcode) o
