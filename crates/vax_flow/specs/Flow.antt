-- The operations that go on elsewhere, or work on the stack.
use Rattle.std.specs.Prelude.{Bool, true, false}
use Rattle.vax_table.specs.declared.meaning.Operation.{Operation}
use Rattle.vax_table.specs.declared.meaning.Operation.TheVariants.{Other, Sensitive, Nothing, Compute, ClearQuad, MoveQuad, Push, SetStatus, ClearStatus, Branch, CallSubroutine, LeaveSubroutine, AddAndCompare, AddOne, SubtractOne, BranchOnLowBit, BranchOnBit, Case, PushRegisters, PopRegisters, CallGeneral, CallOnStack, Return, MoveStatus, Probe, Breakpoint, Customer}

abbrev pub is_flow : Operation → Bool
is_flow Push = true
is_flow (Branch condition) = true
is_flow CallSubroutine = true
is_flow LeaveSubroutine = true
is_flow (AddAndCompare w) = true
is_flow (AddOne at_limit) = true
is_flow (SubtractOne at_zero) = true
is_flow (BranchOnLowBit on) = true
is_flow (BranchOnBit on becomes) = true
is_flow (Case w) = true
is_flow PushRegisters = true
is_flow PopRegisters = true
is_flow CallGeneral = true
is_flow CallOnStack = true
is_flow Return = true
is_flow Other = false
is_flow (Sensitive op) = false
is_flow Nothing = false
is_flow (Compute op w inputs target) = false
is_flow ClearQuad = false
is_flow MoveQuad = false
is_flow SetStatus = false
is_flow ClearStatus = false
is_flow MoveStatus = false
is_flow (Probe intent) = false
is_flow Breakpoint = false
is_flow Customer = false
