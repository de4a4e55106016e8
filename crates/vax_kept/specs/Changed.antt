-- Which of R0 to R14 an instruction changes, where it is one at most: the registers' sum goes on by that one. An instruction that
-- computes changes the register of its result, a loop that of its index, and one that branches on a bit the register that has it,
-- if one does. One that branches by the codes or a low bit changes none. What its operands do to registers comes from the ways
-- that decrement or increment.
use Rattle.std.specs.Prelude.{◌≡◌, ◌≢◌, ℕ, zero, suc, ◌<◌, ◌&&◌, Bool, true, false, List, [], ◌∷◌, if◌then◌else◌, slice_index}
use Rattle.vv_base.specs.declared.width.Width.TheVariants.{Quad}
use Rattle.vax_table.specs.declared.meaning.Operation.{Operation}
use Rattle.vax_table.specs.declared.meaning.Operation.TheVariants as does
use Rattle.vax_table.specs.declared.meaning.Target.{Target}
use Rattle.vax_table.specs.declared.meaning.Target.TheVariants as targets
use Rattle.vax_operand.specs.declared.kind.Base.{Base}
use Rattle.vax_operand.specs.declared.kind.Base.TheVariants.{Decrement, Increment, IncrementDeferred}
use Rattle.vax_operand.specs.declared.kind.Kind.{Kind}
use Rattle.vax_operand.specs.declared.kind.Kind.TheVariants.{ModifyRegister, WriteRegister, BitsRegister, Read, Modify, Write, Address, Bits}
use Rattle.vax_operand.specs.declared.prepared.Operand.{Operand}

-- of R0 to R14 all but one are alike
abbrev pub AreAlikeBut : ℕ → List ℕ → List ℕ → Type 0
AreAlikeBut n r q = (i : ℕ) → i < 15 → i ≢ n → slice_index q i ≡ slice_index r i

-- the ways that leave each register as it is
abbrev pub is_still : Base → Bool
is_still Decrement = false
is_still Increment = false
is_still IncrementDeferred = false
is_still base = true

abbrev pub leaves_registers : Kind → Bool
leaves_registers (Read base) = is_still base
leaves_registers (Modify base) = is_still base
leaves_registers (Write base) = is_still base
leaves_registers (Address base) = is_still base
leaves_registers (Bits base) = is_still base
leaves_registers kind = true

abbrev pub all_leave_registers : List Operand → Bool
all_leave_registers [] = true
all_leave_registers (x ∷ xs) = leaves_registers x.kind && all_leave_registers xs

-- the register that is an operand's place, or R0, where it has none
abbrev pub operand_register : Kind → ℕ → ℕ
operand_register ModifyRegister n = n
operand_register WriteRegister n = n
operand_register BitsRegister n = n
operand_register kind n = 0

-- that of the operand of this number
abbrev pub register_at : ℕ → List Operand → ℕ
register_at n [] = 0
register_at zero (x ∷ xs) = operand_register x.kind x.spec.reg
register_at (suc n) (x ∷ xs) = register_at n xs

abbrev pub target_register : Target → List Operand → ℕ
target_register targets.CodesOnly xs = 0
target_register targets.First xs = register_at 0 xs
target_register targets.Second xs = register_at 1 xs
target_register targets.Third xs = register_at 2 xs

-- the one that an operation changes after its operands, or 15 where that may be another one or several
abbrev pub result_register : Operation → List Operand → ℕ
result_register (does.Compute op Quad inputs target) xs = 15
result_register (does.Compute op w inputs target) xs = target_register target xs
result_register (does.Branch condition) xs = 0
result_register (does.AddOne at_limit) xs = register_at 1 xs
result_register (does.SubtractOne at_zero) xs = register_at 0 xs
result_register (does.BranchOnLowBit on) xs = 0
result_register (does.BranchOnBit on becomes) xs = register_at 1 xs
result_register operation xs = 15

-- the one that an instruction changes
abbrev pub changed_register : Operation → List Operand → ℕ
changed_register operation xs = if all_leave_registers xs then result_register operation xs else 15
