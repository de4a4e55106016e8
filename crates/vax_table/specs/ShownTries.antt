-- Worked examples of claims and tries, by computation.
use Rattle.std.specs.Prelude.{◌≡◌, refl, ℕ, nat_le, Bool, true, false, [], ◌∷◌, Some, None, Ok, Err, if◌then◌else◌}
use Rattle.vv_base.specs.declared.width.Width.TheVariants.{Byte, Word, Long}
use Rattle.vax_arch.specs.declared.mode.Intent.TheVariants.{Write}
use Rattle.vax_table.specs.Arithmetic.{alu_of}
use Rattle.vax_table.specs.Calls.{registers_pushed}
use Rattle.vax_table.specs.Claims.{claims, operand_claims}
use Rattle.vax_table.specs.Effects.{Effect, store}
use Rattle.vax_table.specs.Operand.{address_of, base_address, modified_operand, read_operand}
use Rattle.vax_table.specs.AllOperands.{operand_of, operands_of}
use Rattle.vax_table.specs.Operations.{operation_of, computed}
use Rattle.vax_table.specs.Plan.{performed, plan_of}
use Rattle.vax_table.specs.PlanLaws.{bytes_of_stores}
use Rattle.vax_table.specs.InstructionSet.{m, r, w}
use Rattle.vax_table.specs.Rows.{row_of}
use Rattle.vax_table.specs.Interaction.{Absent, At, Interaction, Space}
use Rattle.vax_table.specs.ShownOperand.{instruction}
use Rattle.vax_table.specs.ShownPlan.{doing, registers, zeros}
use Rattle.vax_table.specs.Spelled.{value_size}
use Rattle.vax_table.specs.Spelling.{unindexed}
use Rattle.vax_table.specs.Stack.{named_down, push}
use Rattle.vax_table.specs.Tries.{Clear, Completes, Stopped, first_clear, tried}
use Rattle.vax_table.specs.declared.act.Dest.TheVariants.{Nowhere, Register, Memory}

-- the modify bits from 200 on are clear; or all are set; or none is
abbrev pub from_200 : ℕ → Bool
from_200 va = nat_le 0x200 va

abbrev pub none_clear : ℕ → Bool
none_clear va = false

abbrev pub all_clear : ℕ → Bool
all_clear va = true

pub first_of_four : first_clear from_200 (0x1fe ∷ 0x1ff ∷ 0x200 ∷ 0x201 ∷ []) ≡ Some 0x200
first_of_four = refl

-- in the order of the list, and not of the addresses
pub in_order : first_clear from_200 (0x204 ∷ 0x1ff ∷ 0x200 ∷ []) ≡ Some 0x204
in_order = refl

pub no_clear : first_clear none_clear (0x1fe ∷ 0x200 ∷ []) ≡ None
no_clear = refl

-- addresses wrap at 32 bits
pub bytes_of_two : bytes_of_stores (store 0xffffffff Word 5 ∷ store 0x10 Byte 6 ∷ []) ≡ 0xffffffff ∷ 0 ∷ 0x10 ∷ []
bytes_of_two = refl

-- of a read operand, one modified at 1FF and one in a register those of the second alone
pub of_three : operand_claims (r Long ∷ m Word ∷ w Long ∷ []) (Nowhere ∷ Memory 0x1ff ∷ Register 3 ∷ Nowhere ∷ []) ≡ 0x1ff ∷ 0x200 ∷ []
of_three = refl

-- INCL (R1), with R1 1FF
abbrev pub increments : Interaction Effect
increments = doing (instruction 0xd6 (unindexed 6 1 0 ∷ [])) (registers 0 0x1ff 0 0 0 0x300) 0

abbrev pub incremented : Effect
incremented = record { r = registers 0 0x1ff 0 0 0 0x302; psw = 0; writes = store 0x1ff Long 1 ∷ []; trap = None }

pub claims_four : claims zeros increments ≡ 0x1ff ∷ 0x200 ∷ 0x201 ∷ 0x202 ∷ []
unfolding plan_of performed operation_of row_of operands_of operand_of modified_operand address_of base_address value_size computed alu_of
claims_four = refl

pub completes : tried zeros none_clear increments ≡ Completes incremented
unfolding plan_of performed operation_of row_of operands_of operand_of modified_operand address_of base_address value_size computed alu_of
completes = refl

pub clear_at_the_second : tried zeros from_200 increments ≡ Clear 0x200
unfolding plan_of performed operation_of row_of operands_of operand_of modified_operand address_of base_address value_size computed alu_of
clear_at_the_second = refl

-- PUSHR #3 with SP 204: R1 goes to 200, and R0 to 1FC
abbrev pub pushes : Interaction Effect
pushes = doing (instruction 0xbb (unindexed 0 0 3 ∷ [])) (registers 7 8 0 0 0x204 0x300) 0

pub claims_eight : claims zeros pushes ≡ 0x200 ∷ 0x201 ∷ 0x202 ∷ 0x203 ∷ 0x1fc ∷ 0x1fd ∷ 0x1fe ∷ 0x1ff ∷ []
unfolding plan_of performed operation_of row_of operands_of operand_of read_operand value_size registers_pushed named_down push
claims_eight = refl

pub stores_eight : bytes_of_stores (store 0x200 Long 8 ∷ store 0x1fc Long 7 ∷ []) ≡ claims zeros pushes
unfolding plan_of performed operation_of row_of operands_of operand_of read_operand value_size registers_pushed named_down push
stores_eight = refl

pub clear_at_the_first : tried zeros from_200 pushes ≡ Clear 0x200
unfolding plan_of performed operation_of row_of operands_of operand_of read_operand value_size registers_pushed named_down push
clear_at_the_first = refl

-- where the second longword isn't there, that trouble comes before the first one's clear bits
abbrev pub above_200 : Space
above_200 i at = if nat_le 0x200 at then Ok 0 else Err Absent

pub trouble_first : tried above_200 all_clear pushes ≡ Stopped (At Absent Write 0x1fc)
unfolding plan_of performed operation_of row_of operands_of operand_of read_operand value_size registers_pushed named_down push
trouble_first = refl
