-- Worked examples of the register that an instruction changes, by computation.
use Rattle.std.specs.Prelude.{◌≡◌, refl, true, false, [], Some}
use Rattle.vv_base.specs.declared.width.Width.TheVariants.{Byte, Quad}
use Rattle.vax_table.specs.declared.answer.AluOp.TheVariants.{Add, Move}
use Rattle.vax_table.specs.declared.meaning.Condition.TheVariants.{NotEqual}
use Rattle.vax_table.specs.declared.meaning.Inputs.TheVariants.{Both, First}
use Rattle.vax_table.specs.declared.meaning.Operation.TheVariants.{Branch, BranchOnBit, BranchOnLowBit, Compute, Nothing}
use Rattle.vax_table.specs.declared.meaning.Target.TheVariants.{CodesOnly, Second}
use Rattle.vax_operand.specs.declared.kind.Base.TheVariants.{Deferred, Decrement, Increment, IncrementDeferred, Absolute, Displaced, DisplacedDeferred}
use Rattle.vax_operand.specs.declared.kind.Kind.TheVariants.{Constant, ReadRegister, ModifyRegister, WriteRegister, BitsRegister, Read, Modify, Write, Bits}
use Rattle.vax_kept.specs.Changed.{changed_register, is_still, leaves_registers, operand_register, result_register}

-- the ways -(R), (R)+ and @(R)+ change their register, and no other does
pub decrement : is_still Decrement ≡ false
decrement = refl

pub increment : is_still Increment ≡ false
increment = refl

pub increment_deferred : is_still IncrementDeferred ≡ false
increment_deferred = refl

pub deferred : is_still Deferred ≡ true
deferred = refl

pub displaced : is_still (Displaced 8) ≡ true
displaced = refl

pub displaced_deferred : is_still (DisplacedDeferred 8) ≡ true
displaced_deferred = refl

pub absolute : is_still (Absolute 0x200) ≡ true
absolute = refl

-- MOVL (R1)+,.. changes R1 by its first operand; MOVL .., (R1) changes memory alone
pub source : leaves_registers (Read Increment) ≡ false
source = refl

pub destination : leaves_registers (Write Deferred) ≡ true
destination = refl

pub modified : leaves_registers (Modify Decrement) ≡ false
modified = refl

pub literal : leaves_registers Constant ≡ true
literal = refl

-- the register of a place: R3 where it is modified or written, and none where it is only read
pub place : operand_register (ModifyRegister) 3 ≡ 3
place = refl

pub written : operand_register (WriteRegister) 14 ≡ 14
written = refl

pub bits : operand_register (BitsRegister) 5 ≡ 5
bits = refl

pub read : operand_register (ReadRegister) 3 ≡ 0
read = refl

-- BBSS R7,(R3),.. changes memory alone
pub bit_in_memory : operand_register (Bits Deferred) 3 ≡ 0
bit_in_memory = refl

pub low_bit : result_register (BranchOnLowBit true) [] ≡ 0
low_bit = refl

pub bit_of_none : result_register (BranchOnBit true (Some true)) [] ≡ 0
bit_of_none = refl

-- a quadword changes two registers, NOP and all others may change several, and a branch by the codes changes none but PC
pub quad : result_register (Compute Move Quad First Second) [] ≡ 15
quad = refl

pub compare : result_register (Compute Add Byte Both CodesOnly) [] ≡ 0
compare = refl

pub nothing : changed_register Nothing [] ≡ 15
nothing = refl

pub branch : changed_register (Branch NotEqual) [] ≡ 0
branch = refl
