-- The operations that the code has for the opcodes, in the words of the instruction set.
use Rattle.std.specs.Prelude.{ℕ, Bool, true, false, not, ◌||◌, slice_index_or}
use Rattle.vv_base.specs.declared.width.Width.{Width}
use Rattle.vv_base.specs.declared.width.Width.TheVariants.{Byte, Word, Long, Quad}
use Rattle.vv_base.specs.Bits.{is_set}
use Rattle.vv_base.specs.Width.{low, size_of}
use Rattle.vax_table.specs.Arithmetic.{alu_of}
use Rattle.vax_table.specs.Effects.{Effect, begun, dest_of, long_of, put, went_if}
use Rattle.vax_table.specs.Operand.{extended}
use Rattle.vax_table.specs.declared.act.Dest.{Dest}
use Rattle.vax_table.specs.declared.act.Dest.TheVariants.{Nowhere}
use Rattle.vax_table.specs.declared.answer.AluOp.{AluOp}
use Rattle.vax_table.specs.declared.evaluation.Operands.{Operands}
use Rattle.vax_table.specs.declared.meaning.Condition.{Condition}
use Rattle.vax_table.specs.declared.meaning.Condition.TheVariants.{Always, NotEqual, Equal, Greater, LessOrEqual, GreaterOrEqual, Less, GreaterUnsigned, LessOrEqualUnsigned, OverflowClear, OverflowSet, CarryClear, CarrySet}
use Rattle.vax_table.specs.declared.meaning.Inputs.{Inputs}
use Rattle.vax_table.specs.declared.meaning.Inputs.TheVariants.{Zero, First, Signed, Both, OneAndFirst}
use Rattle.vax_table.specs.declared.meaning.Operation.{Operation}
use Rattle.vax_table.specs.declared.meaning.Operation.TheVariants.{Other, Compute, AddAndCompare, Case}
use Rattle.vax_table.specs.declared.meaning.Target.{Target}
use Rattle.vax_table.specs.declared.meaning.Target.TheVariants as targets
use Rattle.vax_table.specs.declared.meanings.TheConstants.{OPERATIONS}

-- the code's operation for an opcode
unfoldable pub operation_of : ℕ → Operation
operation_of n = slice_index_or OPERATIONS n Other

-- operations of the arithmetic work in a byte, a word or a longword
abbrev pub is_narrow_width : Width → Bool
is_narrow_width Byte = true
is_narrow_width Word = true
is_narrow_width Long = true
is_narrow_width Quad = false

abbrev pub is_narrow : Operation → Bool
is_narrow (Compute op w inputs target) = is_narrow_width w
is_narrow (AddAndCompare w) = is_narrow_width w
is_narrow (Case w) = is_narrow_width w
is_narrow operation = true

-- the first number of an operation
abbrev pub first_input : Inputs → Operands → ℕ
first_input Zero o = 0
first_input First o = long_of o 0
first_input (Signed w) o = extended (size_of w) (low w (long_of o 0))
first_input Both o = long_of o 0
first_input OneAndFirst o = 1

-- and the second, where it has one
abbrev pub second_input : Inputs → Operands → ℕ
second_input Zero o = 0
second_input First o = 0
second_input (Signed w) o = 0
second_input Both o = long_of o 1
second_input OneAndFirst o = long_of o 0

-- where the result goes
abbrev pub target_of : Target → Operands → Dest
target_of targets.CodesOnly o = Nowhere
target_of targets.First o = dest_of o 0
target_of targets.Second o = dest_of o 1
target_of targets.Third o = dest_of o 2

-- an operation of the arithmetic
unfoldable pub computed : AluOp → Width → Inputs → Target → Operands → ℕ → Effect
computed op w inputs target o psw =
    let x = alu_of op (first_input inputs o) (second_input inputs o) w psw in
    put (target_of target o) w x.value (record (begun o psw) { psw = x.psw; trap = x.trap })

-- the conditions, by the codes of a status word
abbrev pub holds : Condition → ℕ → Bool
holds Always psw = true
holds NotEqual psw = not (is_set psw 2)
holds Equal psw = is_set psw 2
holds Greater psw = not (is_set psw 3 || is_set psw 2)
holds LessOrEqual psw = is_set psw 3 || is_set psw 2
holds GreaterOrEqual psw = not (is_set psw 3)
holds Less psw = is_set psw 3
holds GreaterUnsigned psw = not (is_set psw 0 || is_set psw 2)
holds LessOrEqualUnsigned psw = is_set psw 0 || is_set psw 2
holds OverflowClear psw = not (is_set psw 1)
holds OverflowSet psw = is_set psw 1
holds CarryClear psw = not (is_set psw 0)
holds CarrySet psw = is_set psw 0

-- a branch to its operand
unfoldable pub branched : Condition → Operands → ℕ → Effect
branched condition o psw = went_if (holds condition psw) (long_of o 0) (begun o psw)
