use Rattle.std.proofs.Common.{arith}
use Rattle.vasm.proofs.Hex.{digits_fit}
use Rattle.vasm.proofs.numbers.hex_number.Goals as goal

pub overflow_mul-value : goal.overflow_mul-value
overflow_mul-value c = omega (arith, digits_fit c.loop-d.value c.loop-d.d-index (omega arith) c.loop-d.invariant.small)

pub overflow_add-value : goal.overflow_add-value
overflow_add-value c = omega (arith, digits_fit c.loop-d.value c.loop-d.d-index (omega arith) c.loop-d.invariant.small)
