use Rattle.std.proofs.Common.{arith, slice_index}
use lib.Bits.{and_zero_r}
use Rattle.vax_normal.proofs.shape.Number.constant.Goals as goal

pub returns : goal.returns
returns c = λ r. omega (arith, and_zero_r (slice_index r 0), c.ranges.value)
