use Rattle.std.proofs.Common.{arith}
use Rattle.std.proofs.lemmas.Int.{ints}
use Rattle.vax_alu.proofs.Shifts.{far_minus, far_plus}
use Rattle.vax_alu.proofs.exact.shifted_right.Goals as goal

pub returns-then-x-lt0 : goal.returns-then-x-lt0
returns-then-x-lt0 c = far_minus c.args.x c.args.k c.ranges.x (omega (arith, ints)) c.if-k-lt32.false

pub returns-else-x-lt0 : goal.returns-else-x-lt0
returns-else-x-lt0 c = far_plus c.args.x c.args.k c.ranges.x (omega (arith, ints)) c.if-k-lt32.false
