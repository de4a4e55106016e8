use Rattle.std.proofs.Common.{arith}
use Rattle.vasm.proofs.Steps.{number_step}
use Rattle.vasm.proofs.put.put_number.Goals as goal

pub loop-left-preserved : goal.loop-left-preserved
loop-left-preserved c = rw c.in_ok-put.ensures (number_step c.loop-left.bytes.items _ c.loop-left._left c.loop-left.rest (omega arith) c.loop-left.invariant)
