use Rattle.std.proofs.Common.{length}
use Rattle.vasm.proofs.operand.+lacks_any.Given as goal

abbrev pub decreases-lacks_any : goal.decreases-lacks_any
decreases-lacks_any l = length l.operands.now
