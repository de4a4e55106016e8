use Rattle.std.proofs.Common.{length}
use Rattle.vax_normal.proofs.touches.+touches_of.Given as goal

abbrev pub decreases-touches_of : goal.decreases-touches_of
decreases-touches_of l = length l.operands.now
