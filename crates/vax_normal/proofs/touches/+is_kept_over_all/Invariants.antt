use Rattle.std.proofs.Common.{length}
use Rattle.vax_normal.proofs.touches.+is_kept_over_all.Given as goal

abbrev pub decreases-is_kept_over_all : goal.decreases-is_kept_over_all
decreases-is_kept_over_all l = length l.operands.now
