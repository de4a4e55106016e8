use Rattle.std.proofs.Common.{length}
use Rattle.test_sys.proofs.slices.+steps_of.Given as goal

abbrev pub decreases-steps_of : goal.decreases-steps_of
decreases-steps_of l = length l.slices.now
