use Rattle.std.proofs.Common.{length}
use Rattle.test_sys.proofs.slices.+are_quanta.Given as goal

abbrev pub decreases-are_quanta : goal.decreases-are_quanta
decreases-are_quanta l = length l.rows.now
