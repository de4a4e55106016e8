use Rattle.std.proofs.Common.{length}
use Rattle.vax_paged.proofs.stores.+all_lie_in.Given as goal

abbrev pub decreases-all_lie_in : goal.decreases-all_lie_in
decreases-all_lie_in l = length l.stores.now
