use Rattle.std.proofs.Common.{length}
use Rattle.vax_paged.proofs.stores.+store_each.Given as goal

abbrev pub decreases-store_each : goal.decreases-store_each
decreases-store_each l = length l.stores.now
