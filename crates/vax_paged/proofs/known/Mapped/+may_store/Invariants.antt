use Rattle.std.proofs.Common.{length}
use Rattle.vax_paged.proofs.known.Mapped.+may_store.Given as goal

abbrev pub decreases-may_store : goal.decreases-may_store
decreases-may_store l = length l.stores.now
