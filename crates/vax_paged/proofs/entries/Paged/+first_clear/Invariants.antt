use Rattle.std.proofs.Common.{length}
use Rattle.vax_paged.proofs.entries.Paged.+first_clear.Given as goal

abbrev pub decreases-first_clear : goal.decreases-first_clear
decreases-first_clear l = length l.stores.now
