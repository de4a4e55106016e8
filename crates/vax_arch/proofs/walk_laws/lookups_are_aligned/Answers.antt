use Rattle.vax_arch.proofs.Walks.{looks_aligned}
use Rattle.vax_arch.proofs.walk_laws.lookups_are_aligned.Goals as goal

pub returns : goal.returns
returns c = looks_aligned
