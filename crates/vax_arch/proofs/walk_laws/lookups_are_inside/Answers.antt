use Rattle.vax_arch.proofs.Walks.{looks_inside}
use Rattle.vax_arch.proofs.walk_laws.lookups_are_inside.Goals as goal

pub returns : goal.returns
returns c = looks_inside
