use Rattle.vax_arch.proofs.Walks.{looks_at_one}
use Rattle.vax_arch.proofs.walk_laws.lookups_read_one_longword.Goals as goal

pub returns : goal.returns
returns c = looks_at_one
