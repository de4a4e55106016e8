use Rattle.vvmm_laws.proofs.Closed.{closed_sets_are_apart}
use Rattle.vvmm_laws.proofs.reach.closed_sets_are_apart.Goals as goal

pub returns : goal.returns
returns c = closed_sets_are_apart
