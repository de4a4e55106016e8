use Rattle.vvmm_laws.proofs.Depends.{unnamed_is_apart}
use Rattle.vvmm_laws.proofs.reach.what_reach_does_not_name_is_apart.Goals as goal

pub returns : goal.returns
returns c = unnamed_is_apart
