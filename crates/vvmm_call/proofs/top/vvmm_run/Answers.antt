use Rattle.vvmm_call.proofs.Unasked.{unasked}
use Rattle.vvmm_call.proofs.top.vvmm_run.Goals as goal

pub returns-clause-says : goal.returns-clause-says
returns-clause-says g c = unasked _ _ _ _ c.perform.ensures
