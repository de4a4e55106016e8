use Rattle.vvmm_laws.proofs.Chosen.{completes_run}
use Rattle.vvmm_laws.proofs.laws.run_is_complete.Goals as goal

pub returns : goal.returns
returns c = completes_run
