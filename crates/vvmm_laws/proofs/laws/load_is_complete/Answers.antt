use Rattle.vvmm_laws.proofs.Loads.{completes_load}
use Rattle.vvmm_laws.proofs.laws.load_is_complete.Goals as goal

pub returns : goal.returns
returns c = completes_load
