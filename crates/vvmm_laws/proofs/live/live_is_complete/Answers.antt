use Rattle.vvmm_laws.proofs.Lives.{completes_live}
use Rattle.vvmm_laws.proofs.live.live_is_complete.Goals as goal

pub returns : goal.returns
returns c = completes_live
