use Rattle.vvmm_laws.proofs.Lives.{tells_live_rule}
use Rattle.vvmm_laws.proofs.live.a_refused_configuration_to_live_is_told.Goals as goal

pub returns : goal.returns
returns c = tells_live_rule
