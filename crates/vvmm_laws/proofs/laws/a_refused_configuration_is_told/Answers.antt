use Rattle.vvmm_laws.proofs.Chosen.{tells_run_rule}
use Rattle.vvmm_laws.proofs.laws.a_refused_configuration_is_told.Goals as goal

pub returns : goal.returns
returns c = tells_run_rule
