use Rattle.vvmm_laws.proofs.Saves.{tells_save_rule}
use Rattle.vvmm_laws.proofs.snaps.a_refused_configuration_to_save_is_told.Goals as goal

pub returns : goal.returns
returns c = tells_save_rule
