use Rattle.vvmm_laws.proofs.Saves.{tells_save_line}
use Rattle.vvmm_laws.proofs.snaps.a_refused_script_to_save_is_told.Goals as goal

pub returns : goal.returns
returns c = tells_save_line
