use Rattle.vvmm_laws.proofs.Saves.{tells_save_too_long}
use Rattle.vvmm_laws.proofs.snaps.the_first_too_long_file_to_save_is_told.Goals as goal

pub returns : goal.returns
returns c = tells_save_too_long
