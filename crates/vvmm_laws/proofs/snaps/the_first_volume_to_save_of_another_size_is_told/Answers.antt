use Rattle.vvmm_laws.proofs.Saves.{tells_save_size}
use Rattle.vvmm_laws.proofs.snaps.the_first_volume_to_save_of_another_size_is_told.Goals as goal

pub returns : goal.returns
returns c = tells_save_size
