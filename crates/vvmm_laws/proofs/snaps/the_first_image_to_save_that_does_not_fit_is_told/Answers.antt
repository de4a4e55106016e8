use Rattle.vvmm_laws.proofs.Saves.{tells_save_image}
use Rattle.vvmm_laws.proofs.snaps.the_first_image_to_save_that_does_not_fit_is_told.Goals as goal

pub returns : goal.returns
returns c = tells_save_image
