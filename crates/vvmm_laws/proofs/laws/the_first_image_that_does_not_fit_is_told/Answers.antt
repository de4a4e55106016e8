use Rattle.vvmm_laws.proofs.Chosen.{tells_run_image}
use Rattle.vvmm_laws.proofs.laws.the_first_image_that_does_not_fit_is_told.Goals as goal

pub returns : goal.returns
returns c = tells_run_image
