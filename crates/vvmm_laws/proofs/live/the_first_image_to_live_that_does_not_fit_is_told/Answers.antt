use Rattle.vvmm_laws.proofs.Lives.{tells_live_image}
use Rattle.vvmm_laws.proofs.live.the_first_image_to_live_that_does_not_fit_is_told.Goals as goal

pub returns : goal.returns
returns c = tells_live_image
