use Rattle.vvmm_laws.proofs.Lives.{tells_live_size}
use Rattle.vvmm_laws.proofs.live.the_first_volume_to_live_of_another_size_is_told.Goals as goal

pub returns : goal.returns
returns c = tells_live_size
