use Rattle.vvmm_laws.proofs.Lives.{tells_live_missing}
use Rattle.vvmm_laws.proofs.live.the_first_missing_file_to_live_is_told.Goals as goal

pub returns : goal.returns
returns c = tells_live_missing
