use Rattle.vvmm_laws.proofs.Chosen.{tells_run_too_long}
use Rattle.vvmm_laws.proofs.laws.the_first_too_long_file_is_told.Goals as goal

pub returns : goal.returns
returns c = tells_run_too_long
