use Rattle.vvmm_laws.proofs.Chosen.{tells_run_missing}
use Rattle.vvmm_laws.proofs.laws.the_first_missing_file_is_told.Goals as goal

pub returns : goal.returns
returns c = tells_run_missing
