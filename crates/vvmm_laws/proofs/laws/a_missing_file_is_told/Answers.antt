use Rattle.vvmm_laws.proofs.Shown.{tells_file_missing}
use Rattle.vvmm_laws.proofs.laws.a_missing_file_is_told.Goals as goal

pub returns : goal.returns
returns c = tells_file_missing
