use Rattle.vvmm_laws.proofs.Shown.{tells_file_too_long}
use Rattle.vvmm_laws.proofs.laws.a_too_long_file_is_told.Goals as goal

pub returns : goal.returns
returns c = tells_file_too_long
