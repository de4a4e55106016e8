use Rattle.vvmm_laws.proofs.Shown.{tells_file_refused}
use Rattle.vvmm_laws.proofs.laws.a_refused_line_is_told.Goals as goal

pub returns : goal.returns
returns c = tells_file_refused
