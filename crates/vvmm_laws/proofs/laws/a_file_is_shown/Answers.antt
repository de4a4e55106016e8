use Rattle.vvmm_laws.proofs.Shown.{completes_file}
use Rattle.vvmm_laws.proofs.laws.a_file_is_shown.Goals as goal

pub returns : goal.returns
returns c = completes_file
