use Rattle.vvmm_laws.proofs.Chosen.{tells_run_line}
use Rattle.vvmm_laws.proofs.laws.a_refused_script_is_told.Goals as goal

pub returns : goal.returns
returns c = tells_run_line
