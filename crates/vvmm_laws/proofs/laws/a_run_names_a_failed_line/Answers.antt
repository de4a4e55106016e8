use Rattle.vvmm_laws.proofs.Chosen.{tells_run_line_fault}
use Rattle.vvmm_laws.proofs.laws.a_run_names_a_failed_line.Goals as goal

pub returns : goal.returns
returns c = tells_run_line_fault
