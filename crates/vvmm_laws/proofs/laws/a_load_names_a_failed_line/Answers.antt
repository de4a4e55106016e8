use Rattle.vvmm_laws.proofs.Loads.{tells_load_line_fault}
use Rattle.vvmm_laws.proofs.laws.a_load_names_a_failed_line.Goals as goal

pub returns : goal.returns
returns c = tells_load_line_fault
