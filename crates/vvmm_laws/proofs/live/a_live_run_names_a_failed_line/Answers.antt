use Rattle.vvmm_laws.proofs.Lives.{tells_live_line_fault}
use Rattle.vvmm_laws.proofs.live.a_live_run_names_a_failed_line.Goals as goal

pub returns : goal.returns
returns c = tells_live_line_fault
