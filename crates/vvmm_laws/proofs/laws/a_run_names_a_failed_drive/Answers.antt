use Rattle.vvmm_laws.proofs.Chosen.{tells_run_drive_fault}
use Rattle.vvmm_laws.proofs.laws.a_run_names_a_failed_drive.Goals as goal

pub returns : goal.returns
returns c = tells_run_drive_fault
