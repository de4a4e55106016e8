use Rattle.vvmm_laws.proofs.Lives.{tells_live_drive_fault}
use Rattle.vvmm_laws.proofs.live.a_live_run_names_a_failed_drive.Goals as goal

pub returns : goal.returns
returns c = tells_live_drive_fault
