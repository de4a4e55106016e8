use Rattle.vvmm_laws.proofs.Resumes.{tells_resume_drive_fault}
use Rattle.vvmm_laws.proofs.snaps.a_resume_names_a_failed_drive.Goals as goal

pub returns : goal.returns
returns c = tells_resume_drive_fault
