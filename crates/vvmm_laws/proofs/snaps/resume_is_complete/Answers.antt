use Rattle.vvmm_laws.proofs.Resumes.{completes_resume}
use Rattle.vvmm_laws.proofs.snaps.resume_is_complete.Goals as goal

pub returns : goal.returns
returns c = completes_resume
