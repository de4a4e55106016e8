use Rattle.vvmm_laws.proofs.Resumes.{tells_extend_size, tells_resume_size}
use Rattle.vvmm_laws.proofs.snaps.the_first_volume_to_resume_of_another_size_is_told.Goals as goal

pub returns-clause-resume : goal.returns-clause-resume
returns-clause-resume c = tells_resume_size

pub returns-clause-extend : goal.returns-clause-extend
returns-clause-extend c = tells_extend_size
