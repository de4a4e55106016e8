use Rattle.vvmm_call.specs.Answer.{FollowsExtend, FollowsResume}
use Rattle.sys_runs.specs.Besides.{MissesArePaid}
use Rattle.vvmm_laws.proofs.Resumes.{extend_either, resume_either, tells_resume_line_fault}
use Rattle.vvmm_laws.proofs.snaps.a_resume_names_a_failed_line.Goals as goal

pub returns-clause-resume : goal.returns-clause-resume
returns-clause-resume c = tells_resume_line_fault (FollowsResume MissesArePaid) resume_either

pub returns-clause-extend : goal.returns-clause-extend
returns-clause-extend c = tells_resume_line_fault (FollowsExtend MissesArePaid) extend_either
