use Rattle.vvmm_call.specs.Answer.{FollowsExtend, FollowsResume}
use Rattle.sys_runs.specs.Besides.{MissesArePaid}
use Rattle.vvmm_laws.proofs.Resumes.{extend_either, resume_either, tells_snap}
use Rattle.vvmm_laws.proofs.snaps.a_refused_snapshot_is_told.Goals as goal

pub returns-clause-resume : goal.returns-clause-resume
returns-clause-resume c = tells_snap (FollowsResume MissesArePaid) resume_either

pub returns-clause-extend : goal.returns-clause-extend
returns-clause-extend c = tells_snap (FollowsExtend MissesArePaid) extend_either
