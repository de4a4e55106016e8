use Rattle.vvmm_laws.proofs.Resumes.{tells_many}
use Rattle.vvmm_laws.proofs.Saves.{tells_snap_size}
use Rattle.vvmm_laws.proofs.snaps.a_too_large_snapshot_is_told.Goals as goal

pub returns-clause-save : goal.returns-clause-save
returns-clause-save c = tells_snap_size

pub returns-clause-extend : goal.returns-clause-extend
returns-clause-extend c = tells_many
