use Rattle.sys_snap.proofs.OnlyStates.{reads_only_snaps}
use Rattle.sys_snap.proofs.laws.only_snapshots_are_read.Goals as goal

pub returns : goal.returns
returns c = reads_only_snaps
