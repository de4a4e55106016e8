use Rattle.sys_snap.proofs.Misfits.{refused_are_none}
use Rattle.sys_snap.proofs.OnlyStates.{of_one_moment}
use Rattle.sys_snap.proofs.laws.a_snapshot_is_of_one_moment.Goals as goal

pub returns : goal.returns
returns c = record { one = of_one_moment; none = refused_are_none }
