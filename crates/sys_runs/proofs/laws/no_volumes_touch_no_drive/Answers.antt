use Rattle.sys_runs.proofs.Stored.{touches_no_drive}
use Rattle.sys_runs.proofs.laws.no_volumes_touch_no_drive.Goals as goal

pub returns : goal.returns
returns c = touches_no_drive
