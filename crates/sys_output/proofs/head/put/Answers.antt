use Rattle.sys_devices.proofs.Puts.{shows}
use Rattle.sys_output.proofs.head.put.Goals as goal

pub returns : goal.returns
returns g c = shows _ _ _ c.put.result c.put.ensures
