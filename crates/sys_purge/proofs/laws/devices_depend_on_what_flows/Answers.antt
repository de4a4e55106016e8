use Rattle.sys_purge.proofs.Depends.{devices_depend}
use Rattle.sys_purge.proofs.laws.devices_depend_on_what_flows.Goals as goal

pub returns : goal.returns
returns c = devices_depend
