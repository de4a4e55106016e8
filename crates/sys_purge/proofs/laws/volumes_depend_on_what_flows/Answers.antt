use Rattle.sys_purge.proofs.Depends.{volumes_depend}
use Rattle.sys_purge.proofs.laws.volumes_depend_on_what_flows.Goals as goal

pub returns : goal.returns
returns c = volumes_depend
