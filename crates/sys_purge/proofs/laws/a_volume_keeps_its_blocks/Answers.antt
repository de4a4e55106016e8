use Rattle.sys_purge.proofs.Depends.{keeps_volumes}
use Rattle.sys_purge.proofs.laws.a_volume_keeps_its_blocks.Goals as goal

pub returns : goal.returns
returns c = keeps_volumes
