use Rattle.vvmm_laws.proofs.Depends.{depends_only_on_reached}
use Rattle.vvmm_laws.proofs.reach.devices_depend_on_what_reaches.Goals as goal

pub returns : goal.returns
returns c = depends_only_on_reached
