use Rattle.vm_simulation_laws.proofs.Touching.{stopped_filled}
use Rattle.vm_simulation_laws.proofs.touches.stopped_pages_are_filled.Goals as goal

pub returns : goal.returns
returns c = stopped_filled
