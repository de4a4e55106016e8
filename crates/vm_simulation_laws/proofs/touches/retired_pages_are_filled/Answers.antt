use Rattle.vm_simulation_laws.proofs.Touching.{retired_filled}
use Rattle.vm_simulation_laws.proofs.touches.retired_pages_are_filled.Goals as goal

pub returns : goal.returns
returns c = retired_filled
