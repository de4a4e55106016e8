use Rattle.vm_simulation_laws.proofs.Touching.{misses_touched}
use Rattle.vm_simulation_laws.proofs.touches.misses_are_touched.Goals as goal

pub returns : goal.returns
returns c = misses_touched
