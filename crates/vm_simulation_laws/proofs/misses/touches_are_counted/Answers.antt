use Rattle.vm_simulation_laws.proofs.Fitting.{touches_counted}
use Rattle.vm_simulation_laws.proofs.misses.touches_are_counted.Goals as goal

pub returns : goal.returns
returns c = touches_counted
