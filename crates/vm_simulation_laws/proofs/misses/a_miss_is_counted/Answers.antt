use Rattle.vm_simulation_laws.proofs.Fitting.{misses_counted}
use Rattle.vm_simulation_laws.proofs.misses.a_miss_is_counted.Goals as goal

pub returns : goal.returns
returns c = misses_counted
