use Rattle.vm_simulation_laws.proofs.Fitting.{entries_valid}
use Rattle.vm_simulation_laws.proofs.misses.entries_are_valid.Goals as goal

pub returns : goal.returns
returns c = entries_valid
