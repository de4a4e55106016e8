use Rattle.vm_simulation_laws.proofs.Fitting.{filled_stay}
use Rattle.vm_simulation_laws.proofs.misses.filled_entries_stay.Goals as goal

pub returns : goal.returns
returns c = filled_stay
