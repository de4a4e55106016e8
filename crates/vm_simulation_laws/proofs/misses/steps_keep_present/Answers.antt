use Rattle.vm_simulation_laws.proofs.Fitting.{steps_keep}
use Rattle.vm_simulation_laws.proofs.misses.steps_keep_present.Goals as goal

pub returns : goal.returns
returns c = steps_keep
