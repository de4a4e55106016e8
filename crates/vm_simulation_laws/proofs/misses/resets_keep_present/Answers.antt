use Rattle.vm_simulation_laws.proofs.Fitting.{resets_keep}
use Rattle.vm_simulation_laws.proofs.misses.resets_keep_present.Goals as goal

pub returns : goal.returns
returns c = resets_keep
