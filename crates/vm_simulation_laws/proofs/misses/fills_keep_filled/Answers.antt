use Rattle.vm_simulation_laws.proofs.Fitting.{fills_keep}
use Rattle.vm_simulation_laws.proofs.misses.fills_keep_filled.Goals as goal

pub returns : goal.returns
returns c = fills_keep
