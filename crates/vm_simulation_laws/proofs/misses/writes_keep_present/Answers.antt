use Rattle.vm_simulation_laws.proofs.Fitting.{writes_keep}
use Rattle.vm_simulation_laws.proofs.misses.writes_keep_present.Goals as goal

pub returns : goal.returns
returns c = writes_keep
