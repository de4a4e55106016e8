use Rattle.vm_simulation_laws.proofs.Working.{switches_retell}
use Rattle.vm_simulation_laws.proofs.misses.switches_retell.Goals as goal

pub returns : goal.returns
returns c = switches_retell
