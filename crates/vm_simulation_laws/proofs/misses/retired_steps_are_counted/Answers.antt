use Rattle.vm_simulation_laws.proofs.Working.{retired_counted}
use Rattle.vm_simulation_laws.proofs.misses.retired_steps_are_counted.Goals as goal

pub returns : goal.returns
returns c = retired_counted
