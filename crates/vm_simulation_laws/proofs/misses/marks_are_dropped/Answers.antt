use Rattle.vm_simulation_laws.proofs.Working.{marks_dropped}
use Rattle.vm_simulation_laws.proofs.misses.marks_are_dropped.Goals as goal

pub returns : goal.returns
returns c = marks_dropped
