use Rattle.vm_simulation_laws.proofs.Working.{one_dropped}
use Rattle.vm_simulation_laws.proofs.misses.one_frame_is_dropped.Goals as goal

pub returns : goal.returns
returns c = one_dropped
