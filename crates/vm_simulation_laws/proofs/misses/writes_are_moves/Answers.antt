use Rattle.vm_simulation_laws.proofs.Fitting.{writes_moves}
use Rattle.vm_simulation_laws.proofs.misses.writes_are_moves.Goals as goal

pub returns : goal.returns
returns c = writes_moves
