use Rattle.vm_simulation_laws.proofs.Retiring.{retires}
use Rattle.vm_simulation_laws.proofs.laws.instructions_retire_as_the_guests.Goals as goal

pub returns : goal.returns
returns c = retires
