use Rattle.vm_simulation_laws.proofs.Paying.{nothing_owed}
use Rattle.vm_simulation_laws.proofs.payments.nothing_is_owed.Goals as goal

pub returns : goal.returns
returns c = nothing_owed
