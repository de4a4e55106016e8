use Rattle.vm_simulation_laws.proofs.Paying.{nothing_paid}
use Rattle.vm_simulation_laws.proofs.payments.nothing_is_paid.Goals as goal

pub returns : goal.returns
returns c = nothing_paid
