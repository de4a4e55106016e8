use Rattle.vm_simulation_laws.proofs.Paying.{steps_paid}
use Rattle.vm_simulation_laws.proofs.payments.steps_are_paid.Goals as goal

pub returns : goal.returns
returns c = steps_paid
