use Rattle.vm_simulation_laws.proofs.Paying.{steps_settle}
use Rattle.vm_simulation_laws.proofs.payments.steps_settle.Goals as goal

pub returns : goal.returns
returns c = steps_settle
