use Rattle.vm_simulation_laws.proofs.Running.{runs_paid}
use Rattle.vm_simulation_laws.proofs.payments.runs_are_paid.Goals as goal

pub returns : goal.returns
returns c = runs_paid
