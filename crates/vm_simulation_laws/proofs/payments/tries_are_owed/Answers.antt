use Rattle.vm_simulation_laws.proofs.Paying.{tries_owed}
use Rattle.vm_simulation_laws.proofs.payments.tries_are_owed.Goals as goal

pub returns : goal.returns
returns c = tries_owed
