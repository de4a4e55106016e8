use Rattle.vm_simulation_laws.proofs.Paying.{payments_follow}
use Rattle.vm_simulation_laws.proofs.payments.payments_follow.Goals as goal

pub returns : goal.returns
returns c = payments_follow
