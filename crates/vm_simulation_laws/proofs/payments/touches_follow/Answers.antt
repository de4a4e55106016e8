use Rattle.vm_simulation_laws.proofs.Paying.{touches_follow}
use Rattle.vm_simulation_laws.proofs.payments.touches_follow.Goals as goal

pub returns : goal.returns
returns c = touches_follow
