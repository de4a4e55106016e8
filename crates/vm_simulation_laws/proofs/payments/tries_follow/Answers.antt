use Rattle.vm_simulation_laws.proofs.Paying.{tries_follow}
use Rattle.vm_simulation_laws.proofs.payments.tries_follow.Goals as goal

pub returns : goal.returns
returns c = tries_follow
