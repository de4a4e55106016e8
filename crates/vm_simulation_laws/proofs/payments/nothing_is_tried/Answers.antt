use Rattle.vm_simulation_laws.proofs.Paying.{nothing_tried}
use Rattle.vm_simulation_laws.proofs.payments.nothing_is_tried.Goals as goal

pub returns : goal.returns
returns c = nothing_tried
