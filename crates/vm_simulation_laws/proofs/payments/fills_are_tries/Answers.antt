use Rattle.vm_simulation_laws.proofs.Paying.{fills_tries}
use Rattle.vm_simulation_laws.proofs.payments.fills_are_tries.Goals as goal

pub returns : goal.returns
returns c = fills_tries
