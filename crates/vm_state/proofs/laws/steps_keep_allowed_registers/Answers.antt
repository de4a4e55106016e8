use Rattle.vm_state.proofs.Steps.{steps_keep}
use Rattle.vm_state.proofs.laws.steps_keep_allowed_registers.Goals as goal

pub returns : goal.returns
returns c = steps_keep
