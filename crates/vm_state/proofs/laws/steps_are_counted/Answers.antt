use Rattle.vm_state.proofs.Steps.{steps_count}
use Rattle.vm_state.proofs.laws.steps_are_counted.Goals as goal

pub returns : goal.returns
returns c = steps_count
