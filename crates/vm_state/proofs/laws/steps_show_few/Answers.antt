use Rattle.vm_state.proofs.Steps.{shows_few}
use Rattle.vm_state.proofs.laws.steps_show_few.Goals as goal

pub returns : goal.returns
returns c = shows_few
