use Rattle.vm_state.proofs.Steps.{stays_stopped}
use Rattle.vm_state.proofs.laws.stopped_guests_stay.Goals as goal

pub returns : goal.returns
returns c = stays_stopped
