use Rattle.vm_simulation_laws.proofs.Meeting.{exits_meet}
use Rattle.vm_simulation_laws.proofs.laws.exits_meet_the_guest.Goals as goal

pub returns : goal.returns
returns c = exits_meet
