use Rattle.vm_simulation_laws.proofs.Bursting.{runs_go}
use Rattle.vm_simulation_laws.proofs.laws.runs_go_as_the_guest.Goals as goal

pub returns : goal.returns
returns c = runs_go
