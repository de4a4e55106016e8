use Rattle.vm_guest.proofs.Sharing.{stands_elsewhere}
use Rattle.vm_guest.proofs.laws.guests_stand_by_themselves.Goals as goal

pub returns : goal.returns
returns c = stands_elsewhere
