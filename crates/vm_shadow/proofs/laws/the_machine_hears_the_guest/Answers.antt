use Rattle.vm_shadow.proofs.Hearing.{hears_the_guest}
use Rattle.vm_shadow.proofs.laws.the_machine_hears_the_guest.Goals as goal

pub returns : goal.returns
returns c = hears_the_guest
