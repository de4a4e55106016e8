use Rattle.vm_shadow.proofs.Hearing.{marks_the_guest}
use Rattle.vm_shadow.proofs.laws.modify_bits_are_the_guests.Goals as goal

pub returns : goal.returns
returns c = marks_the_guest
