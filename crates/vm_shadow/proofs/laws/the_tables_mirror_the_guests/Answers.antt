use Rattle.vm_shadow.proofs.Hearing.{mirrors_the_guest}
use Rattle.vm_shadow.proofs.laws.the_tables_mirror_the_guests.Goals as goal

pub returns : goal.returns
returns c = mirrors_the_guest
