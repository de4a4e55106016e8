use Rattle.vm_shadow.proofs.Hearing.{probes_the_guest}
use Rattle.vm_shadow.proofs.laws.probes_agree.Goals as goal

pub returns : goal.returns
returns c = probes_the_guest
