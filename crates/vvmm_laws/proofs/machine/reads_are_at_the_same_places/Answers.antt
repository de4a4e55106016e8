use Rattle.vvmm_laws.proofs.Again.{reads_again}
use Rattle.vvmm_laws.proofs.machine.reads_are_at_the_same_places.Goals as goal

pub returns : goal.returns
returns c = reads_again
