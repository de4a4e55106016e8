use Rattle.vvmm_laws.proofs.Reading.{depends}
use Rattle.vvmm_laws.proofs.machine.instructions_depend_on_what_they_read.Goals as goal

pub returns : goal.returns
returns c = depends
