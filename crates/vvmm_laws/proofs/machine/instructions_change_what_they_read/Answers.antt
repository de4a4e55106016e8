use Rattle.vvmm_laws.proofs.Storing.{keeps_elsewhere}
use Rattle.vvmm_laws.proofs.machine.instructions_change_what_they_read.Goals as goal

pub returns : goal.returns
returns c = keeps_elsewhere
