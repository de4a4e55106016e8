use Rattle.vvmm_laws.proofs.Resumes.{completes_extend}
use Rattle.vvmm_laws.proofs.snaps.extend_is_complete.Goals as goal

pub returns : goal.returns
returns c = completes_extend
