use Rattle.vvmm_laws.proofs.Solos.{completes_solo}
use Rattle.vvmm_laws.proofs.laws.solo_is_complete.Goals as goal

pub returns : goal.returns
returns c = completes_solo
