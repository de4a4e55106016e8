use Rattle.vvmm_laws.proofs.Solos.{tells_solo_missing}
use Rattle.vvmm_laws.proofs.Traced.{tells_trace_missing}
use Rattle.vvmm_laws.proofs.laws.a_missing_image_is_told.Goals as goal

pub returns-clause-solo : goal.returns-clause-solo
returns-clause-solo c = tells_solo_missing

pub returns-clause-trace : goal.returns-clause-trace
returns-clause-trace c = tells_trace_missing
