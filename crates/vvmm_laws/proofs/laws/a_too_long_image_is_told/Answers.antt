use Rattle.vvmm_laws.proofs.Solos.{tells_solo_too_long}
use Rattle.vvmm_laws.proofs.Traced.{tells_trace_too_long}
use Rattle.vvmm_laws.proofs.laws.a_too_long_image_is_told.Goals as goal

pub returns-clause-solo : goal.returns-clause-solo
returns-clause-solo c = tells_solo_too_long

pub returns-clause-trace : goal.returns-clause-trace
returns-clause-trace c = tells_trace_too_long
