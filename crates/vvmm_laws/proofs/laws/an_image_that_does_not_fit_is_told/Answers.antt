use Rattle.vvmm_laws.proofs.Solos.{tells_solo_image}
use Rattle.vvmm_laws.proofs.Traced.{tells_trace_image}
use Rattle.vvmm_laws.proofs.laws.an_image_that_does_not_fit_is_told.Goals as goal

pub returns-clause-solo : goal.returns-clause-solo
returns-clause-solo c = tells_solo_image

pub returns-clause-trace : goal.returns-clause-trace
returns-clause-trace c = tells_trace_image
