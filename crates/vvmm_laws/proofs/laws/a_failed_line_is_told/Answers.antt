use Rattle.vvmm_laws.proofs.Solos.{tells_solo_device}
use Rattle.vvmm_laws.proofs.Traced.{tells_trace_device}
use Rattle.vvmm_laws.proofs.laws.a_failed_line_is_told.Goals as goal

pub returns-clause-solo : goal.returns-clause-solo
returns-clause-solo c = tells_solo_device

pub returns-clause-trace : goal.returns-clause-trace
returns-clause-trace c = tells_trace_device
