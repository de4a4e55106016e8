use Rattle.vvmm_laws.proofs.Traced.{completes_trace}
use Rattle.vvmm_laws.proofs.traces.trace_is_complete.Goals as goal

pub returns : goal.returns
returns c = completes_trace
