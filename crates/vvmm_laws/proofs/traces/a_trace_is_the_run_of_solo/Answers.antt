use Rattle.vvmm_laws.proofs.Traced.{trace_is_solo}
use Rattle.vvmm_laws.proofs.traces.a_trace_is_the_run_of_solo.Goals as goal

pub returns : goal.returns
returns c = trace_is_solo
