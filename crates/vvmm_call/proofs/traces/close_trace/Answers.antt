use Rattle.std.proofs.Common.{◌∙◌}
use Rattle.vvmm_call.proofs.Tracing.{cut_before, put_before}
use Rattle.vvmm_call.specs.Summary.{summary}
use Rattle.vm_stepping.specs.Made.{tally_of}
use Rattle.vvmm_call.proofs.traces.close_trace.Goals as goal

pub returns-then-traced : goal.returns-then-traced
returns-then-traced g c start trace shown =
    cut_before c.args.traced.now.ran.failed c.args.traced.now.is_cut c.done_status.result start (g.O.Sink.printed c.args.out.now) trace (summary 1 (tally_of c.args.traced.now.ran.counts)) c.if-traced.true c.done_status.ensures shown

pub returns : goal.returns
returns g c start trace shown =
    put_before c.args.traced.now.ran.failed c.args.traced.now.is_cut c.close.result start (g.O.Sink.printed c.args.out.now) (g.O.Sink.printed c.close.new.out) trace (summary 1 (tally_of c.args.traced.now.ran.counts)) c.bytes.result.now c.if-traced.false (c.bytes.ensures.value ∙ c.summary.ensures) shown c.close.ensures
