use Rattle.std.proofs.Common.{◌≡◌, ◌∙◌, ◌+◌, ◌++◌, List, ℕ, sym, ap, subst, arith}
use Rattle.sys_devices.specs.ShownSince.{ShownSince}
use Rattle.sys_system.proofs.Playing.{plays_none}
use Rattle.sys_trace.proofs.Turns.{first_later, later, nothing_traced, single_more, step_can, trace_more}
use Rattle.sys_trace.specs.TraceLine.{trace_line}
use Rattle.sys_trace.specs.Trace.{trace_of}
use Rattle.vm_state.specs.Step.{step}
use Rattle.sys_trace.proofs.tracing.trace_turn.Goals as goal

pub loop-made-init : goal.loop-made-init
loop-made-init g c = record {
  plays = plays_none _ _ _ c.requires.holds c.requires.stands c.requires.can.begun;
  shown = λ h here. nothing_traced h _;
  holds = c.requires.holds;
}

pub trace_step-line-requires-clause-can : goal.trace_step-line-requires-clause-can
trace_step-line-requires-clause-can g c = step_can c.args.steps c.loop-made.made _ _ _ _ _ _ c.loop-made.invariant.plays c.requires.can c.requires.holds c.loop-made.invariant.holds (omega arith)

pub trace_step-line-requires-clause-stands : goal.trace_step-line-requires-clause-stands
trace_step-line-requires-clause-stands g c = c.loop-made.invariant.plays.stands

pub loop-made-preserved : goal.loop-made-preserved
loop-made-preserved g c =
    let made = c.loop-made.made in
    let before = c.loop-made.invariant in
    let can = step_can c.args.steps made _ _ _ _ _ _ before.plays c.requires.can c.requires.holds before.holds (omega arith) in
    record {
      plays = single_more made _ _ _ _ _ _ _ _ _ before.plays can c.trace_step-line.ensures.takes c.trace_step-line.ensures.pays;
      shown = λ h here.
          let system = c.args.system.now in
          let now = later made h in
          let at = first_later system.config.terminals system.connected made _ _ h here before.plays.guests in
          let line : c.bytes.result.now ≡ trace_line (made + 1) now (step now) = c.bytes.ensures.value ∙ c.trace_step-line.ensures.line now at in
          let text : trace_of made h ++ c.bytes.result.now ≡ trace_of (made + 1) h = ap (λ (bs : List ℕ). trace_of made h ++ bs) line ∙ sym (trace_more made h) in
          subst (λ (bs : List ℕ). ShownSince c.put_next-is_cut.result (g.O.Sink.printed c.args.out.now) (g.O.Sink.printed c.put_next-is_cut.new.out) bs) text (c.put_next-is_cut.ensures (g.O.Sink.printed c.args.out.now) (trace_of made h) (before.shown h here));
      holds = c.trace_step-line.ensures.holds;
    }
