use Rattle.std.proofs.Common.{◌≡◌, ◌∙◌, [], ap, subst, refl, sym}
use Rattle.std.proofs.lemmas.Result.{err_from_is_err_and}
use Rattle.sys_devices.specs.ShownSince.{ShownSince}
use Rattle.sys_state.specs.Guests.{powered}
use Rattle.sys_runs.proofs.Whole.{as_long, made_at_once}
use Rattle.sys_system.specs.System.{System}
use Rattle.sys_trace.proofs.Turns.{first_powered, input_is, none_left, one_round, only_row, quantum_few, quantum_of, same_quantum, stays_for, takes_turn}
use Rattle.sys_trace.specs.Trace.{trace_of}
use Rattle.sys_trace.proofs.tracing.trace.Goals as goal

pub returns-in_err-system-clause-traces : goal.returns-in_err-system-clause-traces
returns-in_err-system-clause-traces g c row image one is =
    let p = err_from_is_err_and c.from_residual.result c.from_residual.ensures.1 in
    rw (p.1, p.2) (stays_for c.args.config _ image _ _ _ _ _ _ c.in_err-system.ensures.powers c.power_up.ensures.alone is, refl)

pub trace_turn-is_cut-requires-clause-few : goal.trace_turn-is_cut-requires-clause-few
trace_turn-is_cut-requires-clause-few g c =
    let config = c.args.config in
    let (own, first) = only_row config.guests c.requires.one in
    quantum_few config own _ c.requires.accepted first (quantum_of c.as_slice.result.now config.guests own _ c.as_slice.ensures first c.first_quantum-steps.ensures)

pub trace_turn-is_cut-requires-clause-can : goal.trace_turn-is_cut-requires-clause-can
trace_turn-is_cut-requires-clause-can g c =
    let config = c.args.config in
    let (own, first) = only_row config.guests c.requires.one in
    let quantum = quantum_of c.as_slice.result.now config.guests own _ c.as_slice.ensures first c.first_quantum-steps.ensures in
    takes_turn config own _ [] _ _ _ _ _ _ first quantum (ap (λ (s : System). s.config) c.in_ok-system.ensures.powers.powered.system) c.begin_round.ensures.begins c.begin_round.ensures.holds

pub end_round-requires-clause-none : goal.end_round-requires-clause-none
end_round-requires-clause-none g c =
    let config = c.args.config in
    let (own, first) = only_row config.guests c.requires.one in
    let quantum = quantum_of c.as_slice.result.now config.guests own _ c.as_slice.ensures first c.first_quantum-steps.ensures in
    none_left config own _ [] _ _ _ _ _ _ first quantum (ap (λ (s : System). s.config) c.in_ok-system.ensures.powers.powered.system) c.begin_round.ensures.begins _ _ _ c.requires.one c.trace_turn-is_cut.ensures.plays

pub returns-clause-traces : goal.returns-clause-traces
returns-clause-traces g c row image one is =
    let config = c.args.config in
    let p = c.in_ok-system.ensures.powers in
    let b = c.begin_round.ensures.begins in
    let (own, first) = only_row config.guests c.requires.one in
    let steps = c.first_quantum-steps.result in
    let quantum : steps ≡ own.quantum = quantum_of c.as_slice.result.now config.guests own steps c.as_slice.ensures first c.first_quantum-steps.ensures in
    let plays = c.trace_turn-is_cut.ensures.plays in
    let none = none_left config own steps [] _ _ _ _ _ _ first quantum (ap (λ (s : System). s.config) p.powered.system) b _ _ _ c.requires.one plays in
    let rests = ap (λ (s : System). s.turns.is_begun) p.powered.system in
    let rounds = one_round steps _ _ _ _ _ _ _ _ _ _ _ _ c.in_ok-system.ensures.holds p.powered.stands rests b plays none c.end_round.ensures.ends c.begin_round.ensures.present c.trace_turn-is_cut.ensures.holds c.end_round.ensures.present in
    let lines = g.met.L.Lines.count c.power_down.new.lines ∙ sym (g.met.L.Lines.count c.args.lines.now) in
    let drives = as_long _ c.power_down.new.drives c.args.drives.now (c.power_down.ensures.drives_len ∙ c.power_up.ensures.len) in
    let made = made_at_once config _ _ _ _ _ p [] 1 _ _ _ _ _ _ _ _ c.requires.accepted c.power_up.ensures.alone rounds c.power_down.ensures.ends c.in_ok-system.ensures.present (record { counts = c.counts.result; failed = c.failed.result }) c.end_round.ensures.holds c.counts.ensures c.failed.ensures lines drives in
    let out = g.O.Sink.printed c.args.out.now in
    let out1 = g.O.Sink.printed c.trace_turn-is_cut.new.out in
    let here = first_powered config _ p.volumes row image _ _ _ _ _ _ p.powered b one is in
    record {
      makes = input_is config _ p.volumes row image _ _ one is p.loaded.0.sizes made;
      shown = subst (λ n. ShownSince c.trace_turn-is_cut.result out out1 (trace_of n (powered row image))) (quantum ∙ same_quantum config row own one first) (c.trace_turn-is_cut.ensures.shown (powered row image) here);
    }
