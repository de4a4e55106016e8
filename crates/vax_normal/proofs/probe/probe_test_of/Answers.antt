use Rattle.std.proofs.Common.{◌≡◌, true, ap, sym, ◌∙◌}
use Rattle.vax_table.specs.Spelling.{view}
use Rattle.vax_normal.specs.AtHand.{are_at_hand}
use Rattle.vax_normal.specs.declared.rarer_shape.ProbeTest.{ProbeTest}
use Rattle.vax_normal.proofs.StatusMoves.{is_probe_test}
use Rattle.vax_normal.proofs.probe.probe_test_of.Goals as goal

pub returns : goal.returns
returns c =
    let p = c.args.prepared.now in
    let same = c.as_slice-operands.ensures.value in
    let hand : are_at_hand p.operands.items ≡ true = ap are_at_hand (sym same) ∙ sym c.if-not-are_at_hand.ensures in
    let mode = rw same at c.in_ok-number_at.ensures in
    let bytes = rw same at c.in_ok-number_at-2.ensures in
    let base = rw same at c.in_ok-number_at-3.ensures in
    let n : ProbeTest = record { intent = c.args.intent; mode = c.in_ok-number_at.field-0; bytes = c.in_ok-number_at-2.field-0; base = c.in_ok-number_at-3.field-0; length = c.from.result } in
    is_probe_test n (view p.decoded) p.operands.items p.operation p.does c.requires.probes p.forms p.specs hand c.requires.formed c.from.ensures mode bytes base
