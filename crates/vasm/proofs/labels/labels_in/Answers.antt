use Rattle.std.proofs.Common.{sym, arith}
use Rattle.vasm.specs.Views.{source_line_view}
use Rattle.vasm.proofs.ReadLines.{none_read, line_read}
use Rattle.vasm.proofs.labels.labels_in.Goals as goal

pub loop-rest-init : goal.loop-rest-init
loop-rest-init c = record { read = none_read c.args.text.now c.new-labels.result c.new-labels.ensures.empty; count = omega arith; low = omega arith }

pub loop-rest-preserved : goal.loop-rest-preserved
loop-rest-preserved c = record {
  read = rw c.line_size-at.ensures.value (line_read c.args.text.now c.loop-rest.number c.loop-rest.at c.loop-rest.labels c.add_label.new.labels c.loop-rest.rest.now c.first_line.result.0.now c.first_line.result.1.now (source_line_view c.in-Some.line) c.in_ok-add_label.field-0 c.loop-rest.invariant.read c.first_line.ensures.cut (sym c.in-Some.ensures) c.in_ok-add_label.ensures);
  count = omega (arith, c.first_line.ensures.shorter);
  low = omega (arith, c.line_size-at.ensures.most);
}
