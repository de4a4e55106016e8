use Rattle.std.proofs.Common.{sym, arith}
use Rattle.std.proofs.lemmas.Result.{err_from_is_err_and}
use Rattle.vasm.specs.Views.{source_line_view}
use Rattle.vasm.specs.Labels.{label_address}
use Rattle.vasm.proofs.Ranges.{line_fit}
use Rattle.vasm.proofs.WrittenLines.{none_written, line_written, line_refused, no_bad_line, all_written}
use Rattle.vasm.proofs.text.bytes_of.Goals as goal

pub loop-rest-init : goal.loop-rest-init
loop-rest-init c = record { made = λ program is. rw c.new-bytes.ensures.items (none_written (label_address c.args.labels.now) c.args.text.now program is); count = omega arith; low = omega arith }

pub returns-in_default : goal.returns-in_default
returns-in_default c = λ program is. absurd (no_bad_line (label_address c.args.labels.now) program c.loop-rest.number c.loop-rest.at c.loop-rest.bytes.items c.loop-rest.rest.now c.first_line.result.0.now c.first_line.result.1.now (c.loop-rest.invariant.made program is) c.first_line.ensures.cut (sym c.in_default.ensures))

pub put_line-requires-clause-fit : goal.put_line-requires-clause-fit
put_line-requires-clause-fit c = line_fit c.first_line.result.0.now (source_line_view c.in-Some.line) (sym c.in-Some.ensures)

pub returns-in_err-put_line : goal.returns-in_err-put_line
returns-in_err-put_line c = λ program is.
    let p = err_from_is_err_and c.from_residual.result c.from_residual.ensures.1 in
    rw (p.1, p.2) (line_refused (Unit {0}) (label_address c.args.labels.now) program c.loop-rest.number c.loop-rest.at c.loop-rest.bytes.items c.put_line.new.bytes.items c.loop-rest.rest.now c.first_line.result.0.now c.first_line.result.1.now (source_line_view c.in-Some.line) c.in_err-put_line.field-0.0 (c.loop-rest.invariant.made program is) c.first_line.ensures.cut (sym c.in-Some.ensures) c.in_err-put_line.ensures)

pub loop-rest-preserved : goal.loop-rest-preserved
loop-rest-preserved c = record {
  made = λ program is. rw c.line_size-at.ensures.value
      (line_written (label_address c.args.labels.now) program c.loop-rest.number c.loop-rest.at c.loop-rest.bytes.items c.put_line.new.bytes.items c.loop-rest.rest.now c.first_line.result.0.now c.first_line.result.1.now (source_line_view c.in-Some.line) c.in_ok-put_line.field-0 (c.loop-rest.invariant.made program is) c.first_line.ensures.cut (sym c.in-Some.ensures) c.in_ok-put_line.ensures);
  count = omega (arith, c.first_line.ensures.shorter);
  low = omega (arith, c.line_size-at.ensures.most);
}

pub returns : goal.returns
returns c = λ program is. all_written (label_address c.args.labels.now) program c.loop-rest.number c.loop-rest.at c.loop-rest.bytes.items c.loop-rest.rest.now (c.loop-rest.invariant.made program is) c.loop-rest-test.ensures
