use Rattle.std.proofs.lemmas.Result.{err_from_is_err_and}
use Rattle.vasm.proofs.WrittenLines.{assembled, refused}
use Rattle.vasm.proofs.text.assemble.Goals as goal

pub returns-in_err-labels : goal.returns-in_err-labels
returns-in_err-labels c = let p = err_from_is_err_and c.from_residual.result c.from_residual.ensures.1 in rw (p.1, p.2) (refused c.in_err-labels.field-0.0 c.args.text.now c.in_err-labels.ensures)

pub returns : goal.returns
returns c = assembled c.bytes_of.result c.in_ok-labels.labels c.args.text.now c.in_ok-labels.ensures c.bytes_of.ensures
