use Rattle.std.proofs.Common.{◌∙◌, sym, arith}
use Rattle.sys_output.proofs.Lines.{row_left_out}
use Rattle.sys_output.proofs.dumps.put_row.Goals as goal

pub returns-else-is_shown : goal.returns-else-is_shown
returns-else-is_shown g c = row_left_out c.args.line c.args.at _ c.args.row.now (omega (arith, g.met.L.Lines.count c.args.lines.now, c.requires)) (sym c.is_shown.ensures ∙ c.if-is_shown.false)
