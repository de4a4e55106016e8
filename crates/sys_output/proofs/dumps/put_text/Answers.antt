use Rattle.std.proofs.Common.{◌∙◌, arith}
use Rattle.sys_output.proofs.Lines.{shows_line}
use Rattle.sys_output.proofs.dumps.put_text.Goals as goal

pub returns : goal.returns
returns g c = shows_line c.args.line _ _ _ c.args.text c.put_on.result (omega (arith, g.met.L.Lines.count c.args.lines.now, c.requires.line)) (c.bytes.ensures.value ∙ c.append.ensures.written) c.put_on.ensures
