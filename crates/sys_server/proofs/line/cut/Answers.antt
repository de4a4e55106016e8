use Rattle.std.proofs.Common.{sym, ◌∙◌, arith}
use Rattle.std.proofs.lemmas.Grind.{common_steps}
use Rattle.sys_server.proofs.Cutting.{word_with_blank, word_without_blank}
use Rattle.sys_server.proofs.line.cut.Goals as goal

pub returns-in-Some : goal.returns-in-Some
returns-in-Some c = grind (arith, common_steps, word_with_blank c.args.text.now c.in-Some.end (sym c.find.ensures.value ∙ c.in-Some.is))

pub returns-in-None : goal.returns-in-None
returns-in-None c = word_without_blank c.args.text.now (sym c.find.ensures.value ∙ c.in-None.is)
