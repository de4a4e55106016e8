use Rattle.std.proofs.Common.{sym, ◌∙◌, arith}
use Rattle.std.proofs.lemmas.Grind.{common_steps}
use Rattle.vv_base.proofs.FirstLines.{line_with_feed, line_without_feed}
use Rattle.vv_base.proofs.cutting.first_line.Goals as goal

pub returns-in-Some-clause-cut : goal.returns-in-Some-clause-cut
returns-in-Some-clause-cut c = grind (arith, common_steps, line_with_feed c.args.text.now c.in-Some.end (sym c.find.ensures.value ∙ c.in-Some.is))

pub returns-in-None-clause-cut : goal.returns-in-None-clause-cut
returns-in-None-clause-cut c = line_without_feed c.args.text.now (sym c.find.ensures.value ∙ c.in-None.is) c.requires
