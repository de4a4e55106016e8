use Rattle.std.proofs.Common.{◌∙◌, sym, arith}
use Rattle.vasm.proofs.Blanks.{blank_goes, other_stays}
use Rattle.vasm.proofs.cutting.without_back.Goals as goal

pub loop-rest-preserved : goal.loop-rest-preserved
loop-rest-preserved c = blank_goes _ c.loop-rest.rest.now (omega arith) (sym c.if-is_blank.ensures) ∙ c.loop-rest.invariant

pub returns-else-is_blank : goal.returns-else-is_blank
returns-else-is_blank c = sym (other_stays _ c.loop-rest.rest.now (omega arith) (sym c.if-is_blank.ensures)) ∙ c.loop-rest.invariant
