use Rattle.std.proofs.Common.{arith, ◌∙◌}
use Rattle.std.proofs.lemmas.List.{take_all}
use Rattle.vax_table.proofs.Standings.{stand_length, stand_at}
use Rattle.vax_operand.proofs.prepared.prepare_into.Goals as goal

pub bounds-specs-i : goal.bounds-specs-i
bounds-specs-i c = let h = stand_length c.args.forms.now c.args.specs.now c.requires.stand in omega arith

pub new-requires : goal.new-requires
new-requires c = stand_at c.args.forms.now c.args.specs.now c.loop-i.i _ _ c.requires.stand c.loop-i-test.true

pub returns-clause-specs : goal.returns-clause-specs
returns-clause-specs c = let h = stand_length c.args.forms.now c.args.specs.now c.requires.stand in c.loop-i.invariant.specs ∙ take_all c.loop-i.i c.args.specs.now (omega arith)
