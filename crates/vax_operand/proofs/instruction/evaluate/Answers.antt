use Rattle.std.proofs.Common.{arith, refl, ◌∙◌}
use Rattle.vax_table.specs.Spelling.{view}
use Rattle.vax_table.specs.Troubles.{with_trouble}
use Rattle.vax_table.proofs.Standings.{well_formed}
use Rattle.vax_operand.proofs.Steps.{next_pc_told, of_forms}
use Rattle.vax_operand.proofs.instruction.evaluate.Goals as goal

pub evaluate_by-requires-clause-stand : goal.evaluate_by-requires-clause-stand
evaluate_by-requires-clause-stand g c = rw (c.as_slice.ensures.value ∙ c.forms.ensures) (well_formed (view c.args.d.now) c.requires)

pub returns-clause-next_pc : goal.returns-clause-next_pc
returns-clause-next_pc g c =
    let d = view c.args.d.now in
    let space = g.S.Space.space c.args.s.now in
    next_pc_told space d c.args.r.now c.evaluate_by.result c.requires (omega arith)
    (of_forms space d c.args.r.now _ _ _ (with_trouble c.evaluate_by.result) (c.as_slice.ensures.value ∙ c.forms.ensures) refl refl c.evaluate_by.ensures.outcome)
