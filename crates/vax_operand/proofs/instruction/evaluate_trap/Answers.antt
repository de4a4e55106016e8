use Rattle.std.proofs.Common.{◌∙◌, refl}
use Rattle.vax_table.specs.Spelling.{view}
use Rattle.vax_table.proofs.Standings.{well_formed}
use Rattle.vax_operand.proofs.Steps.{mfpr_stands}
use Rattle.vax_operand.proofs.instruction.evaluate_trap.Goals as goal

pub evaluate_by-requires-clause-stand : goal.evaluate_by-requires-clause-stand
evaluate_by-requires-clause-stand g c = mfpr_stands c.args.d.now.opcode c.args.d.now.specs.items _ c.if-d.true refl (well_formed (view c.args.d.now) c.requires)

pub evaluate_by-requires-else-d-clause-stand : goal.evaluate_by-requires-else-d-clause-stand
evaluate_by-requires-else-d-clause-stand g c = rw (c.as_slice.ensures.value ∙ c.forms.ensures) (well_formed (view c.args.d.now) c.requires)
