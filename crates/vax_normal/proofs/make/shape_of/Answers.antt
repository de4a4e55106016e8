use Rattle.std.proofs.Common.{sym, subst}
use Rattle.vax_table.specs.declared.meaning.Condition.TheVariants.{Always}
use Rattle.vax_table.specs.declared.meaning.Operation.{Operation}
use Rattle.vax_normal.specs.AtHand.{IsDoneBy}
use Rattle.vax_normal.specs.declared.shape.Shape.TheVariants.{Branches}
use Rattle.vax_normal.proofs.Doing.{nothing_done}
use Rattle.vax_normal.proofs.make.shape_of.Goals as goal

pub returns-in-Nothing : goal.returns-in-Nothing
returns-in-Nothing c =
    let k = c.args.length in
    subst (λ (what : Operation). IsDoneBy (Branches Always k) k what c.args.operands.now) (sym c.in-Nothing.is) (nothing_done k c.args.operands.now)
