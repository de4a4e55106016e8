use Rattle.std.proofs.Common.{ap}
use Rattle.vax_table.specs.Interaction.{outcome}
use Rattle.vax_normal.specs.Touched.{all_had}
use Rattle.vax_normal.proofs.Storing.{computed_stored}
use Rattle.vax_normal.proofs.touches.computed_in_memory.Goals as goal

pub returns-clause-is : goal.returns-clause-is
returns-clause-is c = (
  c.in_ok-touches.ensures,
  λ s r u h. h,
  λ s v u at psw r q room moved claims claimed gone.
      let numbers = c.in_ok-first.ensures c.in_ok-touches.touches v u at r q (room, moved, gone) in
      ap (outcome s) (computed_stored _ c.args.inputs c.args.target v u r (all_had v u at c.args.operands.now q) psw numbers.0 numbers.1 (c.in_ok-register.ensures v u at r q claimed) gone),
)
