use Rattle.std.proofs.Common.{Option, None, subst, refl}
use Rattle.vax_normal.specs.Touched.{AreTouched, all_had}
use Rattle.vax_normal.specs.declared.shape.Reach.{Reach}
use Rattle.vax_normal.proofs.Pushing.{pushed_stored}
use Rattle.vax_normal.proofs.push.pushed_in_memory.Goals as goal

pub returns-clause-is : goal.returns-clause-is
returns-clause-is c =
    let t = c.in_ok-touches.touches in
    let below = c.below_sp.ensures in (
      subst (λ (z : Option Reach). AreTouched (record { reads = t.reads; writes = z }) c.args.operands.now) c.in-None.is c.in_ok-touches.ensures,
      λ s r u h. tt,
      λ s v u at psw r q room moved claims claimed gone.
          pushed_stored s _ c.below_sp.result v u r (all_had v u at c.args.operands.now q) psw refl refl refl refl below.address below.step below.width
          (c.if-not-leaves_sp.ensures refl r) (c.in_ok-first.ensures (record { reads = t.reads; writes = None }) v u at r q (room, moved, gone)) gone claims,
    )
