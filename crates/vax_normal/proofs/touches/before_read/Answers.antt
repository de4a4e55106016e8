use Rattle.std.proofs.Common.{Option, refl, subst}
use Rattle.vax_normal.specs.Touched.{AreTouched}
use Rattle.vax_normal.specs.declared.shape.Reach.{Reach}
use Rattle.vax_normal.proofs.Touching.{touched_read}
use Rattle.vax_normal.proofs.touches.before_read.Goals as goal

pub returns-in-None : goal.returns-in-None
returns-in-None c = λ xs rest.
    touched_read c.in_ok-reach.reach c.args.rest.now.writes c.args.base c.args.x.now xs c.requires c.in_ok-reach.ensures (c.if-leaves.ensures refl)
    (subst (λ (z : Option Reach). AreTouched (record { reads = z; writes = c.args.rest.now.writes }) xs) c.in-None.is rest)
