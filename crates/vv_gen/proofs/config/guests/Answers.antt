use Rattle.vv_gen.proofs.Ranges.{pushed}
use Rattle.vv_gen.specs.Config.{generated_guest}
use Rattle.vv_gen.proofs.config.guests.Goals as goal

pub loop-g-preserved : goal.loop-g-preserved
loop-g-preserved c = pushed generated_guest c.loop-g.g _ _ _ c.loop-g.invariant c.in_ok-push.ensures.items c.guest_of.ensures
