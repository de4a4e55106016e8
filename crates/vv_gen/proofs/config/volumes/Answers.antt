use Rattle.vv_gen.proofs.Ranges.{pushed_after}
use Rattle.vv_gen.specs.Config.{generated_volume, shared_volume}
use Rattle.vv_gen.proofs.config.volumes.Goals as goal

pub loop-g-preserved : goal.loop-g-preserved
loop-g-preserved c = pushed_after shared_volume generated_volume c.loop-g.g _ _ _ c.loop-g.invariant c.in_ok-push-2.ensures.items c.volume_of.ensures
