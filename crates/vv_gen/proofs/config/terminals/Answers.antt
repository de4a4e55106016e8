use Rattle.vv_gen.proofs.Ranges.{pushed}
use Rattle.vv_gen.specs.Config.{generated_terminal}
use Rattle.vv_gen.proofs.config.terminals.Goals as goal

pub loop-g-preserved : goal.loop-g-preserved
loop-g-preserved c = pushed generated_terminal c.loop-g.g _ _ _ c.loop-g.invariant c.in_ok-push.ensures.items c.terminal_of.ensures
