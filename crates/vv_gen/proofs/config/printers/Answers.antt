use Rattle.vv_gen.proofs.Ranges.{pushed}
use Rattle.vv_gen.specs.Config.{generated_printer}
use Rattle.vv_gen.proofs.config.printers.Goals as goal

pub loop-g-preserved : goal.loop-g-preserved
loop-g-preserved c = pushed generated_printer c.loop-g.g _ _ _ c.loop-g.invariant c.in_ok-push.ensures.items c.printer_of.ensures
