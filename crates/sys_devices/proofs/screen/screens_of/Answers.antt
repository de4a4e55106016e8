use Rattle.std.proofs.Common.{arith, refl}
use Rattle.sys_devices.proofs.Listed.{next_screen}
use Rattle.sys_devices.proofs.screen.screens_of.Goals as goal

pub loop-terminal-preserved : goal.loop-terminal-preserved
loop-terminal-preserved g c =
    next_screen _ c.args.terminals.now c.loop-terminal.terminal-index _ c.terminal-item.result _ _ _ (omega arith) c.terminal-item.is c.loop-terminal.invariant c.in_ok-push.ensures.items c.copied.ensures refl refl c.shown_len_of.ensures
