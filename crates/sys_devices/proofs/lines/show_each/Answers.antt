use Rattle.std.proofs.Common.{arith}
use Rattle.sys_devices.proofs.Showings.{none_shown, next_shown}
use Rattle.sys_devices.proofs.lines.show_each.Goals as goal

pub loop-byte-init : goal.loop-byte-init
loop-byte-init g c = none_shown _ _ _

pub loop-byte-preserved : goal.loop-byte-preserved
loop-byte-preserved g c = next_shown _ c.loop-byte.byte-index c.args.bytes.now _ _ _ _ _ _ (omega arith) c.loop-byte.invariant c.show_whole.ensures
