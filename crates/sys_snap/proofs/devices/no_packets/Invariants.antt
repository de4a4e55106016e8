use Rattle.std.proofs.Common.{◌≡◌}
use Rattle.sys_snap.specs.Reader.{packets_in}
use Rattle.sys_snap.proofs.devices.no_packets.Given as goal

abbrev pub invariant-loop-left : goal.invariant-loop-left
invariant-loop-left l = packets_in l.size 0 l._left l.r ≡ packets_in l.size 0 l.places l.fn.r
