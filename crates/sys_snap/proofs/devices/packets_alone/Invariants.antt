use Rattle.std.proofs.Common.{◌≡◌, ◌+◌, ◌-◌, length}
use Rattle.sys_snap.specs.Fronts.{after_front}
use Rattle.sys_snap.specs.Reader.{packets_in}
use Rattle.sys_snap.proofs.devices.packets_alone.Given as goal

abbrev pub invariant-loop-left : goal.invariant-loop-left
invariant-loop-left l = record {
  many : length l.packets.items + l._left ≡ l.count;
  left : after_front l.packets.items (packets_in l.size l._left (8 - length l.packets.items) l.r) ≡ packets_in l.size l.count 8 l.fn.r;
}
