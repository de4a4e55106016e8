use Rattle.std.proofs.Common.{◌≡◌, ◌-◌, ◌++◌, map, replicate, take, None}
use Rattle.sys_snap.specs.Reader.{seated_guest}
use Rattle.sys_snap.proofs.seats.seats_of.Given as goal

abbrev pub invariant-loop-i : goal.invariant-loop-i
invariant-loop-i l = l.seats ≡ map seated_guest (take l.i l.bytes) ++ replicate (32 - l.i) None
