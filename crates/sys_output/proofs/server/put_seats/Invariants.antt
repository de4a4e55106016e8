use Rattle.std.proofs.Common.{drop, map}
use Rattle.sys_devices.proofs.Puts.{IsBut}
use Rattle.sys_snap.specs.Written.{place_byte}
use Rattle.sys_output.proofs.server.put_seats.Given as goal

-- all is shown but for the terminals that are left
abbrev pub invariant-loop-seat : goal.invariant-loop-seat
invariant-loop-seat g l = IsBut (g.O.Sink.printed l.fn.out) (g.O.Sink.printed l.out) (map place_byte (drop l.seat-index l.at)) (map place_byte l.at)
