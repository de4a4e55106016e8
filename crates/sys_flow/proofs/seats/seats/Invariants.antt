use Rattle.std.proofs.Common.{◌≡◌, map}
use Rattle.std.specs.List.{range_with_len}
use Rattle.sys_flow.specs.Seats.{seat_of}
use Rattle.sys_flow.proofs.seats.seats.Given as goal

abbrev pub invariant-loop-a : goal.invariant-loop-a
invariant-loop-a l = l.seats.items ≡ map (seat_of l.c) (range_with_len 0 l.a)
