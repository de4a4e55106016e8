use Rattle.std.proofs.Common.{◌≡◌, map}
use Rattle.std.specs.List.{range_with_len}
use Rattle.sys_flow.specs.Seats.{object_class_at}
use Rattle.sys_flow.proofs.seats.classes.Given as goal

abbrev pub invariant-loop-a : goal.invariant-loop-a
invariant-loop-a l = l.classes.items ≡ map (object_class_at l.c) (range_with_len 0 l.a)
