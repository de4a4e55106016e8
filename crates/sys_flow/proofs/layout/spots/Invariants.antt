use Rattle.std.proofs.Common.{◌≡◌, map, take}
use Rattle.sys_flow.specs.Layout.{spot}
use Rattle.sys_flow.proofs.layout.spots.Given as goal

abbrev pub invariant-loop-s : goal.invariant-loop-s
invariant-loop-s l = l.spots.items ≡ map (spot l.letters l.seats) (take l.s-index l.seats)
