use Rattle.std.proofs.Common.{◌≡◌, ◌++◌, drop, map, replicate, take}
use Rattle.sys_system.specs.Seats.{no_units}
use Rattle.sys_system.proofs.assembling.mounts_of.Given as goal

abbrev pub invariant-loop-place : goal.invariant-loop-place
invariant-loop-place l = l.mounts ≡ map (λ row. row.mounts) (take l.place l.rows) ++ drop l.place (replicate 16 no_units)
