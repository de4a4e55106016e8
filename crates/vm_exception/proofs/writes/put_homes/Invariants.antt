use Rattle.std.proofs.Common.{length, ◌-◌, ◌≤◌}
use Rattle.vm_exception.proofs.Marking.{Putting}
use Rattle.vm_exception.proofs.writes.put_homes.Given as goal

abbrev pub invariant-loop-done : goal.invariant-loop-done
invariant-loop-done g l = (l.done ≤ length l.homes) × Putting l.homes l.done (g.H.Hardware.machine l.fn.machine) l.fn.s (g.H.Hardware.machine l.machine) l.s

abbrev pub decreases-loop-done : goal.decreases-loop-done
decreases-loop-done g l = length l.homes - l.done
