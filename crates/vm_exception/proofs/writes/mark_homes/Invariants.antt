use Rattle.vm_exception.proofs.Marking.{IsMarked, Marking}
use Rattle.vm_exception.proofs.writes.mark_homes.Given as goal

abbrev pub invariant-loop-home : goal.invariant-loop-home
invariant-loop-home g l = Marking l.homes l.home-index (g.H.Hardware.machine l.fn.machine) l.fn.s (g.H.Hardware.machine l.machine) l.s × IsMarked l.last (g.H.Hardware.machine l.machine) l.s
