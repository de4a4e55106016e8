use Rattle.sys_trace.proofs.Pages.{IsRead}
use Rattle.vm_guest.specs.Kept.{guest_in}
use Rattle.sys_trace.proofs.reading.readable.Given as goal

abbrev pub invariant-loop-left : goal.invariant-loop-left
invariant-loop-left g l = IsRead (guest_in (g.H.Hardware.machine l.machine).memory l.guest) l.left l.bytes

abbrev pub decreases-loop-left : goal.decreases-loop-left
decreases-loop-left g l = l.left
