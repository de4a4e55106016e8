use Rattle.vm_guest.proofs.Storing.{Storing}
use Rattle.vm_guest.proofs.bytes.store_all.Given as goal

abbrev pub invariant-loop-byte : goal.invariant-loop-byte
invariant-loop-byte g l = Storing l.pa l.bytes l.place l.byte-index (g.H.Hardware.machine l.fn.machine) l.fn.s l.g (g.H.Hardware.machine l.machine) l.s
