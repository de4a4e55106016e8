use Rattle.vm_shadow.specs.Calls.{Clears}
use Rattle.vm_shadow.proofs.made.clear_entries.Given as goal

abbrev pub invariant-loop-n : goal.invariant-loop-n
invariant-loop-n g l = Clears l.at l.n (g.H.Hardware.machine l.fn.machine) (g.H.Hardware.machine l.machine)
