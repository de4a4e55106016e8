use Rattle.vm_shadow.specs.Calls.{Maps}
use Rattle.vm_shadow.proofs.made.map_tables.Given as goal

abbrev pub invariant-loop-j : goal.invariant-loop-j
invariant-loop-j g l = Maps l.at l.j (g.H.Hardware.machine l.fn.machine) (g.H.Hardware.machine l.machine)
