use Rattle.vm_emulate.proofs.Saving.{IsStoring}
use Rattle.vm_emulate.proofs.saves.store_longs.Given as goal

abbrev pub invariant-loop-long : goal.invariant-loop-long
invariant-loop-long g l = IsStoring l.at l.longs l.long-index l.place (g.H.Hardware.machine l.fn.machine) l.fn.s (g.H.Hardware.machine l.machine) l.s
