use Rattle.sys_output.proofs.AllDumps.{first_dumps}
use Rattle.sys_devices.specs.Shows.{Shows}
use Rattle.sys_output.proofs.all.dump_all.Given as goal

abbrev pub invariant-loop-place : goal.invariant-loop-place
invariant-loop-place g l = Shows l.fn.marks l.marks (g.L.Lines.lines l.fn.lines) (g.L.Lines.lines l.lines) (first_dumps (g.H.Hardware.machine l.machine).memory l.rows l.guests l.place)
