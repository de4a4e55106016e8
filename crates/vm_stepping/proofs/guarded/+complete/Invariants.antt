use Rattle.std.specs.Prelude.{◌+◌, ◌*◌}
use Rattle.vm_stepping.specs.Guarded.{clear_bits}
use Rattle.vm_stepping.proofs.guarded.+complete.Given as goal

abbrev pub decreases-complete : goal.decreases-complete
decreases-complete g l = 2 * clear_bits (g.H.Hardware.machine l.machine.now).memory l.s.now + 1

abbrev pub decreases-complete_written : goal.decreases-complete_written
decreases-complete_written g l = 2 * clear_bits (g.H.Hardware.machine l.machine.now).memory l.s.now
