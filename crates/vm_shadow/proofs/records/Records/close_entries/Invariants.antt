use Rattle.std.proofs.Common.{◌-◌, ◌≤◌, ◌≡◌}
use Rattle.vm_shadow.specs.Marks.{Shuts}
use Rattle.vm_shadow.proofs.records.Records.close_entries.Given as goal

abbrev pub invariant-loop-n : goal.invariant-loop-n
invariant-loop-n g l = record { within : l.n ≤ 73728; same : l.self ≡ l.fn.self; shuts : Shuts l.at l.base l.n l.frame l.ways (g.H.Hardware.machine l.fn.machine) l.fn.self (g.H.Hardware.machine l.machine) }

abbrev pub decreases-loop-n : goal.decreases-loop-n
decreases-loop-n g l = 73728 - l.n
