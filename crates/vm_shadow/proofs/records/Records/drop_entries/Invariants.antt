use Rattle.std.proofs.Common.{◌-◌, ◌≤◌}
use Rattle.vm_shadow.specs.Calls.{DropsEntries}
use Rattle.vm_shadow.proofs.records.Records.drop_entries.Given as goal

abbrev pub invariant-loop-n : goal.invariant-loop-n
invariant-loop-n g l = record { within : l.n ≤ l.end; order : l.first ≤ l.n; drops : DropsEntries l.at l.first l.n l.which (g.H.Hardware.machine l.fn.machine) l.fn.self (g.H.Hardware.machine l.machine) l.self }

abbrev pub decreases-loop-n : goal.decreases-loop-n
decreases-loop-n g l = l.end - l.n
