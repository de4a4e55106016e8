use Rattle.std.proofs.Common.{◌-◌, ◌≤◌}
use Rattle.vm_shadow.specs.Marks.{IsPastIn}
use Rattle.vm_shadow.proofs.records.Records.next_in.Given as goal

abbrev pub invariant-loop-n : goal.invariant-loop-n
invariant-loop-n l = record { past : IsPastIn l.groups l.row l.self l.from l.n; few : l.n ≤ 73728 }

abbrev pub decreases-loop-n : goal.decreases-loop-n
decreases-loop-n l = l.end - l.n
