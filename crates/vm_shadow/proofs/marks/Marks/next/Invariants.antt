use Rattle.std.proofs.Common.{◌-◌}
use Rattle.vm_shadow.specs.Marks.{AreAbsent}
use Rattle.vm_shadow.proofs.marks.Marks.next.Given as goal

abbrev pub invariant-loop-at : goal.invariant-loop-at
invariant-loop-at l = AreAbsent l.from l.at l.self

abbrev pub decreases-loop-at : goal.decreases-loop-at
decreases-loop-at l = l.end - l.at
