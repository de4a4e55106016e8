use Rattle.std.proofs.Common.{◌*◌}
use Rattle.vm_shadow.specs.Marks.{AreAbsent}
use Rattle.vm_shadow.proofs.marks.Marks.is_clear.Given as goal

abbrev pub invariant-loop-at : goal.invariant-loop-at
invariant-loop-at l = AreAbsent (64 * l.first) (64 * l.at) l.self
