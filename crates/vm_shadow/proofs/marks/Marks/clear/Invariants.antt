use Rattle.vm_shadow.proofs.Sets.{AreCleared}
use Rattle.vm_shadow.proofs.marks.Marks.clear.Given as goal

abbrev pub invariant-loop-at : goal.invariant-loop-at
invariant-loop-at l = AreCleared l.first l.at l.fn.self l.self-inside.words.items
