use Rattle.vm_exception.proofs.Pushing.{Pushing}
use Rattle.vm_exception.proofs.pushes.pushed_bytes.Given as goal

abbrev pub invariant-loop-long : goal.invariant-loop-long
invariant-loop-long l = Pushing l.sp l.longs l.long-index l.at l.bytes.items
