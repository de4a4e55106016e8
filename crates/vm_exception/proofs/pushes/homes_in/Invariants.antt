use Rattle.vm_exception.proofs.Pushing.{Placing}
use Rattle.vm_exception.proofs.pushes.homes_in.Given as goal

abbrev pub invariant-loop-long : goal.invariant-loop-long
invariant-loop-long l = Placing l.page l.entry l.sp l.longs l.long-index l.at l.homes.items
