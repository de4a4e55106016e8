use Rattle.std.proofs.Common.{◌≡◌, take}
use Rattle.vm_state.specs.Pushes.{pointer_after}
use Rattle.vm_exception.proofs.attempts.pointer_after.Given as goal

abbrev pub invariant-loop : goal.invariant-loop
invariant-loop l = l.at ≡ pointer_after l.sp (take l.index l.longs)
