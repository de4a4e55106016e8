use Rattle.std.proofs.Common.{◌≡◌}
use Rattle.vm_exception.specs.Sources.{software_due}
use Rattle.vm_exception.proofs.Requests.{highest_below}
use Rattle.vm_exception.proofs.pending.software_due.Given as goal
use Rattle.vm_state.specs.State.{state_of}

abbrev pub invariant-loop-level : goal.invariant-loop-level
invariant-loop-level l = highest_below (state_of l.g) l.level ≡ software_due (state_of l.g)
