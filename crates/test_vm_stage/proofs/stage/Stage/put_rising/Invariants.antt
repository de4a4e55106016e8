use Rattle.test_vm_stage.proofs.stage.Stage.put_rising.Given as goal
use Rattle.vm_guest.specs.Kept.{IsShadowedIn}

abbrev pub invariant-loop-i : goal.invariant-loop-i
invariant-loop-i l = IsShadowedIn l.self.machine.memory l.self.guest
