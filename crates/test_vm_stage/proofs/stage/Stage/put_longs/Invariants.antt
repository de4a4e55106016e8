use Rattle.test_vm_stage.proofs.stage.Stage.put_longs.Given as goal
use Rattle.vm_guest.specs.Kept.{IsShadowedIn}

abbrev pub invariant-loop-place : goal.invariant-loop-place
invariant-loop-place l = IsShadowedIn l.self.machine.memory l.self.guest
