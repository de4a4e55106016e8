use Rattle.test_vm_stage.proofs.stage.Stage.advance_singly.Given as goal
use Rattle.vm_guest.specs.Kept.{IsShadowedIn}

abbrev pub invariant-loop : goal.invariant-loop
invariant-loop l = IsShadowedIn l.self.machine.memory l.self.guest
