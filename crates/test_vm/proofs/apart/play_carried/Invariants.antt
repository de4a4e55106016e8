use Rattle.test_vm.proofs.apart.play_carried.Given as goal
use Rattle.vm_guest.specs.Kept.{IsShadowedIn}

abbrev pub invariant-loop : goal.invariant-loop
invariant-loop l = IsShadowedIn l.stage.machine.memory l.stage.guest
