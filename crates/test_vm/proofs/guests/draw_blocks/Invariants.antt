use Rattle.test_vm.proofs.guests.draw_blocks.Given as goal
use Rattle.vm_guest.specs.Kept.{IsShadowedIn}

abbrev pub invariant-loop-number : goal.invariant-loop-number
invariant-loop-number l = IsShadowedIn l.stage.machine.memory l.stage.guest
