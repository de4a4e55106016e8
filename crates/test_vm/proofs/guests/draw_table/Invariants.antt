use Rattle.test_vm.proofs.guests.draw_table.Given as goal
use Rattle.vm_guest.specs.Kept.{IsShadowedIn}

abbrev pub invariant-loop-page : goal.invariant-loop-page
invariant-loop-page l = IsShadowedIn l.stage.machine.memory l.stage.guest
