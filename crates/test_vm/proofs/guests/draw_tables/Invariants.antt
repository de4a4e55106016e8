use Rattle.test_vm.proofs.guests.draw_tables.Given as goal
use Rattle.vm_guest.specs.Kept.{IsShadowedIn}

abbrev pub invariant-loop-table : goal.invariant-loop-table
invariant-loop-table l = IsShadowedIn l.stage.machine.memory l.stage.guest
