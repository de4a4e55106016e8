use Rattle.vm_guest.specs.Kept.{IsShadowedIn}
use Rattle.test_vm.proofs.costs.each_step_costs_what_was_counted_by_hand.Given as goal

abbrev pub invariant-loop-what : goal.invariant-loop-what
invariant-loop-what g l = IsShadowedIn l.machine.machine.memory l.guest
