use Rattle.test_vm.proofs.contexts.four_contexts_are_kept.Given as goal
use Rattle.vm_shadow.specs.StandsFor.{StandsFor}

abbrev pub invariant-loop-step : goal.invariant-loop-step
invariant-loop-step g l = StandsFor l.bench.machine.memory l.bench.shadow l.bench.guest
