use Rattle.test_vm.proofs.looks.touch_process.Given as goal
use Rattle.vm_shadow.specs.StandsFor.{StandsFor}

abbrev pub invariant-loop-page : goal.invariant-loop-page
invariant-loop-page l = StandsFor l.bench.machine.memory l.bench.shadow l.bench.guest
