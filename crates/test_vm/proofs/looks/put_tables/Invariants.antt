use Rattle.test_vm.proofs.looks.put_tables.Given as goal
use Rattle.vm_shadow.specs.StandsFor.{StandsFor}

abbrev pub invariant-loop-j : goal.invariant-loop-j
invariant-loop-j l = StandsFor l.bench.machine.memory l.bench.shadow l.bench.guest
