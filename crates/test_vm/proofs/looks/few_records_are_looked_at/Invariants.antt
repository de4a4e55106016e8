use Rattle.test_vm.proofs.looks.few_records_are_looked_at.Given as goal
use Rattle.vm_shadow.specs.StandsFor.{StandsFor}

abbrev pub invariant-loop-row : goal.invariant-loop-row
invariant-loop-row g l = StandsFor l.bench.machine.memory l.bench.shadow l.bench.guest
