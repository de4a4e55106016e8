use Rattle.test_vm.proofs.tables.entries_of_all_kinds.Given as goal
use Rattle.vm_shadow.specs.StandsFor.{StandsFor}

abbrev pub invariant-loop-scene : goal.invariant-loop-scene
invariant-loop-scene g l = StandsFor l.bench.machine.memory l.bench.shadow l.bench.guest

abbrev pub invariant-loop-code : goal.invariant-loop-code
invariant-loop-code g l = StandsFor l.bench.machine.memory l.bench.shadow l.bench.guest
