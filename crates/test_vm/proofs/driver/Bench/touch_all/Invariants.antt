use Rattle.test_vm.proofs.driver.Bench.touch_all.Given as goal
use Rattle.vm_shadow.specs.StandsFor.{StandsFor}

abbrev pub invariant-loop-k : goal.invariant-loop-k
invariant-loop-k l = StandsFor l.self.machine.memory l.self.shadow l.self.guest
