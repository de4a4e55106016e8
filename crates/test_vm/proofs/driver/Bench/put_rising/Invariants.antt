use Rattle.test_vm.proofs.driver.Bench.put_rising.Given as goal
use Rattle.vm_shadow.specs.StandsFor.{StandsFor}

abbrev pub invariant-loop-i : goal.invariant-loop-i
invariant-loop-i l = StandsFor l.self.machine.memory l.self.shadow l.self.guest
