use Rattle.test_vm.proofs.driver.Bench.play.Given as goal
use Rattle.vm_shadow.specs.StandsFor.{StandsFor}

abbrev pub invariant-loop-number : goal.invariant-loop-number
invariant-loop-number g l = StandsFor l.self.machine.memory l.self.shadow l.self.guest
