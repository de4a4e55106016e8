use Rattle.test_vm.proofs.Driving.{has_slot}
use Rattle.test_vm.proofs.driver.Bench.world.Goals as goal

pub world-requires-clause-slot : goal.world-requires-clause-slot
world-requires-clause-slot c = has_slot c.args.self.now.machine.memory c.args.self.now.shadow c.args.self.now.guest c.requires
