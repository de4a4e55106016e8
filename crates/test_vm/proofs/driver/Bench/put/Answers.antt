use Rattle.test_vm.proofs.Driving.{stored}
use Rattle.test_vm.proofs.driver.Bench.put.Goals as goal

pub returns-then-is_place : goal.returns-then-is_place
returns-then-is_place c = stored _ _ c.args.self.now.guest c.args.self.now.machine c.store_long.new.machine c.args.self.now.shadow c.store_long.new.self c.requires c.store_long.ensures
