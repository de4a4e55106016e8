use Rattle.test_vm.proofs.Driving.{stored}
use Rattle.test_vm.proofs.driver.Bench.put_byte.Goals as goal

pub returns-then-is_inside : goal.returns-then-is_inside
returns-then-is_inside c = stored _ _ c.args.self.now.guest c.args.self.now.machine c.store_byte.new.machine c.args.self.now.shadow c.store_byte.new.self c.requires c.store_byte.ensures
