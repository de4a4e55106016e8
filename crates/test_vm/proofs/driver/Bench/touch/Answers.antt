use Rattle.std.proofs.Common.{◌∙◌, sym}
use Rattle.test_vm.proofs.Driving.{walked_filled}
use Rattle.test_vm.proofs.driver.Bench.touch.Goals as goal

pub returns-in-Frame-clause-filled : goal.returns-in-Frame-clause-filled
returns-in-Frame-clause-filled c = walked_filled c.args.va _ _ c.in-Frame.pa c.in-Frame.entry c.in-Frame.table c.args.self.now.guest c.args.self.now.machine c.fill.new.machine c.args.self.now.shadow c.fill.new.self c.requires (sym c.walk.ensures ∙ c.in-Frame.is) c.fill.ensures
