use Rattle.test_vm.proofs.Driving.{granted}
use Rattle.test_vm.proofs.driver.Bench.grant.Goals as goal

pub returns-then-claim : goal.returns-then-claim
returns-then-claim c = granted c.grant_write.result _ c.claim.new.self.guest c.claim.new.self.machine c.grant_write.new.machine c.claim.new.self.shadow c.grant_write.new.self c.claim.ensures.stands c.grant_write.ensures.is
