use Rattle.std.proofs.Common.{arith, ◌∙◌, sym}
use Rattle.test_vm.proofs.Driving.{is_claimed, on_true}
use Rattle.test_vm.proofs.driver.Bench.claim.Goals as goal
use Rattle.vax_arch.specs.Walk.{page_of}

pub returns-then-touch-clause-claimed : goal.returns-then-touch-clause-claimed
returns-then-touch-clause-claimed c = on_true c.is_marked.result (λ e. is_claimed c.touch.new.self.machine.memory c.touch.new.self.shadow c.touch.new.self.guest (page_of c.args.va) (omega (arith, c.ranges.va.fits)) c.touch.ensures.stands c.if-touch.ensures.filled (sym c.is_marked.ensures ∙ e))
