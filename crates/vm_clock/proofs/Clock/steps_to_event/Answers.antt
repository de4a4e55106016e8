use Rattle.std.proofs.Common.{arith}
use Rattle.vm_clock.proofs.Counting.{next_wrap, never_wraps}
use Rattle.vm_clock.proofs.Clock.steps_to_event.Goals as goal

pub returns-then-self-clause-least : goal.returns-then-self-clause-least
returns-then-self-clause-least c = rw (← c.self.view_is, c.from.ensures) (next_wrap _ c.if-self.true (omega arith))

pub returns-else-self-clause-least : goal.returns-else-self-clause-least
returns-else-self-clause-least c = rw (← c.self.view_is) (never_wraps _ c.if-self.false)
