use Rattle.std.proofs.Common.{sym, arith}
use Rattle.vm_clock.proofs.Counting.{after_ticks-count, after_ticks-stopped}
use Rattle.vm_clock.proofs.Clock.pass.Goals as goal

pub returns-then-self : goal.returns-then-self
returns-then-self c =
    let fits = rw (← c.self.view_is) at c.requires in
    let room = fits c.if-self.true in
    rw (← c.self.view_is) (sym (after_ticks-count c.args.n _ c.if-self.true (omega arith)))

pub returns-else-self : goal.returns-else-self
returns-else-self c = rw (← c.self.view_is) (sym (after_ticks-stopped c.args.n _ c.if-self.false))
