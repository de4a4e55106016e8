use Rattle.std.proofs.Common.{sym, arith}
use Rattle.vax_paged.proofs.Frames.{store_in_frame}
use Rattle.vax_paged.proofs.known.Mapped.open_page.Goals as goal

pub returns-in-Some-clause-open : goal.returns-in-Some-clause-open
returns-in-Some-clause-open c = λ x t.
    store_in_frame c.args.self.now.memory.now c.args.world.now c.args.self.now.known.now c.args.page c.in-Some.base x c.requires.known (sym c.in-Some.ensures.is) (omega arith) t
