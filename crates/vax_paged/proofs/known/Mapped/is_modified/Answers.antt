use Rattle.std.proofs.Common.{sym, arith}
use Rattle.vv_base.specs.Width.{size_of}
use Rattle.vax_paged.proofs.InPage.{one_clear}
use Rattle.vax_paged.proofs.Knowing.{known_clear}
use Rattle.vax_paged.proofs.known.Mapped.is_modified.Goals as goal

pub returns-in-Some : goal.returns-in-Some
returns-in-Some c = λ e.
    sym (one_clear c.args.self.now.memory.now c.args.world.now (size_of c.args.store.now.width) c.args.store.now.va (omega arith) (omega arith)
    (known_clear c.args.self.now.memory.now c.args.world.now c.args.self.now.known.now c.args.store.now.va c.in-Some.field-0 c.requires (sym c.in-Some.ensures.is)))
