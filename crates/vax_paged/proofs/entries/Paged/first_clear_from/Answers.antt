use Rattle.std.proofs.Common.{arith, sym, ◌∙◌}
use Rattle.vax_paged.proofs.InPage.{one_clear}
use Rattle.vax_paged.proofs.entries.Paged.first_clear_from.Goals as goal

pub returns-else-is_clear : goal.returns-else-is_clear
returns-else-is_clear c =
    one_clear c.args.self.now.memory.now c.args.self.now.world.now c.args.bytes c.args.va (omega arith) (omega arith) (sym c.is_clear.ensures ∙ c.if-is_clear.false)
