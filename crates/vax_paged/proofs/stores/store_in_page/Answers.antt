use Rattle.std.proofs.Common.{sym}
use Rattle.vax_hw.specs.Machine.{machine_tables}
use Rattle.vax_paged.proofs.Frames.{stores_in_frame}
use Rattle.vax_paged.proofs.Watching.{still}
use Rattle.vax_paged.proofs.stores.store_in_page.Goals as goal

pub store_from-requires-clause-in_page : goal.store_from-requires-clause-in_page
store_from-requires-clause-in_page c = stores_in_frame c.args.memory.now c.args.world.now _ c.in-Some.base c.args.stores.now c.in-Some.ensures.open (sym c.if-not-all_lie_in.ensures)

pub returns-clause-known : goal.returns-clause-known
returns-clause-known c =
    still c.args.memory.now c.store_from.new.memory (machine_tables c.args.world.now) c.args.known.now c.in-Some.base c.in-Some.base (sym c.if-watches.ensures) (sym c.if-watches.ensures) c.requires c.store_from.ensures.elsewhere
