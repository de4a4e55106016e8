use Rattle.vax_hw.specs.Machine.{machine_tables}
use Rattle.vax_paged.proofs.InPage.{whole_stored}
use Rattle.vax_paged.proofs.Watching.{whole_elsewhere}
use Rattle.vax_paged.proofs.stores.store_at.Goals as goal

pub returns-clause-memory : goal.returns-clause-memory
returns-clause-memory c = whole_stored c.args.memory.now c.store_in.new.memory c.args.world.now c.args.store.now c.args.place c.requires.whole c.store_in.ensures

pub returns-clause-known : goal.returns-clause-known
returns-clause-known c = c.stored.ensures c.args.memory.now c.store_in.new.memory (machine_tables c.args.world.now) c.requires.known
    (whole_elsewhere c.args.memory.now c.store_in.new.memory c.args.world.now c.args.store.now c.args.place c.requires.whole c.store_in.ensures)
