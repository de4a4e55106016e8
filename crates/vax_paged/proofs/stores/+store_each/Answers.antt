use Rattle.std.proofs.Common.{◌-◌, length, take}
use Rattle.vax_hw.specs.Machine.{machine_tables}
use Rattle.vax_paged.proofs.InPage.{stored_after}
use Rattle.vax_paged.proofs.Puts.{before_last}
use Rattle.vax_paged.proofs.Watching.{still, stored_elsewhere}
use Rattle.vax_paged.proofs.stores.+store_each.Goals as goal

pub returns-clause-memory : goal.returns-clause-memory
returns-clause-memory t c =
    stored_after c.args.memory.now c.store_each.new.memory c.store_in.new.memory c.args.world.now _ c.in-Some.place (take (length c.args.stores.now - 1) c.args.stores.now) c.args.stores.now c.in-Some.ensures.whole (before_last c.args.stores.now _ c.in-len1-up.len_at_least) c.if-not-store_each.ensures.memory c.store_in.ensures

pub returns-clause-known : goal.returns-clause-known
returns-clause-known t c =
    still c.store_each.new.memory c.store_in.new.memory (machine_tables c.args.world.now) c.args.known.now c.in-Some.place c.in-Some.place c.in-Some.ensures.unwatched c.in-Some.ensures.unwatched c.store_each.ensures.known
    (stored_elsewhere c.args.memory.now c.store_each.new.memory c.store_in.new.memory c.args.world.now _ c.in-Some.place c.in-Some.ensures.whole c.store_in.ensures)
