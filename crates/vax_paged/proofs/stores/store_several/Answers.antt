use Rattle.vax_hw.specs.Machine.{machine_tables}
use Rattle.vax_paged.proofs.stores.store_several.Goals as goal

pub returns-then-not-store_each-clause-known : goal.returns-then-not-store_each-clause-known
returns-then-not-store_each-clause-known c = c.store_by_bytes.ensures.known (machine_tables c.args.world.now) c.store_each.ensures.known
