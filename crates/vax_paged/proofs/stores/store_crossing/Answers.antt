use Rattle.vax_hw.specs.Machine.{machine_tables}
use Rattle.vax_paged.proofs.stores.store_crossing.Goals as goal

pub returns-then-not-store_over_end-clause-known : goal.returns-then-not-store_over_end-clause-known
returns-then-not-store_over_end-clause-known c = c.store_by_bytes.ensures.known (machine_tables c.args.world.now) c.store_over_end.ensures.known
