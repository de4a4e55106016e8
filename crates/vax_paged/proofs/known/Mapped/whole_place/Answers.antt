use Rattle.vax_paged.proofs.InPage.{store_opened}
use Rattle.vax_paged.proofs.known.Mapped.whole_place.Goals as goal

pub returns : goal.returns
returns c = record {
  whole = store_opened c.args.self.now.memory.now c.args.world.now c.args.self.now.known.now c.args.store.now c.open_place.result c.open_place.ensures.open;
}
