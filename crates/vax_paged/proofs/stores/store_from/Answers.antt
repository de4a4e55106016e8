use Rattle.vax_paged.proofs.Frames.{one_more, one_more_elsewhere}
use Rattle.std.proofs.Common.{◌∙◌}
use Rattle.vax_paged.proofs.stores.store_from.Goals as goal

pub loop-store-preserved : goal.loop-store-preserved
loop-store-preserved c =
    let memory = c.loop-store.memory in
    let new = c.store_in.new.memory in
    let i = c.loop-store.store-index in
    let h = c.requires.in_page i _ c.loop-store-test.true in (
      one_more c.args.memory.now memory new c.args.world.now c.args.base i c.args.stores.now _ c.loop-store-test.true h c.store_in.ensures c.loop-store.invariant.0,
      one_more_elsewhere c.args.memory.now memory new c.args.world.now _ c.args.base h c.store_in.ensures c.loop-store.invariant.1,
      c.store_in.auto.memory ∙ c.loop-store.invariant.2,
    )
