use Rattle.std.proofs.Common.{◌∙◌}
use Rattle.sys_devices.proofs.AllStored.{next_stored, still_fits}
use Rattle.sys_devices.proofs.storing.store_volumes.Goals as goal

pub store_at-requires-clause-size : goal.store_at-requires-clause-size
store_at-requires-clause-size g c =
    still_fits c.loop-place.place c.args.rows.now c.args.volumes.now c.args.marks.now c.loop-place.marks _ _ c.index-rows-place.result c.loop-place-test.true c.index-rows-place.is c.requires.apart c.requires.sizes c.requires.fit c.loop-place.invariant.stores

pub loop-place-preserved : goal.loop-place-preserved
loop-place-preserved g c = record {
  stores = next_stored c.loop-place.place c.args.rows.now c.args.volumes.now c.args.marks.now c.loop-place.marks c.store_at.new.marks _ _ _ c.index-rows-place.result (record { within = c.loop-place-test.true; read = c.index-rows-place.is; apart = c.requires.apart; before = c.loop-place.invariant.stores; now = c.store_at.ensures.stores });
  len = c.store_at.ensures.len ∙ c.loop-place.invariant.len;
}
