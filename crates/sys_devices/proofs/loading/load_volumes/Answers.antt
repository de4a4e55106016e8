use Rattle.std.proofs.Common.{◌∙◌}
use Rattle.std.proofs.lemmas.Result.{err_from_is_err_and}
use Rattle.sys_devices.proofs.AllLoaded.{all_loaded, next_loaded, stops}
use Rattle.sys_devices.proofs.Places.{blocks_fit}
use Rattle.sys_devices.proofs.loading.load_volumes.Goals as goal

pub load_one-requires-clause-size : goal.load_one-requires-clause-size
load_one-requires-clause-size g c = blocks_fit c.args.rows.now c.loop-place.volumes c.loop-place.place c.index-rows-place.result c.loop-place-test.true c.index-rows-place.is c.loop-place.invariant.loaded.sizes

pub returns-in_err-load_one-clause-loads : goal.returns-in_err-load_one-clause-loads
returns-in_err-load_one-clause-loads g c =
    let before = c.loop-place.invariant in
    let p = err_from_is_err_and c.from_residual-in_err-load_one.result c.from_residual-in_err-load_one.ensures.1 in
    rw (p.1, p.2) (stops (Unit {0}) c.loop-place.place c.args.rows.now _ _ _ c.loop-place.volumes c.load_one.new.volumes c.index-rows-place.result _ c.loop-place-test.true c.index-rows-place.is before.drives before.loaded c.in_err-load_one.ensures.loads)

pub loop-place-preserved : goal.loop-place-preserved
loop-place-preserved g c =
    let before = c.loop-place.invariant in
    let next = next_loaded c.loop-place.place c.args.rows.now _ _ _ c.loop-place.volumes c.load_one.new.volumes c.index-rows-place.result c.in_ok-load_one.field-0 c.loop-place-test.true c.index-rows-place.is before.drives before.loaded c.in_ok-load_one.ensures.loads in
    record { drives = next.1; loaded = next.0; len = c.load_one.ensures.len ∙ before.len }

pub returns-clause-loads : goal.returns-clause-loads
returns-clause-loads g c = (all_loaded c.loop-place.place c.args.rows.now _ c.loop-place.volumes c.loop-place-test.false c.loop-place.invariant.loaded, c.loop-place.invariant.drives)
