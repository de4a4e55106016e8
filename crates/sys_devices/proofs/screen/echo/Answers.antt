use Rattle.std.proofs.Common.{◌≡◌, ◌<◌, ◌≤◌, ◌∙◌, arith, length, refl}
use Rattle.sys_devices.proofs.Puts.{hands_on}
use Rattle.sys_devices.proofs.Looked.{looked_all, looked_next, looked_none, looked_stops, next_there, seen_all, stopped_same, stopped_within, was_looked, within_all}
use Rattle.sys_devices.proofs.screen.echo.Goals as goal

pub loop-screen-init : goal.loop-screen-init
loop-screen-init g c = record {
  looked = looked_none _ _ _ _ c.deref_mut-screen-items.ensures.value;
  stays = refl;
}

pub echo_one-requires : goal.echo_one-requires
echo_one-requires g c =
    let low : c.loop-screen.screen-index < length c.loop-screen.screen-items = omega arith in
    next_there _ _ _ _ _ _ _ c.requires low c.screen-item.is c.loop-screen.invariant.looked

pub returns-in_err-echo_one-clause-echoes : goal.returns-in_err-echo_one-clause-echoes
returns-in_err-echo_one-clause-echoes g c =
    let low : c.loop-screen.screen-index < length c.loop-screen.screen-items = omega arith in
    let e = c.in_err-echo_one.ensures in
    looked_stops _ _ _ _ _ _ _ _ _ _ _ (hands_on _ c.from_residual.result c.from_residual.ensures.1) low c.screen-item.is c.loop-screen.invariant.looked (was_looked _ _ _ _ _ _ _ c.loop-screen.invariant.stays e.echoes e.same e.within)

pub returns-in_err-echo_one-clause-same : goal.returns-in_err-echo_one-clause-same
returns-in_err-echo_one-clause-same g c =
    let long : length c.loop-screen.screen-items ≡ c.args.screens.now.len = omega arith in
    let e = c.in_err-echo_one.ensures in
    stopped_same _ _ _ _ _ _ _ _ _ _ _ _ _ long c.screen-item.is c.loop-screen.invariant.looked (was_looked _ _ _ _ _ _ _ c.loop-screen.invariant.stays e.echoes e.same e.within)

pub returns-in_err-echo_one-clause-within : goal.returns-in_err-echo_one-clause-within
returns-in_err-echo_one-clause-within g c =
    let long : length c.loop-screen.screen-items ≡ c.args.screens.now.len = omega arith in
    let low : c.loop-screen.screen-index < length c.loop-screen.screen-items = omega arith in
    let e = c.in_err-echo_one.ensures in
    stopped_within _ _ _ _ _ _ _ _ _ _ _ _ _ long low c.screen-item.is c.loop-screen.invariant.looked (was_looked _ _ _ _ _ _ _ c.loop-screen.invariant.stays e.echoes e.same e.within)

pub loop-screen-preserved : goal.loop-screen-preserved
loop-screen-preserved g c =
    let low : c.loop-screen.screen-index < length c.loop-screen.screen-items = omega arith in
    let before = c.loop-screen.invariant in
    let e = c.in_ok-echo_one.ensures in
    record {
      looked = looked_next _ _ _ _ _ _ _ _ _ _ low c.screen-item.is before.looked (was_looked _ _ _ _ _ _ _ before.stays e.echoes e.same e.within) e.seen;
      stays = e.stays ∙ before.stays;
    }

pub returns-clause-seen : goal.returns-clause-seen
returns-clause-seen g c =
    let long : length c.loop-screen.screen-items ≡ c.args.screens.now.len = omega arith in
    let past : length c.loop-screen.screen-items ≤ c.loop-screen.screen-index = omega arith in
    seen_all _ _ _ _ _ _ _ _ long past c.loop-screen.invariant.looked

pub returns-clause-within : goal.returns-clause-within
returns-clause-within g c =
    let long : length c.loop-screen.screen-items ≡ c.args.screens.now.len = omega arith in
    within_all _ _ _ _ _ _ _ _ long c.loop-screen.invariant.looked

pub returns-clause-echoes : goal.returns-clause-echoes
returns-clause-echoes g c =
    let past : length c.loop-screen.screen-items ≤ c.loop-screen.screen-index = omega arith in
    looked_all _ _ _ _ _ _ past c.loop-screen.invariant.looked
