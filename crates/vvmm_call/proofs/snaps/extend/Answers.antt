use Rattle.std.proofs.Common.{◌∙◌, inr}
use Rattle.sys_snap.specs.Held.{snapshot_moment}
use Rattle.vvmm_call.proofs.Lent.{extends_over}
use Rattle.vvmm_call.proofs.Separate.{extended_separate}
use Rattle.vvmm_call.proofs.snaps.extend.Goals as goal

pub returns : goal.returns
returns g c = inr (record {
  moment = snapshot_moment c.in-Ok.inputs.snap;
  events = c.in-Ok.inputs.events.items;
  has = c.in-Ok.ensures.fetches.0.0;
  shelf = c.in-Ok.ensures.fetches.0.2;
  result = c.extend-saved.result;
  ends = (
    extends_over _ _ _ _ _ _ c.extend-saved.result _ _ _ (c.as_slice.ensures.value ∙ c.in-Ok.ensures.fetches.0.1) c.as_slice-2.ensures.value c.extend-saved.ensures,
    c.saved_status.ensures,
    extended_separate _ _ _ c.in-Ok.ensures.held.config c.in-Ok.ensures.moment,
    c.in-Ok.ensures.few,
  );
})
