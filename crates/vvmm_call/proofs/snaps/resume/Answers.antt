use Rattle.std.proofs.Common.{inr}
use Rattle.sys_snap.specs.Held.{snapshot_moment}
use Rattle.vvmm_call.proofs.Counted.{few_from}
use Rattle.vvmm_call.proofs.Lent.{goes_over}
use Rattle.vvmm_call.proofs.Separate.{resumed_separate}
use Rattle.vvmm_call.proofs.snaps.resume.Goals as goal

pub answer-requires : goal.answer-requires
answer-requires g c = few_from _ _ _ c.resume-ran.result _ c.in-Ok.ensures.moment.few_rounds c.requires.few c.resume-ran.ensures.goes_on

pub returns : goal.returns
returns g c = inr (record {
  moment = snapshot_moment c.in-Ok.inputs.snap;
  events = c.in-Ok.inputs.events.items;
  has = c.in-Ok.ensures.fetches.0;
  shelf = c.in-Ok.ensures.fetches.2;
  result = c.resume-ran.result;
  ends = (goes_over _ _ _ _ c.resume-ran.result _ c.as_slice.ensures.value c.resume-ran.ensures.goes_on, c.answer.ensures, resumed_separate _ _ _ c.in-Ok.ensures.held.config c.in-Ok.ensures.moment);
})
