use Rattle.std.proofs.Common.{inr, map}
use Rattle.vvmm_call.proofs.Lent.{saves_over}
use Rattle.vvmm_call.proofs.Separate.{shown_separate}
use Rattle.vvmm_call.proofs.snaps.save.Goals as goal

pub returns : goal.returns
returns g c = inr (record {
  config = c.in-Ok.to_save.inputs.config;
  text = c.in-Ok.to_save.text.items;
  events = c.in-Ok.to_save.inputs.events.items;
  images = map (λ b. b.items) c.in-Ok.to_save.inputs.images.items;
  has = c.in-Ok.ensures.fetches.0;
  shelf = c.in-Ok.ensures.fetches.1;
  result = c.save-saved.result;
  saves = saves_over _ _ _ _ _ _ _ _ c.save-saved.result _ _ _ c.as_slice.ensures.value c.as_slice-2.ensures.value c.as_slice-3.ensures.value c.save-saved.ensures.saves;
  answers = c.saved_status.ensures;
  separate = λ volumes. shown_separate _ c.in-Ok.ensures.accepted;
})
