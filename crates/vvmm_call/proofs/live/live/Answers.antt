use Rattle.std.proofs.Common.{inr, map, subst, sym}
use Rattle.sys_objects.specs.Condition.{IsConfig}
use Rattle.vvmm_call.proofs.Lent.{lives_over}
use Rattle.vvmm_call.proofs.Separate.{separate}
use Rattle.vvmm_call.proofs.live.live.Goals as goal

pub returns : goal.returns
returns g c = inr (record {
  config = c.in-Ok.inputs.config;
  images = map (λ b. b.items) c.in-Ok.inputs.images.items;
  has = c.in-Ok.ensures.fetches.0;
  shelf = c.in-Ok.ensures.fetches.1;
  result = c.live-lived.result;
  shown = g.O.Sink.printed c.live-lived.new.out;
  lives = lives_over _ _ _ _ c.live-lived.result _ _ _ _ c.as_slice.ensures.value c.live-lived.ensures.lives;
  answers = c.lived_status.ensures;
  separate = λ x same. separate x (subst IsConfig (sym same) c.in-Ok.ensures.accepted);
})
