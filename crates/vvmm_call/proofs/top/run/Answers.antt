use Rattle.std.proofs.Common.{inr, map}
use Rattle.vvmm_call.proofs.Separate.{separate}
use Rattle.vvmm_call.proofs.top.run.Goals as goal

pub returns-in-Ok : goal.returns-in-Ok
returns-in-Ok g c = inr (record {
  config = c.in-Ok.inputs.config;
  events = c.in-Ok.inputs.events.items;
  images = map (λ b. b.items) c.in-Ok.inputs.images.items;
  has = c.in-Ok.ensures.fetches.0;
  shelf = c.in-Ok.ensures.fetches.1;
  plays = c.play.ensures;
  separate = λ volumes. separate _ c.in-Ok.ensures.accepted;
})
