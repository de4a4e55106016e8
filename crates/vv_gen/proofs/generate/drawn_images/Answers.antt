use Rattle.std.proofs.Common.{ℕ, List, ◌+◌, ◌%◌, ◌∙◌, ap, arith}
use Rattle.vv_gen.specs.Draws.{draw}
use Rattle.vv_gen.specs.Image.{image_of}
use Rattle.vv_gen.proofs.Drawing.{next_draw, next_state}
use Rattle.vv_gen.proofs.Making.{images_made}
use Rattle.vv_gen.proofs.Ranges.{pushed_seen}
use Rattle.vv_gen.proofs.generate.drawn_images.Goals as goal

pub loop-preserved : goal.loop-preserved
loop-preserved c =
    let x = c.args.draws.now.state in
    let n = c.loop.counter in
    let f : ℕ → List ℕ = λ d. image_of (600 + d % 1000) in
    let drawn = next_draw x n _ _ c.loop.invariant.state c.drawn.ensures.value in
    record {
      made = pushed_seen (λ b. b.items) (λ g. image_of (600 + draw x g % 1000)) n _ _ _ c.loop.invariant.made c.in_ok-push.ensures.items (c.in_ok-image.ensures ∙ ap f drawn);
      state = next_state x n _ _ c.loop.invariant.state c.drawn.ensures.goes;
    }

pub returns-clause-images : goal.returns-clause-images
returns-clause-images c = c.loop.invariant.made ∙ images_made (draw c.args.draws.now.state) c.loop.counter (omega arith)
