use Rattle.std.proofs.Common.{◌≡◌, ◌+◌, ◌*◌, ◌∙◌, ap, arith}
use Rattle.vv_gen.specs.Draws.{draws_after}
use Rattle.vv_gen.specs.Volumes.{block_of}
use Rattle.vv_gen.proofs.Drawing.{next_draws, state_after}
use Rattle.vv_gen.proofs.Making.{blocks_made}
use Rattle.vv_gen.proofs.Ranges.{pushed}
use Rattle.vv_gen.proofs.volumes.drawn_blocks.Goals as goal

pub loop-preserved : goal.loop-preserved
loop-preserved c =
    let x = c.args.draws.now.state in
    let n = c.loop.counter in
    let sum : 512 * n + 512 ≡ 512 * (n + 1) = omega arith in
    record {
      made = pushed (λ b. block_of (draws_after (512 * b) x)) n _ _ _ c.loop.invariant.made c.in_ok-push.ensures.items (c.drawn_block.ensures.block ∙ ap block_of (next_draws x (512 * n) _ c.loop.invariant.state));
      state = state_after x (512 * n) 512 (512 * (n + 1)) _ _ c.loop.invariant.state c.drawn_block.ensures.goes sum;
    }

pub returns-clause-blocks : goal.returns-clause-blocks
returns-clause-blocks c = c.loop.invariant.made ∙ blocks_made c.args.draws.now.state c.loop.counter (omega arith)
