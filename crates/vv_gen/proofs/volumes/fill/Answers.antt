use Rattle.std.proofs.Common.{ℕ, ◌<◌, ◌%◌, ap, length, arith}
use Rattle.std.proofs.lemmas.List.{take_more_set}
use Rattle.vv_gen.specs.Draws.{draw}
use Rattle.vv_gen.proofs.Drawing.{next_draw, next_state}
use Rattle.vv_gen.proofs.Ranges.{pushed}
use Rattle.vv_gen.proofs.volumes.fill.Goals as goal

pub loop-byte-preserved : goal.loop-byte-preserved
loop-byte-preserved c =
    let x = c.args.draws.now.state in
    let n = c.loop-byte.byte-index in
    let within : n < length c.loop-byte.block = omega arith in
    let f : ℕ → ℕ = λ d. d % 256 in
    record {
      made = pushed (λ i. draw x i % 256) n _ _ (c.drawn.result % 256) c.loop-byte.invariant.made (take_more_set c.loop-byte.block n (c.drawn.result % 256) within) (ap f (next_draw x n _ _ c.loop-byte.invariant.state c.drawn.ensures.value));
      state = next_state x n _ _ c.loop-byte.invariant.state c.drawn.ensures.goes;
    }
