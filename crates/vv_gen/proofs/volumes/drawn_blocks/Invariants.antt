use Rattle.std.proofs.Common.{◌≡◌, ◌*◌, map}
use Rattle.std.specs.List.{range_with_len}
use Rattle.vv_gen.specs.Draws.{after_draws, draws_after}
use Rattle.vv_gen.specs.Volumes.{block_of}
use Rattle.vv_gen.proofs.volumes.drawn_blocks.Given as goal

abbrev pub invariant-loop : goal.invariant-loop
invariant-loop l = record {
  made : l.blocks.items ≡ map (λ b. block_of (draws_after (512 * b) l.fn.draws.state)) (range_with_len 0 l.counter);
  state : l.draws.state ≡ after_draws l.fn.draws.state (512 * l.counter);
}
