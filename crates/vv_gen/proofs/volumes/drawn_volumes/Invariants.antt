use Rattle.std.proofs.Common.{◌≡◌, ◌∷◌, map, replicate}
use Rattle.sys_store.specs.Blocks.{zero_volume}
use Rattle.vv_gen.specs.Draws.{after_draws, draw}
use Rattle.vv_gen.specs.Volumes.{blocks_drawn}
use Rattle.vv_gen.proofs.volumes.drawn_volumes.Given as goal

abbrev pub invariant-loop : goal.invariant-loop
invariant-loop l = record {
  made : map (λ blocks. blocks.items) l.volumes.items ≡ blocks_drawn (draw l.fn.draws.state) ∷ replicate l.counter (zero_volume 8);
  state : l.draws.state ≡ after_draws l.fn.draws.state 4096;
}
