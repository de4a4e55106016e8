use Rattle.std.proofs.Common.{◌≡◌, ◌%◌, map, take}
use Rattle.std.specs.List.{range_with_len}
use Rattle.vv_gen.specs.Draws.{after_draws, draw}
use Rattle.vv_gen.proofs.volumes.fill.Given as goal

abbrev pub invariant-loop-byte : goal.invariant-loop-byte
invariant-loop-byte l = record {
  made : take l.byte-index l.block ≡ map (λ i. draw l.fn.draws.state i % 256) (range_with_len 0 l.byte-index);
  state : l.draws.state ≡ after_draws l.fn.draws.state l.byte-index;
}
