use Rattle.std.proofs.Common.{◌≡◌, ◌+◌, ◌%◌, map}
use Rattle.std.specs.List.{range_with_len}
use Rattle.vv_gen.specs.Draws.{after_draws, draw}
use Rattle.vv_gen.specs.Image.{image_of}
use Rattle.vv_gen.proofs.generate.drawn_images.Given as goal

abbrev pub invariant-loop : goal.invariant-loop
invariant-loop l = record {
  made : map (λ b. b.items) l.images.items ≡ map (λ g. image_of (600 + draw l.fn.draws.state g % 1000)) (range_with_len 0 l.counter);
  state : l.draws.state ≡ after_draws l.fn.draws.state l.counter;
}
