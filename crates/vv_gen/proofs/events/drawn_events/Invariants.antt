use Rattle.std.proofs.Common.{◌≡◌, ◌+◌, ◌*◌, map}
use Rattle.std.specs.List.{range_with_len}
use Rattle.vv_gen.specs.Draws.{after_draws, draws_after}
use Rattle.vv_gen.specs.Events.{event_of}
use Rattle.vv_gen.proofs.events.drawn_events.Given as goal

abbrev pub invariant-loop-before : goal.invariant-loop-before
invariant-loop-before l = record {
  made : l.events.items ≡ map (λ before. event_of (before + 1) (draws_after (2 * before) l.fn.draws.state)) (range_with_len 0 l.before);
  state : l.draws.state ≡ after_draws l.fn.draws.state (2 * l.before);
}
