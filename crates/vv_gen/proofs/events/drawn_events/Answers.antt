use Rattle.std.proofs.Common.{ℕ, ◌≡◌, ◌+◌, ◌*◌, ◌∙◌, ap, arith}
use Rattle.sys_script.specs.declared.event.Event.{Event}
use Rattle.vv_gen.specs.Draws.{draws_after}
use Rattle.vv_gen.specs.Events.{event_of}
use Rattle.vv_gen.proofs.Drawing.{next_draws, state_after}
use Rattle.vv_gen.proofs.Making.{events_made}
use Rattle.vv_gen.proofs.Ranges.{pushed}
use Rattle.vv_gen.proofs.events.drawn_events.Goals as goal

pub loop-before-preserved : goal.loop-before-preserved
loop-before-preserved c =
    let x = c.args.draws.now.state in
    let n = c.loop-before.before in
    let f : (ℕ → ℕ) → Event = λ draws. event_of (n + 1) draws in
    let sum : 2 * n + 2 ≡ 2 * (n + 1) = omega arith in
    record {
      made = pushed (λ before. event_of (before + 1) (draws_after (2 * before) x)) n _ _ _ c.loop-before.invariant.made c.in_ok-push.ensures.items (c.in_ok-drawn_event.ensures.event ∙ ap f (next_draws x (2 * n) _ c.loop-before.invariant.state));
      state = state_after x (2 * n) 2 (2 * (n + 1)) _ _ c.loop-before.invariant.state c.in_ok-drawn_event.ensures.goes sum;
    }

pub returns : goal.returns
returns c = c.loop-before.invariant.made ∙ events_made c.args.draws.now.state c.loop-before.before (omega arith)
