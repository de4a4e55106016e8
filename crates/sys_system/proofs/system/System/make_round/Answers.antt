use Rattle.std.proofs.Common.{◌++◌, ◌∷◌, [], sym, ap, subst}
use Rattle.sys_objects.specs.Condition.{IsConfig}
use Rattle.sys_objects.specs.declared.records.Config.{Config}
use Rattle.sys_system.proofs.NextTurn.{next_can, none_next}
use Rattle.sys_system.proofs.Playing.{fewer_left, plays_more, plays_none}
use Rattle.sys_system.proofs.Rounding.{round_made}
use Rattle.sys_system.specs.System.{System, slice_of_time}
use Rattle.sys_system.proofs.system.System.make_round.Goals as goal

pub loop-one-init : goal.loop-one-init
loop-one-init g c =
    let b = c.begin_round.ensures.begins in
    record { plays = ([], plays_none _ _ _ c.begin_round.ensures.holds b.goes.stands (ap (λ (s : System). s.turns.is_begun) b.system)); holds = c.begin_round.ensures.holds }

pub slice-requires-clause-can : goal.slice-requires-clause-can
slice-requires-clause-can g c = (next_can c.loop-one.self (slice_of_time c.in-Some.one) c.loop-one.invariant.holds (sym c.in-Some.ensures)).0

pub slice-requires-clause-stands : goal.slice-requires-clause-stands
slice-requires-clause-stands g c = c.loop-one.invariant.plays.1.stands

pub loop-one-preserved : goal.loop-one-preserved
loop-one-preserved g c =
    let can = (next_can c.loop-one.self (slice_of_time c.in-Some.one) c.loop-one.invariant.holds (sym c.in-Some.ensures)).0 in
    let (xs, plays) = c.loop-one.invariant.plays in
    record { plays = (xs ++ slice_of_time c.in-Some.one ∷ [], plays_more xs (slice_of_time c.in-Some.one) _ _ _ _ _ _ _ _ _ plays can c.slice.ensures.takes c.slice.ensures.pays); holds = c.slice.ensures.holds }

pub loop-one-smaller : goal.loop-one-smaller
loop-one-smaller g c =
    let can = next_can c.loop-one.self (slice_of_time c.in-Some.one) c.loop-one.invariant.holds (sym c.in-Some.ensures) in
    fewer_left (slice_of_time c.in-Some.one) _ _ _ _ _ _ can.0 can.1 c.slice.ensures.takes

pub end_round-requires-clause-none : goal.end_round-requires-clause-none
end_round-requires-clause-none g c = none_next c.loop-one.self c.loop-one.invariant.plays.1.begun (sym c.in_default.ensures)

pub end_round-requires-clause-stands : goal.end_round-requires-clause-stands
end_round-requires-clause-stands g c = c.loop-one.invariant.plays.1.stands

pub returns-clause-makes : goal.returns-clause-makes
returns-clause-makes g c =
    let (xs, plays) = c.loop-one.invariant.plays in
    let b = c.begin_round.ensures.begins in
    let accepted = subst (λ (y : Config). IsConfig y) (ap (λ (s : System). s.config) b.system) c.begin_round.ensures.holds.accepted in
    round_made c.args.events.now xs _ _ _ _ _ _ _ _ _ _ _ _ accepted c.requires.stands c.requires.events b plays (none_next c.loop-one.self plays.begun (sym c.in_default.ensures)) c.end_round.ensures.ends c.begin_round.ensures.present c.loop-one.invariant.holds.units c.end_round.ensures.present
