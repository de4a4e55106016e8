use Rattle.std.proofs.Common.{◌≡◌, ◌+◌, ap, subst, arith}
use Rattle.sys_runs.proofs.Many.{more_made, none_made}
use Rattle.sys_runs.proofs.Splitting.{Spent, spent_next, spent_up_to, these_are, these_of}
use Rattle.sys_state.specs.Run.{events_of}
use Rattle.sys_system.specs.Calls.{AreOf}
use Rattle.sys_system.specs.System.{System}
use Rattle.sys_runs.proofs.rounds.make_rounds.Goals as goal

pub loop-made-init : goal.loop-made-init
loop-made-init g c =
    let before = c.rounds-before.result in
    let none : before ≡ before + 0 = omega arith in
    let es = c.args.events.now in
    let rest = c.later_than-rest.result.now in
    record {
      spent = subst (λ n. Spent n es rest) none (spent_up_to before es rest c.requires.ordered c.later_than-rest.ensures);
      makes = none_made es _ _ _ c.requires.rests c.requires.holds.trail c.requires.stands;
      holds = c.requires.holds;
    }

pub make_round-requires-clause-rests : goal.make_round-requires-clause-rests
make_round-requires-clause-rests g c = c.loop-made.invariant.makes.ended

pub make_round-requires-clause-few : goal.make_round-requires-clause-few
make_round-requires-clause-few g c =
    let rounds : c.loop-made.system.rounds ≡ c.args.system.now.rounds + c.loop-made.made = ap (λ (s : System). s.rounds) c.loop-made.invariant.makes.system in
    omega (arith, rounds, c.requires.few)

pub make_round-requires-clause-stands : goal.make_round-requires-clause-stands
make_round-requires-clause-stands g c = c.loop-made.invariant.makes.goes.stands

pub make_round-requires-clause-events : goal.make_round-requires-clause-events
make_round-requires-clause-events g c =
    let made = c.loop-made.made in
    let before = c.rounds-before.result in
    let rounds : c.loop-made.system.rounds ≡ c.args.system.now.rounds + made = ap (λ (s : System). s.rounds) c.loop-made.invariant.makes.system in
    let same : before + made ≡ c.loop-made.system.rounds = omega (arith, rounds, c.rounds-before.ensures) in
    let of = these_of (before + made) c.count_up_to-own.result c.args.events.now c.loop-made.rest.now _ _ c.loop-made.invariant.spent c.count_up_to-own.ensures c.split_at.ensures.front c.split_at.ensures.back in
    subst (λ n. AreOf (n + 1) c.split_at.result.0.now) same of

pub loop-made-preserved : goal.loop-made-preserved
loop-made-preserved g c =
    let made = c.loop-made.made in
    let before = c.rounds-before.result in
    let es = c.args.events.now in
    let rest = c.loop-made.rest.now in
    let these = c.split_at.result.0.now in
    let own = c.count_up_to-own.result in
    let front = c.split_at.ensures.front in
    let back = c.split_at.ensures.back in
    let first = c.rounds-before.ensures in
    let are = these_are (before + made) own es rest _ _ c.loop-made.invariant.spent c.count_up_to-own.ensures front back in
    let of = these_of (before + made) own es rest _ _ c.loop-made.invariant.spent c.count_up_to-own.ensures front back in
    let next : (before + made) + 1 ≡ before + (made + 1) = omega arith in
    record {
      spent = subst (λ n. Spent n es c.split_at.result.1.now) next (spent_next (before + made) own es rest _ _ c.loop-made.invariant.spent c.count_up_to-own.ensures front back);
      makes = more_made made es _ _ _ _ _ _ _ _ _ _ c.loop-made.invariant.makes (subst (λ k. these ≡ events_of ((k + made) + 1) es) first are) (subst (λ k. AreOf ((k + made) + 1) these) first of) c.make_round.ensures.makes;
      holds = c.make_round.ensures.holds;
    }
