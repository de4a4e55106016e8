use Rattle.std.proofs.Common.{◌≡◌, ◌∙◌, arith, rules, subst, sym}
use denote.Enum.Bare.{differs_false, differs_true}
use Rattle.sys_live.proofs.Joining.{are_events}
use Rattle.sys_live.proofs.Making.{all_made, between_first, between_next, last_made, none_made_more}
use Rattle.sys_script.specs.Events.{AreEvents}
use Rattle.sys_live.specs.contracts.typing.Typing.{the_type}
use Rattle.sys_live.proofs.session.make_typed.Goals as goal

pub loop-made-init : goal.loop-made-init
loop-made-init g c = record {
  between = between_first _ _ _ _ _ _ _ c.requires.rests c.requires.holds c.requires.stands c.requires.screens;
  holds = c.requires.holds;
}

pub make_next-is_cut-requires-clause-ordered : goal.make_next-is_cut-requires-clause-ordered
make_next-is_cut-requires-clause-ordered g c = subst AreEvents (sym c.as_slice-events.ensures.value) (are_events _ _ c.read_round-typed.ensures.each c.read_round-typed.ensures.round)

pub make_next-is_cut-requires-in-loop-made-clause-ordered : goal.make_next-is_cut-requires-in-loop-made-clause-ordered
make_next-is_cut-requires-in-loop-made-clause-ordered g c = subst AreEvents (sym c.as_slice-events.ensures.value) (are_events _ _ c.read_round-typed.ensures.each c.read_round-typed.ensures.round)

pub returns-then-is_empty-clause-makes : goal.returns-then-is_empty-clause-makes
returns-then-is_empty-clause-makes g c =
    none_made_more c.loop-made.made _ _ c.read_round-typed.result _ _ _ _ _ _ c.loop-made.is_cut _ _ _ _ _ _ c.loop-made.screens.items _ _ c.loop-made.invariant.between c.read_round-typed.ensures.types c.args.most c.as_slice-events.result.now (omega (arith, c.loop-made-test.true)) c.as_slice-events.ensures.value (sym c.is_empty.ensures ∙ c.if-is_empty.true)
    (differs_true the_type _ _ (sym c.ne.ensures ∙ c.if-ne.true))

pub returns-then-ne-clause-makes : goal.returns-then-ne-clause-makes
returns-then-ne-clause-makes g c =
    last_made c.loop-made.made _ _ c.read_round-typed.result _ _ _ _ _ _ c.loop-made.is_cut c.make_next-is_cut.result _ _ _ _ _ _ _ _ _ _ _ _ _ _ c.requires.fresh c.loop-made.invariant.between c.read_round-typed.ensures.types c.args.most c.as_slice-events.result.now (omega (arith, c.loop-made-test.true)) c.as_slice-events.ensures.value c.read_round-typed.ensures.round c.make_next-is_cut.ensures.makes c.make_next-is_cut.ensures.goes_on (sym c.is_empty.ensures ∙ c.if-is_empty.false)
    (differs_true the_type _ _ (sym c.ne.ensures ∙ c.if-ne.true))

pub loop-made-preserved : goal.loop-made-preserved
loop-made-preserved g c = record {
  between = between_next c.loop-made.made _ _ c.read_round-typed.result _ _ _ _ _ _ c.loop-made.is_cut c.make_next-is_cut-in-loop-made.result _ _ _ _ _ _ _ _ _ _ _ _ _ _ c.requires.fresh c.loop-made.invariant.between c.read_round-typed.ensures.types c.as_slice-events.result.now c.as_slice-events.ensures.value c.read_round-typed.ensures.round c.make_next-is_cut-in-loop-made.ensures.makes c.make_next-is_cut-in-loop-made.ensures.goes_on
      (differs_false the_type (search rules) _ _ (sym c.ne.ensures ∙ c.if-ne.false));
  holds = c.make_next-is_cut-in-loop-made.ensures.holds;
}

pub returns-clause-makes : goal.returns-clause-makes
returns-clause-makes g c =
    let most : c.loop-made.made ≡ c.args.most = omega (arith, c.loop-made-test.false, c.loop-made.auto.made-end) in
    all_made c.args.most c.loop-made.made c.loop-made.count _ c.loop-made.is_cut _ _ _ _ _ _ c.loop-made.screens.items _ _ c.requires.some most c.loop-made.invariant.between
