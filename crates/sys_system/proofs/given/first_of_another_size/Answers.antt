use Rattle.std.proofs.Common.{◌∙◌, sym, map, arith, ap}
use Rattle.std.proofs.lemmas.List.{length-map}
use Rattle.sys_state.specs.Places.{beside_with}
use Rattle.sys_devices.proofs.Lists.{from_first}
use Rattle.sys_guests.proofs.Powering.{map_at}
use Rattle.sys_system.proofs.Copying.{all_fit, none_other, other_here, other_later}
use Rattle.sys_system.specs.Given.{is_another_size}
use Rattle.sys_system.proofs.given.first_of_another_size.Goals as goal

pub loop-place-init : goal.loop-place-init
loop-place-init c = sym (from_first (λ b. b) (beside_with is_another_size c.args.rows.now (map (λ b. b.items) c.args.given.now)))

pub returns-then-is_another_size-clause-first : goal.returns-then-is_another_size-clause-first
returns-then-is_another_size-clause-first c =
    sym (c.loop-place.invariant ∙ other_here c.args.rows.now (map (λ b. b.items) c.args.given.now) c.loop-place.place c.index-rows-place.result c.index-given-place.result.items c.is_another_size.result c.loop-place-test.true (length-map c.args.given.now (λ b. b.items) ∙ c.requires.volumes) c.index-rows-place.is (map_at (λ b. b.items) c.args.given.now c.loop-place.place c.index-given-place.result (omega (arith, c.requires.volumes)) c.index-given-place.is) (c.is_another_size.ensures ∙ ap (is_another_size c.index-rows-place.result) c.deref.ensures.value) c.if-is_another_size.true)

pub loop-place-preserved : goal.loop-place-preserved
loop-place-preserved c =
    c.loop-place.invariant ∙ other_later c.args.rows.now (map (λ b. b.items) c.args.given.now) c.loop-place.place c.index-rows-place.result c.index-given-place.result.items c.is_another_size.result c.loop-place-test.true (length-map c.args.given.now (λ b. b.items) ∙ c.requires.volumes) c.index-rows-place.is (map_at (λ b. b.items) c.args.given.now c.loop-place.place c.index-given-place.result (omega (arith, c.requires.volumes)) c.index-given-place.is) (c.is_another_size.ensures ∙ ap (is_another_size c.index-rows-place.result) c.deref.ensures.value) c.if-is_another_size.false

pub returns-clause-first : goal.returns-clause-first
returns-clause-first c = sym (c.loop-place.invariant ∙ none_other c.args.rows.now (map (λ b. b.items) c.args.given.now) c.loop-place.place (omega arith) (length-map c.args.given.now (λ b. b.items) ∙ c.requires.volumes))

pub returns-clause-fit : goal.returns-clause-fit
returns-clause-fit c none =
    let long = length-map c.args.given.now (λ b. b.items) ∙ c.requires.volumes in
    all_fit c.args.rows.now (map (λ b. b.items) c.args.given.now) long (c.loop-place.invariant ∙ none_other c.args.rows.now (map (λ b. b.items) c.args.given.now) c.loop-place.place (omega arith) long)
