use Rattle.std.proofs.Common.{◌∙◌, sym, map, arith, ap}
use Rattle.std.proofs.lemmas.List.{length-map}
use Rattle.sys_state.specs.Places.{beside_with}
use Rattle.sys_devices.proofs.Lists.{from_first}
use Rattle.sys_guests.proofs.Powering.{map_at, misfit_here, misfit_later, misfit_none}
use Rattle.sys_guests.specs.Loads.{is_misfit}
use Rattle.sys_guests.proofs.loading.first_misfit.Goals as goal

pub loop-place-init : goal.loop-place-init
loop-place-init c = sym (from_first (λ b. b) (beside_with is_misfit c.args.rows.now (map (λ b. b.items) c.args.images.now)))

pub returns-then-is_misfit : goal.returns-then-is_misfit
returns-then-is_misfit c =
    sym (c.loop-place.invariant ∙ misfit_here c.args.rows.now (map (λ b. b.items) c.args.images.now) c.loop-place.place c.index-rows-place.result c.index-images-place.result.items c.is_misfit.result c.loop-place-test.true (length-map c.args.images.now (λ b. b.items) ∙ c.requires.images) c.index-rows-place.is (map_at (λ b. b.items) c.args.images.now c.loop-place.place c.index-images-place.result (omega (arith, c.requires.images)) c.index-images-place.is) (c.is_misfit.ensures ∙ ap (is_misfit c.index-rows-place.result) c.deref.ensures.value) c.if-is_misfit.true)

pub loop-place-preserved : goal.loop-place-preserved
loop-place-preserved c =
    c.loop-place.invariant ∙ misfit_later c.args.rows.now (map (λ b. b.items) c.args.images.now) c.loop-place.place c.index-rows-place.result c.index-images-place.result.items c.is_misfit.result c.loop-place-test.true (length-map c.args.images.now (λ b. b.items) ∙ c.requires.images) c.index-rows-place.is (map_at (λ b. b.items) c.args.images.now c.loop-place.place c.index-images-place.result (omega (arith, c.requires.images)) c.index-images-place.is) (c.is_misfit.ensures ∙ ap (is_misfit c.index-rows-place.result) c.deref.ensures.value) c.if-is_misfit.false

pub returns : goal.returns
returns c = sym (c.loop-place.invariant ∙ misfit_none c.args.rows.now (map (λ b. b.items) c.args.images.now) c.loop-place.place (omega arith) (length-map c.args.images.now (λ b. b.items) ∙ c.requires.images))
