use Rattle.std.proofs.Common.{◌∙◌, length, map, slice_set, sym, ap, arith}
use Rattle.std.proofs.lemmas.List.{length-map}
use Rattle.sys_guests.proofs.Powering.{map_at}
use Rattle.sys_system.proofs.Copying.{all_given, few_blocks, next_given, none_given, size_at, there}
use Rattle.sys_system.proofs.given.volumes_of.Goals as goal

pub loop-place-init : goal.loop-place-init
loop-place-init c = none_given c.args.rows.now (map (λ b. b.items) c.args.given.now) c.in_ok-volumes.volumes c.requires.sizes (c.in_ok-volumes.ensures.sizes ∙ c.deref.ensures.value ∙ c.in_ok-sizes.ensures)

pub write_blocks-requires-clause-volume : goal.write_blocks-requires-clause-volume
write_blocks-requires-clause-volume c =
    let given = map (λ b. b.items) c.args.given.now in
    there c.loop-place.place given c.loop-place.volumes (omega (arith, c.loop-place-test.true, length-map c.args.given.now (λ b. b.items))) c.loop-place.invariant

pub write_blocks-requires-clause-size : goal.write_blocks-requires-clause-size
write_blocks-requires-clause-size c =
    let given = map (λ b. b.items) c.args.given.now in
    let read = map_at (λ b. b.items) c.args.given.now c.loop-place.place c.index-given-place.result c.loop-place-test.true c.index-given-place.is in
    size_at c.loop-place.place given c.loop-place.volumes c.index-given-place.result.items (omega (arith, c.loop-place-test.true, length-map c.args.given.now (λ b. b.items))) read c.loop-place.invariant ∙ ap length (sym c.deref-in-loop-place.ensures.value)

pub write_blocks-requires-clause-few : goal.write_blocks-requires-clause-few
write_blocks-requires-clause-few c =
    let given = map (λ b. b.items) c.args.given.now in
    let read = map_at (λ b. b.items) c.args.given.now c.loop-place.place c.index-given-place.result c.loop-place-test.true c.index-given-place.is in
    let few = few_blocks c.args.rows.now given c.loop-place.place c.index-given-place.result.items c.requires.rows c.requires.sizes (omega (arith, c.loop-place-test.true, length-map c.args.given.now (λ b. b.items))) read in
    omega (arith, few, ap length c.deref-in-loop-place.ensures.value)

pub loop-place-preserved : goal.loop-place-preserved
loop-place-preserved c =
    let given = map (λ b. b.items) c.args.given.now in
    let read = map_at (λ b. b.items) c.args.given.now c.loop-place.place c.index-given-place.result c.loop-place-test.true c.index-given-place.is in
    next_given c.loop-place.place given c.loop-place.volumes c.write_blocks.new.volumes c.index-given-place.result.items (omega (arith, c.loop-place-test.true, length-map c.args.given.now (λ b. b.items))) read c.loop-place.invariant (c.write_blocks.ensures ∙ ap (slice_set c.loop-place.volumes c.loop-place.place) c.deref-in-loop-place.ensures.value)

pub returns : goal.returns
returns c = all_given c.loop-place.place (map (λ b. b.items) c.args.given.now) c.loop-place.volumes (omega (arith, c.loop-place-test.false, length-map c.args.given.now (λ b. b.items))) c.loop-place.invariant
