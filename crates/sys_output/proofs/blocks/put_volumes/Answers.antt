use Rattle.std.proofs.Common.{◌≡◌, ◌<◌, ◌∙◌, ℕ, List, [], ap, arith, length, refl, sym}
use Rattle.std.specs.Prelude.{All}
use Rattle.std.proofs.lemmas.List.Elements.{All-more}
use Rattle.sys_devices.proofs.Puts.{goes_on, hands_on, stops}
use Rattle.sys_objects.specs.declared.records.VolumeRow.{VolumeRow}
use Rattle.sys_store.specs.Blocks.{blocks_of}
use Rattle.sys_output.specs.Parts.{volume_bytes}
use Rattle.sys_output.proofs.Flat.{flat_next, holds_of_all}
use Rattle.sys_output.proofs.Reading.{as_many, has_size}
use Rattle.sys_output.proofs.blocks.put_volumes.Goals as goal

pub put_blocks-requires-clause-count : goal.put_blocks-requires-clause-count
put_blocks-requires-clause-count g c =
    has_size (λ (row : VolumeRow). row.blocks) c.args.volumes.now c.args.rows.now c.loop-place.place c.index-rows-place.result c.requires.sizes (omega (arith, c.loop-place-test.true))
    ∙ ap (λ (row : VolumeRow). row.blocks) (sym c.index-rows-place.is)

pub returns-in_err-put_blocks-clause-shown : goal.returns-in_err-put_blocks-clause-shown
returns-in_err-put_blocks-clause-shown g c =
    let volumes = c.args.volumes.now in
    let place = c.loop-place.place in
    let inside : place < length volumes = omega (arith, c.loop-place-test.true, as_many (λ (row : VolumeRow). row.blocks) volumes c.args.rows.now c.requires.sizes) in
    stops _ _ _ _ _ _ _ _ (hands_on _ c.from_residual.result c.from_residual.ensures.1) (flat_next volume_bytes volumes place [] (volume_bytes (blocks_of volumes place)) inside refl) c.loop-place.invariant.shown c.in_err-put_blocks.ensures.shown

pub loop-place-preserved : goal.loop-place-preserved
loop-place-preserved g c =
    let volumes = c.args.volumes.now in
    let place = c.loop-place.place in
    let inside : place < length volumes = omega (arith, c.loop-place-test.true, as_many (λ (row : VolumeRow). row.blocks) volumes c.args.rows.now c.requires.sizes) in
    record {
      shown = goes_on _ _ _ _ _ _ _ (flat_next volume_bytes volumes place [] (volume_bytes (blocks_of volumes place)) inside refl) c.loop-place.invariant.shown c.in_ok-put_blocks.ensures.shown;
      long = All-more (λ (blocks : List (List ℕ)). All (λ b. length b ≡ 512) blocks) volumes place [] inside c.loop-place.invariant.long c.in_ok-put_blocks.ensures.long;
    }

pub returns-clause-long : goal.returns-clause-long
returns-clause-long g c =
    let volumes = c.args.volumes.now in
    holds_of_all (λ (blocks : List (List ℕ)). All (λ b. length b ≡ 512) blocks) volumes c.loop-place.place (omega (arith, c.loop-place-test.false, as_many (λ (row : VolumeRow). row.blocks) volumes c.args.rows.now c.requires.sizes)) c.loop-place.invariant.long
