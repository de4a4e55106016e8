-- Each workload is one that a system can be run on.
use Rattle.std.proofs.Common.{◌≡◌, ℕ, ◌+◌, ◌%◌, List, [], ◌∷◌, length, map, refl, arith}
use Rattle.std.specs.List.{AllZip}
use Rattle.sys_store.specs.Blocks.{zero_volume}
use Rattle.sys_objects.specs.declared.records.VolumeRow.{VolumeRow}
use Rattle.vv_gen.specs.Accepted.{ImageFits, IsAccepted}
use Rattle.vv_gen.specs.Config.{all_guests, generated_config, generated_guest}
use Rattle.vv_gen.specs.Draws.{draw, draws_after}
use Rattle.vv_gen.specs.Image.{image_of, images_of}
use Rattle.vv_gen.specs.Volumes.{blocks_drawn, volumes_of}
use Rattle.vv_gen.specs.Workload.{workload_of}
use Rattle.vv_gen.proofs.Happening.{are_events}
use Rattle.vv_gen.proofs.Rows.{config_is}

length_image : (period : ℕ) → length (image_of period) ≡ 304
unfolding image_of
length_image period = refl

fitting : (period : ℕ → ℕ) (guests : List ℕ) → AllZip ImageFits (map generated_guest guests) (map (λ g. image_of (period g)) guests)
fitting period [] = tt
fitting period (g ∷ guests) = (omega (arith, length_image (period g)), fitting period guests)

pub images_fit : (draws : ℕ → ℕ) (slice : ℕ) → AllZip ImageFits (generated_config slice).guests (images_of draws)
unfolding generated_config images_of
images_fit draws slice = fitting (λ g. 600 + draws g % 1000) all_guests

pub blocks_fit : (draws : ℕ → ℕ) (slice : ℕ) → map length (volumes_of draws) ≡ map (λ (v : VolumeRow). v.blocks) (generated_config slice).volumes
unfolding generated_config all_guests volumes_of blocks_drawn zero_volume
blocks_fit draws slice = refl

pub accepted : (number : ℕ) → IsAccepted (workload_of number)
unfolding workload_of
accepted number =
    let slice : ℕ = 1 + draw number 0 % 1000 in
    record {
      config = config_is slice (omega arith) (omega arith);
      events = are_events (draws_after 4105 number);
      images = images_fit (draws_after 1 number) slice;
      volumes = blocks_fit (draws_after 9 number) slice;
    }
