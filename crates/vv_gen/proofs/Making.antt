-- The parts of a workload, each drawn after the one before, make up the whole.
use Rattle.std.proofs.Common.{◌≡◌, ℕ, List, ◌∷◌, ◌+◌, ◌*◌, ◌%◌, map, replicate, ap, ◌∙◌, refl, sym, subst}
use Rattle.std.specs.List.{range_with_len}
use Rattle.sys_store.specs.Blocks.{zero_volume}
use Rattle.sys_script.specs.declared.event.Event.{Event}
use Rattle.vv_gen.specs.Accepted.{IsAccepted}
use Rattle.vv_gen.specs.Config.{generated_config}
use Rattle.vv_gen.specs.Draws.{next, after_draws, draw, draws_after}
use Rattle.vv_gen.specs.Events.{event_of, events_drawn}
use Rattle.vv_gen.specs.Image.{image_of, images_of}
use Rattle.vv_gen.specs.Volumes.{block_of, blocks_drawn, volumes_of}
use Rattle.vv_gen.specs.Workload.{Generated, workload_of}
use Rattle.vv_gen.proofs.Accepting.{accepted}
use Rattle.vv_gen.proofs.Ranges.{eight_guests}
use Rattle.vv_gen.proofs.Drawing.{after_one, next_draws, state_after}

pub made : (number a b d : ℕ) (w : Generated) → a ≡ next number → b ≡ after_draws a 8 → d ≡ after_draws b 4096
    → w.config ≡ generated_config (1 + draw number 0 % 1000) → w.images ≡ images_of (draw a) → w.volumes ≡ volumes_of (draw b) → w.events ≡ events_drawn (draw d) → w.rounds ≡ 20
    → w ≡ workload_of number
unfolding workload_of
made number a b d w one nine all config images volumes events rounds =
    let at_one : a ≡ after_draws number 1 = one ∙ after_one number in
    let at_nine : b ≡ after_draws number 9 = state_after number 1 8 9 a b at_one nine refl in
    let at_all : d ≡ after_draws number 4105 = state_after number 9 4096 4105 b d at_nine all refl in
    let same_images : w.images ≡ images_of (draws_after 1 number) = images ∙ ap images_of (next_draws number 1 a at_one) in
    let same_volumes : w.volumes ≡ volumes_of (draws_after 9 number) = volumes ∙ ap volumes_of (next_draws number 9 b at_nine) in
    let same_events : w.events ≡ events_drawn (draws_after 4105 number) = events ∙ ap events_drawn (next_draws number 4105 d at_all) in
    λ i. record { config = config i; images = same_images i; volumes = same_volumes i; events = same_events i; rounds = rounds i }

pub accepted_too : (number : ℕ) (w : Generated) → w ≡ workload_of number → IsAccepted w
accepted_too number w e = subst IsAccepted (sym e) (accepted number)

-- the ends of the loops
pub images_made : (draws : ℕ → ℕ) (n : ℕ) → n ≡ 8 → map (λ g. image_of (600 + draws g % 1000)) (range_with_len 0 n) ≡ images_of draws
unfolding images_of
images_made draws n e = ap (map (λ g. image_of (600 + draws g % 1000))) (eight_guests n e)

pub events_made : (x n : ℕ) → n ≡ 20 → map (λ before. event_of (before + 1) (draws_after (2 * before) x)) (range_with_len 0 n) ≡ events_drawn (draw x)
unfolding events_drawn
events_made x n e =
    let f : ℕ → List Event = λ n. map (λ before. event_of (before + 1) (draws_after (2 * before) x)) (range_with_len 0 n) in
    ap f e

pub blocks_made : (x n : ℕ) → n ≡ 8 → map (λ b. block_of (draws_after (512 * b) x)) (range_with_len 0 n) ≡ blocks_drawn (draw x)
unfolding blocks_drawn
blocks_made x n e =
    let f : ℕ → List (List ℕ) = λ n. map (λ b. block_of (draws_after (512 * b) x)) (range_with_len 0 n) in
    ap f e

pub block_made : (x n : ℕ) → n ≡ 512 → map (λ i. draw x i % 256) (range_with_len 0 n) ≡ block_of (draw x)
unfolding block_of
block_made x n e =
    let f : ℕ → List ℕ = λ n. map (λ i. draw x i % 256) (range_with_len 0 n) in
    ap f e

pub volumes_made : (draws : ℕ → ℕ) (n : ℕ) → n ≡ 8 → blocks_drawn draws ∷ replicate n (zero_volume 8) ≡ volumes_of draws
unfolding volumes_of
volumes_made draws n e =
    let f : ℕ → List (List (List ℕ)) = λ n. blocks_drawn draws ∷ replicate n (zero_volume 8) in
    ap f e
