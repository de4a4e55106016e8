use Rattle.std.proofs.Common.{◌≡◌, ◌∙◌, ℕ, ap, arith, drop, length, replicate, subst, None}
use Rattle.std.specs.Prelude.{All}
use Rattle.sys_snap.specs.Held.{ArePlacedSnapshots}
use Rattle.sys_snap.proofs.Placing.{placed_long, running_back, running_front}
use Rattle.sys_snap.proofs.reading.read_state.Goals as goal

pub running-running-requires : goal.running-running-requires
running-running-requires c =
    let guests = c.in_ok-guests.guests.items in
    let long : length guests ≡ length c.args.config.guests = placed_long 0 c.as_slice-3.result.now guests c.in_ok-guests.ensures.places ∙ ap length c.as_slice-3.ensures in
    omega (arith, long, c.requires.few_guests, ap length c.as_slice-5.ensures.value)

pub returns-clause-holds : goal.returns-clause-holds
returns-clause-holds c =
    let guests = c.in_ok-guests.guests.items in
    let rows = c.args.config.guests in
    let long : length guests ≡ length rows = placed_long 0 c.as_slice-3.result.now guests c.in_ok-guests.ensures.places ∙ ap length c.as_slice-3.ensures in
    let runs = rw c.as_slice-5.ensures.value at c.running-running.ensures in
    record {
      config = c.requires;
      terminals = c.in_ok-at.ensures.len;
      guests = c.in_ok-mounts.ensures.len;
      beyond = c.in_ok-at.ensures.beyond;
      unmounted = subst (λ (n : ℕ). All (λ units. units ≡ replicate 4 None) (drop n c.in_ok-mounts.mounts)) (ap length c.as_slice-2.ensures) c.in_ok-mounts.ensures.beyond;
      running = running_front guests (length rows) c.running-running.result long runs;
      stopped = running_back guests (length rows) c.running-running.result long runs;
      places = subst (λ rows. ArePlacedSnapshots 0 rows guests) c.as_slice-3.ensures c.in_ok-guests.ensures.places;
    }
