use Rattle.std.proofs.Common.{◌≡◌, map}
use Rattle.sys_state.specs.Places.{beside_with}
use Rattle.sys_devices.proofs.Lists.{from_on}
use Rattle.sys_guests.specs.Loads.{first_misfit, is_misfit}
use Rattle.sys_guests.proofs.loading.first_misfit.Given as goal

abbrev pub invariant-loop-place : goal.invariant-loop-place
invariant-loop-place l = first_misfit l.rows (map (λ b. b.items) l.images) ≡ from_on (λ b. b) (beside_with is_misfit l.rows (map (λ b. b.items) l.images)) l.place
