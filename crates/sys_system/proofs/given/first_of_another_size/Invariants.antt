use Rattle.std.proofs.Common.{◌≡◌, map}
use Rattle.sys_state.specs.Places.{beside_with}
use Rattle.sys_devices.proofs.Lists.{from_on}
use Rattle.sys_system.specs.Given.{first_of_another_size, is_another_size}
use Rattle.sys_system.proofs.given.first_of_another_size.Given as goal

abbrev pub invariant-loop-place : goal.invariant-loop-place
invariant-loop-place l = first_of_another_size l.rows (map (λ b. b.items) l.given) ≡ from_on (λ b. b) (beside_with is_another_size l.rows (map (λ b. b.items) l.given)) l.place
