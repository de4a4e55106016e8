use Rattle.std.proofs.Common.{◌≡◌}
use Rattle.sys_devices.proofs.Lists.{from_on}
use Rattle.sys_state.specs.Places.{place_of}
use Rattle.sys_objects.specs.Places.{is_at}
use Rattle.sys_system.proofs.consoles.first_guest.Given as goal

abbrev pub invariant-loop-place : goal.invariant-loop-place
invariant-loop-place l = place_of (λ row. is_at l.terminal row.console) l.rows ≡ from_on (λ row. is_at l.terminal row.console) l.rows l.place
