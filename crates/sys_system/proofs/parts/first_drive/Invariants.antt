use Rattle.std.proofs.Common.{◌≡◌}
use Rattle.sys_devices.proofs.Lists.{from_on}
use Rattle.sys_state.specs.Places.{place_of}
use Rattle.sys_system.proofs.parts.first_drive.Given as goal

abbrev pub invariant-loop-drive : goal.invariant-loop-drive
invariant-loop-drive l = place_of (λ b. b) l.drives ≡ from_on (λ b. b) l.drives l.drive
