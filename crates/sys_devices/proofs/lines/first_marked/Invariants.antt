use Rattle.std.proofs.Common.{◌≡◌}
use Rattle.sys_state.specs.Places.{place_of}
use Rattle.sys_devices.proofs.Lists.{from_on}
use Rattle.sys_devices.proofs.lines.first_marked.Given as goal

abbrev pub invariant-loop-line : goal.invariant-loop-line
invariant-loop-line l = place_of (λ b. b) l.marks ≡ from_on (λ b. b) l.marks l.line
