use Rattle.std.proofs.Common.{◌≡◌}
use Rattle.sys_devices.proofs.Lists.{from_on}
use Rattle.sys_state.specs.Events.{is_named}
use Rattle.sys_state.specs.Places.{place_of}
use Rattle.sys_events.proofs.consoles.terminal_named.Given as goal

abbrev pub invariant-loop-place : goal.invariant-loop-place
invariant-loop-place l = place_of (is_named l.name) l.terminals ≡ from_on (is_named l.name) l.terminals l.place
