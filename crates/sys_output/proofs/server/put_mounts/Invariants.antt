use Rattle.std.proofs.Common.{drop}
use Rattle.std.specs.Prelude.{flat_map}
use Rattle.sys_devices.proofs.Puts.{IsBut}
use Rattle.sys_output.specs.Parts.{unit_bytes}
use Rattle.sys_output.proofs.server.put_mounts.Given as goal

-- all is shown but for the guests that are left
abbrev pub invariant-loop-units : goal.invariant-loop-units
invariant-loop-units g l = IsBut (g.O.Sink.printed l.fn.out) (g.O.Sink.printed l.out) (flat_map unit_bytes (drop l.units-index l.mounts)) (flat_map unit_bytes l.mounts)
