use Rattle.std.proofs.Common.{drop}
use Rattle.sys_devices.proofs.Puts.{IsBut}
use Rattle.sys_output.specs.Parts.{unit_bytes}
use Rattle.sys_output.proofs.server.put_units.Given as goal

-- all is shown but for the units that are left
abbrev pub invariant-loop-mount : goal.invariant-loop-mount
invariant-loop-mount g l = IsBut (g.O.Sink.printed l.fn.out) (g.O.Sink.printed l.out) (unit_bytes (drop l.mount-index l.units)) (unit_bytes l.units)
