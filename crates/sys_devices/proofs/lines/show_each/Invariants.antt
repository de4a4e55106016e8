use Rattle.std.proofs.Common.{Some, take}
use Rattle.sys_devices.specs.Shows.{Shows, only_on}
use Rattle.sys_devices.proofs.lines.show_each.Given as goal

abbrev pub invariant-loop-byte : goal.invariant-loop-byte
invariant-loop-byte g l = Shows l.fn.marks l.marks (g.L.Lines.lines l.fn.lines) (g.L.Lines.lines l.lines) (only_on (Some l.line) (take l.byte-index l.bytes))
