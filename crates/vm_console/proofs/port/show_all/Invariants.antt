use Rattle.std.proofs.Common.{take}
use Rattle.vm_console.specs.Appends.{Appends}
use Rattle.vm_console.proofs.port.show_all.Given as goal

abbrev pub invariant-loop-byte : goal.invariant-loop-byte
invariant-loop-byte g l = Appends g.T.Port.may l.fn.port l.port (take l.byte-index l.bytes)
