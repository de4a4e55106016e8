-- What the code reads of a record, as the parts that are defined.
use Rattle.sys_snap.specs.Reader.{Bases, End, Levels, Queue, Registers}
use Rattle.sys_snap.specs.declared.devices.End.{End as CodeEnd}
use Rattle.sys_snap.specs.declared.devices.Queue.{Queue as CodeQueue}
use Rattle.sys_snap.specs.declared.registers.Bases.{Bases as CodeBases}
use Rattle.sys_snap.specs.declared.registers.Levels.{Levels as CodeLevels}
use Rattle.sys_snap.specs.declared.registers.Registers.{Registers as CodeRegisters}

abbrev pub registers_of : CodeRegisters → Registers
registers_of a = record { r = a.r; psl = a.psl.0; stacks = a.stacks }

abbrev pub bases_of : CodeBases → Bases
bases_of b = record { p0br = b.p0br; p0lr = b.p0lr; p1br = b.p1br; p1lr = b.p1lr; sbr = b.sbr; slr = b.slr; pcbb = b.pcbb; scbb = b.scbb }

abbrev pub levels_of : CodeLevels → Levels
levels_of l = record { astlvl = l.astlvl; sisr = l.sisr; mapped = l.mapen }

abbrev pub queue_of : CodeQueue → Queue
queue_of q = record { due = q.due; packets = q.packets.items }

abbrev pub end_of : CodeEnd → End
end_of e = record { waiting = e.waiting; halt = e.halt; steps = e.steps }
