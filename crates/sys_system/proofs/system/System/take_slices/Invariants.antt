use Rattle.std.proofs.Common.{map, take}
use Rattle.sys_system.specs.Calls.{Plays}
use Rattle.sys_system.specs.System.{IsSystem, slice_of_time}
use Rattle.sys_system.proofs.system.System.take_slices.Given as goal

abbrev pub invariant-loop-one : goal.invariant-loop-one
invariant-loop-one g l =
    let machine = g.H.Hardware.machine in
    record {
      plays : Plays (map slice_of_time (take l.one-index l.slices)) (machine l.initial.machine) l.initial.self (g.L.Lines.lines l.initial.lines) (machine l.machine) l.self (g.L.Lines.lines l.lines);
      holds : IsSystem l.self;
    }
