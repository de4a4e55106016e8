use Rattle.std.proofs.Common.{List, sum}
use Rattle.sys_system.specs.Calls.{Plays}
use Rattle.sys_system.specs.System.{IsSystem}
use Rattle.sys_state.specs.Slices.{Slice}
use Rattle.sys_system.proofs.system.System.make_round.Given as goal

abbrev pub invariant-loop-one : goal.invariant-loop-one
invariant-loop-one g l =
    let machine = g.H.Hardware.machine in
    record {
      plays : (xs : List Slice) × Plays xs (machine l.initial.machine) l.initial.self (g.L.Lines.lines l.initial.lines) (machine l.machine) l.self (g.L.Lines.lines l.lines);
      holds : IsSystem l.self;
    }

abbrev pub decreases-loop-one : goal.decreases-loop-one
decreases-loop-one g l = sum l.self.turns.left
