use Rattle.std.proofs.Common.{◌+◌}
use Rattle.sys_runs.proofs.Splitting.{Spent}
use Rattle.sys_runs.specs.Rounds.{MakesRounds}
use Rattle.sys_system.specs.System.{IsSystem}
use Rattle.sys_runs.proofs.rounds.make_rounds.Given as goal

abbrev pub invariant-loop-made : goal.invariant-loop-made
invariant-loop-made g l =
    let machine = g.H.Hardware.machine in
    record {
      spent : Spent (l.before + l.made) l.events l.rest;
      makes : MakesRounds l.made l.events (machine l.fn.machine) l.fn.system (g.L.Lines.lines l.fn.lines) (machine l.machine) l.system (g.L.Lines.lines l.lines);
      holds : IsSystem l.system;
    }
