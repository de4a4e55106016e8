use Rattle.sys_live.proofs.Making.{IsBetween, operator}
use Rattle.sys_system.specs.System.{IsSystem}
use Rattle.sys_live.proofs.session.make_typed.Given as goal

abbrev pub invariant-loop-made : goal.invariant-loop-made
invariant-loop-made g l =
    let machine = g.H.Hardware.machine in
    record {
      between : IsBetween l.made l.count (operator (g.K.Keyboard.keys l.fn.keyboard) (g.K.Keyboard.keys l.keyboard) (g.E.Sink.printed l.fn.errors) (g.E.Sink.printed l.errors)) l.is_cut (machine l.fn.machine) (machine l.machine) l.fn.system l.system (g.L.Lines.lines l.fn.lines) (g.L.Lines.lines l.lines) l.screens.items (g.O.Sink.printed l.fn.out) (g.O.Sink.printed l.out);
      holds : IsSystem l.system;
    }
