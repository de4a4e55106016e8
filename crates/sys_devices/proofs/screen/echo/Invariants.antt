use Rattle.std.proofs.Common.{◌≡◌}
use Rattle.sys_devices.proofs.Looked.{AreLooked}
use Rattle.sys_devices.proofs.screen.echo.Given as goal

abbrev pub invariant-loop-screen : goal.invariant-loop-screen
invariant-loop-screen g l =
    let lines = g.L.Lines.lines l.fn.lines in
    record {
      looked : AreLooked lines l.fn.screens.items l.screen-items l.screen-index (g.O.Sink.printed l.fn.out) (g.O.Sink.printed l.out);
      stays : g.L.Lines.lines l.lines ≡ lines;
    }
