use Rattle.std.proofs.Common.{◌≡◌, ◌-◌, drop, slice_index_or}
use Rattle.vv_io.specs.Lines.{unseen}
use Rattle.sys_devices.specs.Echo.{echo_of}
use Rattle.sys_devices.specs.Screens.{IsLineKnown, IsSameScreen, IsScreenWithin, shown_if_known}
use Rattle.sys_devices.proofs.Endings.{ending}
use Rattle.sys_devices.proofs.Parts.{IsPart}
use Rattle.sys_devices.proofs.screen.echo_one.Given as goal

-- all is put but for what is left from the place seen on
abbrev pub invariant-loop-screen : goal.invariant-loop-screen
invariant-loop-screen g l =
    let lines = g.L.Lines.lines l.fn.lines in
    let line = slice_index_or lines l.fn.screen.line unseen in
    record {
      same : IsSameScreen l.fn.screen l.screen;
      put : IsPart (IsLineKnown line) (g.O.Sink.printed l.fn.out) (g.O.Sink.printed l.out) (ending l.fn.screen.name l.is_begun (drop l.screen.seen (shown_if_known line.shown))) (echo_of l.fn.screen.name (drop l.fn.screen.seen (shown_if_known line.shown)));
      within : IsScreenWithin lines l.fn.screen → IsScreenWithin lines l.screen;
      stays : g.L.Lines.lines l.lines ≡ lines;
    }

abbrev pub decreases-loop-screen : goal.decreases-loop-screen
decreases-loop-screen g l = l.end - l.screen.seen
