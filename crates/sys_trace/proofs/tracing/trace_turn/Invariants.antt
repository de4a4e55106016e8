use Rattle.std.proofs.Common.{◌≡◌}
use Rattle.std.specs.Prelude.{Some, slice_get}
use Rattle.sys_guests.specs.Layout.{guests_in}
use Rattle.sys_devices.specs.ShownSince.{ShownSince}
use Rattle.sys_system.specs.Calls.{Plays}
use Rattle.sys_system.specs.System.{IsSystem}
use Rattle.sys_trace.specs.Trace.{trace_of}
use Rattle.sys_trace.specs.Traced.{single_steps}
use Rattle.vm_state.specs.State.{Guest}
use Rattle.sys_trace.proofs.tracing.trace_turn.Given as goal

abbrev pub invariant-loop-made : goal.invariant-loop-made
invariant-loop-made g l =
    let machine = g.H.Hardware.machine in
    let printed = g.O.Sink.printed in
    record {
      plays : Plays (single_steps l.made) (machine l.fn.machine) l.fn.system (g.L.Lines.lines l.fn.lines) (machine l.machine) l.system (g.L.Lines.lines l.lines);
      shown : (h : Guest) → slice_get (guests_in (machine l.fn.machine).memory l.fn.system.guests) 0 ≡ Some h → ShownSince l.is_cut (printed l.fn.out) (printed l.out) (trace_of l.made h);
      holds : IsSystem l.system;
    }
