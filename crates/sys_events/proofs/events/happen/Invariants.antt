use Rattle.std.proofs.Common.{ℕ, List, take}
use Rattle.sys_events.specs.Happens.{Happen}
use Rattle.sys_guests.specs.Kernel.{kernel_state, scene}
use Rattle.sys_guests.specs.Present.{KeepsAll}
use Rattle.sys_state.specs.FirstTouches.{touches_of_events}
use Rattle.sys_events.proofs.events.happen.Given as goal

-- the events so far have happened
abbrev pub invariant-loop-event : goal.invariant-loop-event
invariant-loop-event g l =
    let machine = g.H.Hardware.machine in
    record {
      happen : Happen l.round (take l.event-index l.events) (scene (machine l.fn.machine) l.fn.kernel (g.L.Lines.lines l.fn.lines)) (scene (machine l.machine) l.kernel (g.L.Lines.lines l.lines));
      present : (volumes : List (List (List ℕ))) → KeepsAll (touches_of_events l.fn.kernel.config l.round (kernel_state (machine l.fn.machine).memory l.fn.kernel volumes) (take l.event-index l.events)) l.fn.kernel.guests.items l.kernel.guests.items;
    }
