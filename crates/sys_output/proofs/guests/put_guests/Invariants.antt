use Rattle.std.proofs.Common.{drop, take}
use Rattle.std.specs.Prelude.{All, flat_map}
use Rattle.sys_guests.specs.Layout.{guests_in}
use Rattle.sys_devices.proofs.Puts.{IsBut}
use Rattle.sys_snap.specs.Snap.{IsSound}
use Rattle.sys_snap.specs.Written.{guest_bytes}
use Rattle.vm_state.specs.State.{state_of}
use Rattle.sys_output.proofs.guests.put_guests.Given as goal

-- all is shown but for the guests that are left; the others are sound
abbrev pub invariant-loop-guest : goal.invariant-loop-guest
invariant-loop-guest g l =
    let guests = guests_in (g.H.Hardware.machine l.machine).memory l.guests in
    record {
      shown : IsBut (g.O.Sink.printed l.fn.out) (g.O.Sink.printed l.out) (flat_map guest_bytes (drop l.guest-index guests)) (flat_map guest_bytes guests);
      sound : All (λ k. IsSound (state_of k.state)) (take l.guest-index l.guests);
    }
