use Rattle.std.proofs.Common.{drop, ◌*◌}
use Rattle.sys_devices.proofs.Puts.{IsBut}
use Rattle.vm_guest.specs.Kept.{guest_in}
use Rattle.sys_output.proofs.guests.put_memory.Given as goal

-- all is shown but for the pages that are left
abbrev pub invariant-loop-number : goal.invariant-loop-number
invariant-loop-number g l =
    let bytes = (guest_in (g.H.Hardware.machine l.machine).memory l.guest).memory in
    IsBut (g.O.Sink.printed l.fn.out) (g.O.Sink.printed l.out) (drop (512 * l.number) bytes) bytes
