use Rattle.std.proofs.Common.{ℕ, ◌∙◌, List, ◌++◌, ap, sym}
use Rattle.vm_guest.specs.Kept.{guest_in}
use Rattle.vm_state.specs.State.{state_of}
use Rattle.vm_state.specs.declared.guest_state.GuestState.{GuestState}
use Rattle.sys_devices.proofs.Puts.{begun, ends, goes_on}
use Rattle.sys_snap.specs.Written.{guest_bytes, guest_record_bytes}
use Rattle.sys_output.proofs.guests.put_guest.Goals as goal

pub returns-clause-shown : goal.returns-clause-shown
returns-clause-shown g c =
    let guest = guest_in (g.H.Hardware.machine c.args.machine.now).memory c.args.guest.now in
    let whole = guest_bytes guest in
    let start = g.O.Sink.printed c.args.out.now in
    let one = g.O.Sink.printed c.put.new.out in
    let written = c.guest_record.ensures.is ∙ ap (λ (s : GuestState). guest_record_bytes (state_of s)) c.state.ensures in
    let first = goes_on start start one whole c.guest_record.result guest.memory whole (ap (λ (bytes : List ℕ). bytes ++ guest.memory) (sym written)) (begun start whole) c.in_ok-put.ensures in
    ends _ start one _ guest.memory whole first c.put_memory.ensures
