use Rattle.std.proofs.Common.{◌<◌, arith, length, subst}
use Rattle.std.proofs.lemmas.List.Elements.{All-more}
use Rattle.vm_guest.specs.Kept.{Kept, guest_in}
use Rattle.vm_state.specs.State.{state_of}
use Rattle.sys_devices.proofs.Puts.{goes_on, hands_on, stops}
use Rattle.sys_snap.specs.Snap.{IsSound}
use Rattle.sys_snap.specs.Written.{guest_bytes}
use Rattle.sys_output.proofs.Flat.{flat_mapped, holds_of_all}
use Rattle.sys_output.proofs.guests.put_guests.Goals as goal

pub returns-in_err-put_guest-clause-shown : goal.returns-in_err-put_guest-clause-shown
returns-in_err-put_guest-clause-shown g c =
    let memory = (g.H.Hardware.machine c.args.machine.now).memory in
    let guests = c.args.guests.now in
    let inside : c.loop-guest.guest-index < length guests = omega (arith, c.loop-guest-test.true) in
    stops _ _ _ _ _ _ _ _ (hands_on _ c.from_residual.result c.from_residual.ensures.1) (flat_mapped guest_bytes (guest_in memory) guests c.loop-guest.guest-index c.guest-item.result inside c.guest-item.is) c.loop-guest.invariant.shown c.in_err-put_guest.ensures.shown

pub loop-guest-preserved : goal.loop-guest-preserved
loop-guest-preserved g c =
    let memory = (g.H.Hardware.machine c.args.machine.now).memory in
    let guests = c.args.guests.now in
    let inside : c.loop-guest.guest-index < length guests = omega (arith, c.loop-guest-test.true) in
    record {
      shown = goes_on _ _ _ _ _ _ _ (flat_mapped guest_bytes (guest_in memory) guests c.loop-guest.guest-index c.guest-item.result inside c.guest-item.is) c.loop-guest.invariant.shown c.in_ok-put_guest.ensures.shown;
      sound = All-more (λ (k : Kept). IsSound (state_of k.state)) guests c.loop-guest.guest-index c.guest-item.result inside c.loop-guest.invariant.sound (subst (λ (k : Kept). IsSound (state_of k.state)) c.guest-item.is c.in_ok-put_guest.ensures.sound);
    }

pub returns-clause-sound : goal.returns-clause-sound
returns-clause-sound g c = holds_of_all (λ (k : Kept). IsSound (state_of k.state)) c.args.guests.now c.loop-guest.guest-index (omega (arith, c.loop-guest-test.false)) c.loop-guest.invariant.sound
