use Rattle.std.proofs.Common.{◌≡◌, arith, length}
use Rattle.vm_guest.specs.Kept.{guest_in}
use Rattle.sys_devices.proofs.Puts.{goes_on, hands_on, stops}
use Rattle.sys_output.proofs.Flat.{page_next}
use Rattle.sys_output.proofs.guests.put_memory.Goals as goal

pub returns-in_err-put : goal.returns-in_err-put
returns-in_err-put g c =
    let memory = (guest_in (g.H.Hardware.machine c.args.machine.now).memory c.args.guest.now).memory in
    let long : length c.loop-number.page ≡ 512 = omega arith in
    stops _ _ _ _ _ _ _ _ (hands_on _ c.from_residual.result c.from_residual.ensures.1) (page_next memory c.loop-number.number (length c.loop-number.page) c.fetch_into.new.bytes long c.fetch_into.ensures) c.loop-number.invariant c.in_err-put.ensures

pub loop-number-preserved : goal.loop-number-preserved
loop-number-preserved g c =
    let memory = (guest_in (g.H.Hardware.machine c.args.machine.now).memory c.args.guest.now).memory in
    let long : length c.loop-number.page ≡ 512 = omega arith in
    goes_on _ _ _ _ _ _ _ (page_next memory c.loop-number.number (length c.loop-number.page) c.fetch_into.new.bytes long c.fetch_into.ensures) c.loop-number.invariant c.in_ok-put.ensures
