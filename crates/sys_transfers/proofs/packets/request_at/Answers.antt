use Rattle.vm_guest.specs.Kept.{guest_in}
use Rattle.sys_transfers.proofs.Moving.{packet_read}
use Rattle.sys_transfers.proofs.packets.request_at.Goals as goal

pub returns : goal.returns
returns g c = packet_read (guest_in (g.H.Hardware.machine c.args.machine.now).memory c.args.guest.now).memory c.fetch_into.new.bytes c.args.at _ _ _ _ _ c.fetch_into.ensures c.get_u32.ensures c.get_u32-2.ensures c.get_u32-3.ensures c.get_u32-4.ensures c.get_u32-5.ensures
