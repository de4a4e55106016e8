use Rattle.std.proofs.Common.{arith}
use Rattle.sys_transfers.proofs.Moving.{text_read}
use Rattle.vm_guest.specs.Kept.{guest_in}
use Rattle.sys_transfers.proofs.moves.job_of.Goals as goal

pub returns : goal.returns
returns g c = text_read c.args.row.now.class c.args.row.now.name (guest_in (g.H.Hardware.machine c.args.machine.now).memory c.args.guest.now) c.args.p.now.buffer c.args.p.now.size _ c.fetch_into.new.bytes c.print_job.result (omega arith) c.fetch_into.ensures c.print_job.ensures
