use Rattle.std.proofs.Common.{◌*◌, ◌∙◌, None, Option, ap, arith, refl, sym}
use Rattle.sys_objects.specs.declared.records.Mount.{Mount}
use Rattle.sys_state.specs.Transfers.{Refused, to_print, to_read, to_write}
use Rattle.sys_transfers.specs.Serves.{packet_of}
use Rattle.sys_transfers.proofs.Moving.{refuses}
use Rattle.sys_transfers.proofs.Served.{asks_nothing, asks_to_print, asks_to_read, asks_to_write, carries_all, names_volume, no_job_read, no_job_written, prints_only}
use Rattle.vm_guest.specs.Kept.{guest_in}
use Rattle.sys_transfers.proofs.serving.carry.Goals as goal

pub read-requires-clause-mounted : goal.read-requires-clause-mounted
read-requires-clause-mounted g c = names_volume c.args.mounts.now c.args.p.now.unit c.mount_at-mount.result c.args.volumes.now c.mount_at-mount.ensures c.requires.mounted

pub write-requires-clause-mounted : goal.write-requires-clause-mounted
write-requires-clause-mounted g c = names_volume c.args.mounts.now c.args.p.now.unit c.mount_at-mount.result c.args.volumes.now c.mount_at-mount.ensures c.requires.mounted

pub returns-in-1 : goal.returns-in-1
returns-in-1 g c =
    let at = asks_to_read (512 * c.args.guest.now.state.pages) c.args.volumes.now c.args.mounts.now (packet_of c.args.p.now) c.in-1.is ∙ ap (λ (o : Option Mount). to_read (512 * c.args.guest.now.state.pages) c.args.volumes.now o (packet_of c.args.p.now)) (sym c.mount_at-mount.ensures) in
    carries_all c.args.row.now c.args.mounts.now (packet_of c.args.p.now) (to_read (512 * c.args.guest.now.state.pages) c.args.volumes.now c.mount_at-mount.result (packet_of c.args.p.now)) c.args.volumes.now c.args.volumes.now (g.H.Hardware.machine c.args.machine.now) c.args.guest.now c.read.result None (g.H.Hardware.machine c.read.new.machine) c.read.new.guest at c.read.ensures (no_job_read c.args.row.now (512 * c.args.guest.now.state.pages) c.args.volumes.now c.mount_at-mount.result (packet_of c.args.p.now) (guest_in (g.H.Hardware.machine c.args.machine.now).memory c.args.guest.now))

pub returns-in-2 : goal.returns-in-2
returns-in-2 g c =
    let at = asks_to_write (512 * c.args.guest.now.state.pages) c.args.volumes.now c.args.mounts.now (packet_of c.args.p.now) c.in-2.is ∙ ap (λ (o : Option Mount). to_write (512 * c.args.guest.now.state.pages) c.args.volumes.now o (packet_of c.args.p.now)) (sym c.mount_at-mount.ensures) in
    carries_all c.args.row.now c.args.mounts.now (packet_of c.args.p.now) (to_write (512 * c.args.guest.now.state.pages) c.args.volumes.now c.mount_at-mount.result (packet_of c.args.p.now)) c.args.volumes.now c.write.new.volumes (g.H.Hardware.machine c.args.machine.now) c.args.guest.now c.write.result None (g.H.Hardware.machine c.args.machine.now) c.args.guest.now at c.write.ensures (no_job_written c.args.row.now (512 * c.args.guest.now.state.pages) c.args.volumes.now c.mount_at-mount.result (packet_of c.args.p.now) (guest_in (g.H.Hardware.machine c.args.machine.now).memory c.args.guest.now))

pub returns-in-3 : goal.returns-in-3
returns-in-3 g c = carries_all c.args.row.now c.args.mounts.now (packet_of c.args.p.now) (to_print (512 * c.args.guest.now.state.pages) (packet_of c.args.p.now)) c.args.volumes.now c.args.volumes.now (g.H.Hardware.machine c.args.machine.now) c.args.guest.now c.print.result.0 c.print.result.1 (g.H.Hardware.machine c.args.machine.now) c.args.guest.now (asks_to_print (512 * c.args.guest.now.state.pages) c.args.volumes.now c.args.mounts.now (packet_of c.args.p.now) c.in-3.is) (prints_only c.args.row.now (512 * c.args.guest.now.state.pages) (packet_of c.args.p.now) c.args.volumes.now (g.H.Hardware.machine c.args.machine.now) c.args.guest.now c.print.result.0 c.print.result.1 c.requires.stands c.print.ensures) c.print.ensures.job_is

pub returns-in_default : goal.returns-in_default
returns-in_default g c = carries_all c.args.row.now c.args.mounts.now (packet_of c.args.p.now) (Refused 7) c.args.volumes.now c.args.volumes.now (g.H.Hardware.machine c.args.machine.now) c.args.guest.now 7 None (g.H.Hardware.machine c.args.machine.now) c.args.guest.now (asks_nothing (512 * c.args.guest.now.state.pages) c.args.volumes.now c.args.mounts.now (packet_of c.args.p.now) (λ e. omega (arith, e)) (λ e. omega (arith, e)) (λ e. omega (arith, e))) (refuses 7 (Refused 7) (packet_of c.args.p.now) c.args.volumes.now (g.H.Hardware.machine c.args.machine.now) c.args.guest.now c.requires.stands refl) refl
