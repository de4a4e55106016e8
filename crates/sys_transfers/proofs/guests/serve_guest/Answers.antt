use Rattle.std.proofs.Common.{◌∙◌, arith, refl}
use Rattle.sys_transfers.proofs.Queues.{all_packets_served, all_packets_shown, mounted_still, none_served, one_more, packet_inside}
use Rattle.sys_transfers.proofs.guests.serve_guest.Goals as goal

pub loop-packet-init : goal.loop-packet-init
loop-packet-init g c = record { so_far = none_served c.args.config.now c.args.row.now c.args.units.now c.args.volumes.now (g.H.Hardware.machine c.args.machine.now) c.args.guest.now c.args.marks.now _ c.take_queue-queue.new.self c.requires.stands c.take_queue-queue.ensures.turns }

pub serve-job-requires-clause-stands : goal.serve-job-requires-clause-stands
serve-job-requires-clause-stands g c = c.loop-packet.invariant.so_far.becomes.stands

pub serve-job-requires-clause-inside : goal.serve-job-requires-clause-inside
serve-job-requires-clause-inside g c = packet_inside c.args.config.now c.args.row.now c.args.units.now c.args.volumes.now (g.H.Hardware.machine c.args.machine.now) c.args.guest.now c.args.marks.now _ c.loop-packet.packet-index c.loop-packet.volumes (g.H.Hardware.machine c.loop-packet.machine) c.loop-packet.guest c.loop-packet.marks _ c.as_slice-packet-items.result.now _ c.requires.stands (c.as_slice-packet-items.ensures.value ∙ c.take_queue-queue.ensures.packets) (omega arith) c.loop-packet.invariant.so_far

pub serve-job-requires-clause-mounted : goal.serve-job-requires-clause-mounted
serve-job-requires-clause-mounted g c = mounted_still c.args.units.now c.args.volumes.now c.loop-packet.volumes c.loop-packet.invariant.so_far.sizes_are c.requires.mounted

pub loop-packet-preserved : goal.loop-packet-preserved
loop-packet-preserved g c = record {
  so_far = one_more c.args.config.now c.args.row.now c.args.units.now c.args.volumes.now (g.H.Hardware.machine c.args.machine.now) c.args.guest.now c.args.marks.now _ c.loop-packet.packet-index c.loop-packet.volumes c.serve-job.new.volumes (g.H.Hardware.machine c.loop-packet.machine) c.loop-packet.guest c.loop-packet.marks _ c.as_slice-packet-items.result.now _ _ c.serve-job.result (g.H.Hardware.machine c.serve-job.new.machine) c.serve-job.new.guest c.print_job_on.new.marks _ c.requires.stands (c.as_slice-packet-items.ensures.value ∙ c.take_queue-queue.ensures.packets) (omega arith) refl c.loop-packet.invariant.so_far c.serve-job.ensures c.print_job_on.ensures;
}

pub returns-clause-serves : goal.returns-clause-serves
returns-clause-serves g c = all_packets_served c.args.config.now c.args.row.now c.args.units.now c.args.volumes.now (g.H.Hardware.machine c.args.machine.now) c.args.guest.now c.args.marks.now _ c.loop-packet.packet-index c.loop-packet.volumes (g.H.Hardware.machine c.loop-packet.machine) c.loop-packet.guest c.loop-packet.marks _ c.as_slice-packet-items.result.now (c.as_slice-packet-items.ensures.value ∙ c.take_queue-queue.ensures.packets) (omega arith) c.loop-packet.invariant.so_far

pub returns-clause-shows : goal.returns-clause-shows
returns-clause-shows g c = all_packets_shown c.args.config.now c.args.row.now c.args.units.now c.args.volumes.now (g.H.Hardware.machine c.args.machine.now) c.args.guest.now c.args.marks.now _ c.loop-packet.packet-index c.loop-packet.volumes (g.H.Hardware.machine c.loop-packet.machine) c.loop-packet.guest c.loop-packet.marks _ c.as_slice-packet-items.result.now (c.as_slice-packet-items.ensures.value ∙ c.take_queue-queue.ensures.packets) (omega arith) c.loop-packet.invariant.so_far
