use Rattle.sys_transfers.proofs.Queues.{SoFar}
use Rattle.sys_transfers.proofs.guests.serve_guest.Given as goal

abbrev pub invariant-loop-packet : goal.invariant-loop-packet
invariant-loop-packet g l =
    let machine = g.H.Hardware.machine in
    record {
      so_far : SoFar l.config l.row l.units l.fn.volumes (machine l.fn.machine) l.fn.guest l.fn.marks (g.L.Lines.lines l.fn.lines) l.packet-index l.volumes (machine l.machine) l.guest l.marks (g.L.Lines.lines l.lines);
    }
