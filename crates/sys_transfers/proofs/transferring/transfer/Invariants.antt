use Rattle.std.proofs.Common.{◌≡◌}
use Rattle.sys_transfers.proofs.Rounds.{SoFar}
use Rattle.sys_transfers.proofs.transferring.transfer.Given as goal

abbrev pub invariant-loop-place : goal.invariant-loop-place
invariant-loop-place g l =
    let machine = g.H.Hardware.machine in
    record {
      so_far : SoFar l.fn.kernel l.fn.volumes (machine l.fn.machine) (g.L.Lines.lines l.fn.lines) l.place l.volumes (machine l.machine) l.kernel.guests.items l.kernel.marks (g.L.Lines.lines l.lines);
      rest : l.kernel ≡ record l.fn.kernel { guests = l.kernel.guests; marks = l.kernel.marks };
    }
