use Rattle.std.proofs.Common.{◌≡◌, ◌≤◌, ◌*◌, drop, map, take}
use Rattle.std.specs.List.{sum_by}
use Rattle.sys_snap.specs.Fronts.{after_front}
use Rattle.sys_snap.specs.Held.{ArePlacedSnapshots, snapshot_guest}
use Rattle.sys_snap.specs.Reader.{guest_reading}
use Rattle.sys_snap.specs.Reading.{each}
use Rattle.sys_snap.proofs.guests.read_guests.Given as goal

abbrev pub invariant-loop-row : goal.invariant-loop-row
invariant-loop-row l = record {
  few : l.base ≤ 2048 * l.row-index;
  sum : l.base ≡ sum_by (λ row. row.pages) (take l.row-index l.rows);
  left : after_front (map snapshot_guest l.guests.items) (each guest_reading (drop l.row-index l.rows) l.r) ≡ each guest_reading l.rows l.fn.r;
  placed : ArePlacedSnapshots 0 (take l.row-index l.rows) l.guests.items;
}
