use Rattle.std.proofs.Common.{◌≡◌, ◌+◌, drop, length, map}
use Rattle.std.specs.List.{All}
use Rattle.sys_guests.proofs.Entering.{ArePutIn}
use Rattle.sys_guests.proofs.LaidOut.{pages_in}
use Rattle.sys_guests.proofs.Resuming.{first_page}
use Rattle.sys_guests.specs.Loads.{HasFirst, MemoryAlone}
use Rattle.sys_snap.specs.Held.{snapshot_guest}
use Rattle.sys_guests.proofs.placing.place_guests.Given as goal

abbrev pub invariant-loop-snap : goal.invariant-loop-snap
invariant-loop-snap g l =
    let machine = g.H.Hardware.machine in
    record {
      put : ArePutIn l.rows (map snapshot_guest l.fn.snaps.items) (pages_in l.rows) (length l.guests.items) (first_page l.rows (length l.guests.items)) l.tables l.guests.items (machine l.machine).memory;
      left : l.snap-iterator.rest.items ≡ drop (length l.guests.items) l.fn.snaps.items;
      many : l.snap-iterator.rest.len + length l.guests.items ≡ length l.fn.snaps.items;
      first : All HasFirst l.guests.items;
      alone : MemoryAlone (machine l.fn.machine) (machine l.machine);
    }
