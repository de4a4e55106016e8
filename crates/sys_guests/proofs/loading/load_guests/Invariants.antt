use Rattle.std.proofs.Common.{map}
use Rattle.std.specs.List.{All, sum_by}
use Rattle.sys_guests.proofs.Entering.{ArePutIn}
use Rattle.sys_guests.specs.Loads.{HasFirst, MemoryAlone}
use Rattle.sys_state.specs.Guests.{powered}
use Rattle.sys_state.specs.Places.{beside_with}
use Rattle.sys_guests.proofs.loading.load_guests.Given as goal

abbrev pub invariant-loop-place : goal.invariant-loop-place
invariant-loop-place g l =
    let machine = g.H.Hardware.machine in
    record {
      loaded : ArePutIn l.rows (beside_with powered l.rows (map (λ b. b.items) l.images)) (sum_by (λ row. row.pages) l.rows) l.place l.base l.tables l.guests.items (machine l.machine).memory;
      first : All HasFirst l.guests.items;
      alone : MemoryAlone (machine l.fn.machine) (machine l.machine);
    }
