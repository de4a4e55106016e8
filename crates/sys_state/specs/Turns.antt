-- The guests' turns of a round: each guest by itself takes its quantum of steps. There are no slices, and no machine is
-- shared.
use Rattle.std.specs.Prelude.{ℕ, suc, List, [], ◌∷◌, ◌++◌, Option}
use Rattle.sys_objects.specs.declared.records.Config.{Config}
use Rattle.sys_objects.specs.declared.records.GuestRow.{GuestRow}
use Rattle.sys_objects.specs.declared.records.Terminal.{Terminal}
use Rattle.sys_state.specs.Consoles.{console_of, on_console}
use Rattle.sys_state.specs.Guests.{alone}
use Rattle.sys_state.specs.Places.{beside_with}
use Rattle.sys_state.specs.State.{Put, SystemState, Went}
use Rattle.vm_state.specs.State.{Guest}

abbrev pub turn : GuestRow → Guest → Guest
turn row g = (alone row.quantum g).guest

abbrev pub turn_puts : List Terminal → List (Option ℕ) → ℕ → List GuestRow → List Guest → List Put
turn_puts ks os i (row ∷ rows) (g ∷ gs) = on_console (console_of ks os i) (alone row.quantum g).shown ++ turn_puts ks os (suc i) rows gs
turn_puts ks os i _ _ = []

abbrev pub turns : Config → SystemState → Went SystemState
turns c s = record { now = record s { guests = beside_with turn c.guests s.guests }; puts = turn_puts c.terminals s.connected 0 c.guests s.guests }
