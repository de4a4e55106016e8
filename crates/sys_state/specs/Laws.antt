-- The laws of schedules.
use Rattle.std.specs.Prelude.{ℕ, ◌≡◌, List, length}
use Rattle.sys_objects.specs.Condition.{IsConfig}
use Rattle.sys_objects.specs.declared.records.Config.{Config}
use Rattle.sys_objects.specs.declared.records.GuestRow.{GuestRow}
use Rattle.sys_state.specs.Counts.{round_tally, slices_tally}
use Rattle.sys_state.specs.FirstTouches.{touches_of_turns}
use Rattle.sys_state.specs.SlicedTouches.{touches_of_slices}
use Rattle.sys_state.specs.Slices.{AreQuanta, Slice, slices}
use Rattle.sys_state.specs.State.{SystemState, bytes_on}
use Rattle.sys_state.specs.Turns.{turns}
use Rattle.vm_state.specs.State.{Guest}
use Rattle.vm_state.specs.Touches.{Touching}

-- Slices in which each guest takes its quantum, in any order, leave the guests of the turns, and show each line its bytes.
abbrev pub AnySchedule : Type 0
AnySchedule = (c : Config) (s : SystemState) (xs : List Slice) → IsConfig c → length s.guests ≡ length c.guests → AreQuanta xs 0 c.guests
    → ((slices c.terminals s.connected xs s.guests).now ≡ (turns c s).now.guests) × ((line : ℕ) → bytes_on line (slices c.terminals s.connected xs s.guests).puts ≡ bytes_on line (turns c s).puts)

-- In all of them together there are as many steps of each kind as in the turns, and the trail is theirs.
abbrev pub SameCounts : Type 0
SameCounts = (rows : List GuestRow) (guests : List Guest) (xs : List Slice) → length guests ≡ length rows → AreQuanta xs 0 rows → slices_tally xs guests ≡ round_tally rows guests

-- They touch for the first time what the turns do.
abbrev pub SameTouches : Type 0
SameTouches = (rows : List GuestRow) (guests : List Guest) (xs : List Slice) (ts : List Touching) → length guests ≡ length rows → length ts ≡ length guests → AreQuanta xs 0 rows → touches_of_slices xs guests ts ≡ touches_of_turns rows guests ts
