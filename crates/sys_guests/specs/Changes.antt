-- What happens to one of several guests in the machine: nothing happens to the others.
use Rattle.std.specs.Prelude.{ℕ, ◌≡◌, ◌+◌, ◌%◌, ◌^◌, List, [], length, Option, Some, None}
use Rattle.std.specs.List.{slice_get}
use Rattle.vax_hw.specs.Machine.{Machine}
use Rattle.sys_guests.specs.Layout.{AreInMachine, OnlyGuests, guests_in}
use Rattle.sys_objects.specs.declared.records.GuestRow.{GuestRow}
use Rattle.sys_state.specs.Counts.{tally_by}
use Rattle.sys_state.specs.Events.{message_of}
use Rattle.sys_state.specs.Guests.{alone, reset}
use Rattle.sys_state.specs.Slices.{Slice}
use Rattle.sys_state.specs.Places.{changed}
use Rattle.vm_guest.specs.Kept.{Kept}
use Rattle.vm_state.specs.Run.{Tally}
use Rattle.vm_state.specs.State.{Guest}
use Rattle.vm_stepping.specs.Made.{steps_in, tally_of}
use Rattle.vm_stepping.specs.declared.counts.Counts.{Counts}

-- The guest at a place is changed so. Of the machine's memory only the guests' own and their real tables change.
pub record ChangesOne (rows : List GuestRow) (place : ℕ) (f : Guest → Guest) (m : Machine) (ks : List Kept) (m' : Machine) (ks' : List Kept) : Type 0 where
  pub guests : guests_in m'.memory ks' ≡ changed f (guests_in m.memory ks) place
  pub stay : AreInMachine rows m'.memory ks'
  pub only : OnlyGuests rows m.memory m'.memory
  pub size : length m'.memory ≡ length m.memory

-- The guest at a place has other registers; its memory stays.
abbrev pub TakesStateAt : (place : ℕ) (f : Guest → Guest) (ks ks' : List Kept) → Type 0
TakesStateAt place f ks ks' = (rows : List GuestRow) (m : Machine) → AreInMachine rows m.memory ks → ChangesOne rows place f m ks m ks'

-- It starts, by its row.
abbrev pub StartsOne : (place : ℕ) (m : Machine) (ks : List Kept) (m' : Machine) (ks' : List Kept) → Type 0
StartsOne place m ks m' ks' = (rows : List GuestRow) (row : GuestRow) → AreInMachine rows m.memory ks → slice_get rows place ≡ Some row → ChangesOne rows place (reset row) m ks m' ks'

-- what it shows when it is stopped
abbrev pub StopShows : (place : ℕ) (ks : List Kept) (shown : List ℕ) → Type 0
StopShows place ks shown = (memory : List ℕ) → shown ≡ message_of (slice_get (guests_in memory ks) place)

-- the machine retired the plain steps of these, and their terms were added to its trail, both modulo 2^64
pub record Retires (m m' : Machine) (t : Tally) : Type 0 where
  pub retired : m'.retired % 2 ^ 64 ≡ (m.retired + t.plain) % 2 ^ 64
  pub trail : m'.trail % 2 ^ 64 ≡ (m.trail + t.trail) % 2 ^ 64

-- what n steps of a guest show
abbrev pub shown_in : ℕ → Option Guest → List ℕ
shown_in n None = []
shown_in n (Some g) = (alone n g).shown

-- It takes a slice of its turn, alone: its bytes are kept, its steps counted.
pub record AdvancesOne (x : Slice) (m : Machine) (ks : List Kept) (m' : Machine) (ks' : List Kept) (text : List ℕ) (c : Counts) : Type 0 where
  pub changes : (rows : List GuestRow) → AreInMachine rows m.memory ks → ChangesOne rows x.guest (λ g. (alone x.steps g).guest) m ks m' ks'
  pub shown : text ≡ shown_in x.steps (slice_get (guests_in m.memory ks) x.guest)
  pub counts : tally_of c ≡ tally_by x.steps (slice_get (guests_in m.memory ks) x.guest)
  pub steps : steps_in c ≡ x.steps
  pub retires : Retires m m' (tally_of c)
