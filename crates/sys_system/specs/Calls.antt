-- What the calls of the system do.
use Rattle.std.specs.Prelude.{ℕ, ◌≡◌, ◌≤◌, ◌<◌, ◌+◌, List, length, slice_index, All, true, false}
use Rattle.std.specs.List.{slice_get}
use Rattle.vax_hw.specs.Machine.{Machine}
use Rattle.vv_io.specs.Blocks.{SeenDrive}
use Rattle.vv_io.specs.Lines.{Seen}
use Rattle.sys_devices.specs.Stores.{StoresToDrives}
use Rattle.sys_guests.specs.Changes.{Retires}
use Rattle.sys_guests.specs.Layout.{OnlyGuests, guests_in}
use Rattle.sys_guests.specs.Present.{PaysAll}
use Rattle.sys_devices.specs.Shows.{Shows}
use Rattle.sys_system.specs.System.{IsInMachine, System, after_slice, all_turns, no_round, system_state}
use Rattle.sys_state.specs.Bytes.{dump_on}
use Rattle.sys_state.specs.Counts.{added, round_tally, slices_tally, tally_by}
use Rattle.sys_state.specs.Events.{events}
use Rattle.sys_state.specs.FirstTouches.{touches_of_round}
use Rattle.sys_state.specs.Run.{round}
use Rattle.sys_state.specs.SlicedTouches.{touches_of_slices}
use Rattle.sys_state.specs.Slices.{Slice, sliced, slices, total}
use Rattle.sys_state.specs.State.{SystemState, Went, bytes_on}
use Rattle.sys_state.specs.Transfers.{transfers}
use Rattle.sys_script.specs.declared.event.Event.{Event}
use Rattle.vm_stepping.specs.Made.{tally_of}

-- events of a round
abbrev pub AreOf : ℕ → List Event → Type 0
AreOf round es = All (λ e. e.round ≡ round) es

-- What is done leads to this state, and each line is shown its bytes. The guests are in the machine still; beyond them and
-- their real tables no byte of it changes.
pub record LeadsToState (w : Went SystemState) (m : Machine) (s : System) (lines : List Seen) (m' : Machine) (s' : System) (lines' : List Seen) : Type 0 where
  pub state : system_state m'.memory s' ≡ w.now
  pub shows : Shows s.marks s'.marks lines lines' (λ k. bytes_on k w.puts)
  pub stands : IsInMachine m'.memory s'
  pub only : OnlyGuests s.config.guests m.memory m'.memory
  pub size : length m'.memory ≡ length m.memory

-- A round begins: its events happen, and each guest has its quantum.
pub record BeginsRound (es : List Event) (m : Machine) (s : System) (lines : List Seen) (m' : Machine) (s' : System) (lines' : List Seen) : Type 0 where
  pub system : s' ≡ record s { connected = s'.connected; mounts = s'.mounts; guests = s'.guests; turns = all_turns s.config.guests; rounds = s.rounds + 1; marks = s'.marks }
  pub goes : LeadsToState (events s.config (s.rounds + 1) (system_state m.memory s) es) m s lines m' s' lines'
  pub machine : m' ≡ record m { memory = m'.memory }

-- A round is begun, and the guest has at least the slice's steps left.
pub record CanTake (s : System) (x : Slice) : Type 0 where
  pub begun : s.turns.is_begun ≡ true
  pub there : x.guest < length s.guests
  pub left : x.steps ≤ slice_index s.turns.left x.guest

-- the state after a slice
abbrev pub slice_of : Slice → List ℕ → System → Went SystemState
slice_of x memory s = record {
  now = record (system_state memory s) { guests = (sliced s.config.terminals s.connected x (guests_in memory s.guests)).now };
  puts = (sliced s.config.terminals s.connected x (guests_in memory s.guests)).puts;
}

-- A slice of one guest alone; its terminal's line is shown what it shows.
pub record TakesSlice (x : Slice) (m : Machine) (s : System) (lines : List Seen) (m' : Machine) (s' : System) (lines' : List Seen) : Type 0 where
  pub system : s' ≡ record s { guests = s'.guests; turns = after_slice s.turns x; counts = s'.counts; marks = s'.marks }
  pub goes : LeadsToState (slice_of x m.memory s) m s lines m' s' lines'
  pub counts : tally_of s'.counts ≡ added (tally_of s.counts) (tally_by x.steps (slice_get (guests_in m.memory s.guests) x.guest))
  pub retires : Retires m m' (tally_by x.steps (slice_get (guests_in m.memory s.guests) x.guest))

-- A round ends with its transfers.
pub record EndsRound (m : Machine) (s : System) (lines : List Seen) (m' : Machine) (s' : System) (lines' : List Seen) : Type 0 where
  pub system : s' ≡ record s { guests = s'.guests; volumes = s'.volumes; turns = no_round s.turns; marks = s'.marks }
  pub goes : LeadsToState (transfers s.config (system_state m.memory s)) m s lines m' s' lines'
  pub machine : m' ≡ record m { memory = m'.memory }

-- A whole round: its events, then each guest's quantum of steps, taken alone, then its transfers. First touches count at least
-- what the machine misses.
pub record MakesRound (es : List Event) (m : Machine) (s : System) (lines : List Seen) (m' : Machine) (s' : System) (lines' : List Seen) : Type 0 where
  pub system : s' ≡ record s { connected = s'.connected; mounts = s'.mounts; guests = s'.guests; volumes = s'.volumes; turns = s'.turns; rounds = s.rounds + 1; counts = s'.counts; marks = s'.marks }
  pub ended : s'.turns.is_begun ≡ false
  pub goes : LeadsToState (round s.config (s.rounds + 1) es (system_state m.memory s)) m s lines m' s' lines'
  pub counts : tally_of s'.counts ≡ added (tally_of s.counts) (round_tally s.config.guests (events s.config (s.rounds + 1) (system_state m.memory s) es).now.guests)
  pub retires : Retires m m' (round_tally s.config.guests (events s.config (s.rounds + 1) (system_state m.memory s) es).now.guests)
  pub pays : PaysAll (touches_of_round s.config (s.rounds + 1) es (system_state m.memory s)) m s.guests m' s'.guests

-- the dumps of all guests are shown, each on its line
pub record ShowsDumps (m : Machine) (s : System) (lines : List Seen) (s' : System) (lines' : List Seen) : Type 0 where
  pub system : s' ≡ record s { marks = s'.marks }
  pub shows : Shows s.marks s'.marks lines lines' (λ k. dump_on k s.config.guests (guests_in m.memory s.guests))

-- every block of every volume is stored to its drive
pub record StoresVolumes (s : System) (drives : List SeenDrive) (s' : System) (drives' : List SeenDrive) : Type 0 where
  pub system : s' ≡ record s { drives = s'.drives }
  pub stores : StoresToDrives s.config.volumes s.volumes s.drives s'.drives drives drives'

-- the dumps, and then the volumes
pub record PowersDown (m : Machine) (s : System) (lines : List Seen) (drives : List SeenDrive) (s' : System) (lines' : List Seen) (drives' : List SeenDrive) : Type 0 where
  pub system : s' ≡ record s { marks = s'.marks; drives = s'.drives }
  pub shows : Shows s.marks s'.marks lines lines' (λ k. dump_on k s.config.guests (guests_in m.memory s.guests))
  pub stores : StoresToDrives s.config.volumes s.volumes s.drives s'.drives drives drives'

-- Some slices of a round were made, one after another.
pub record Plays (xs : List Slice) (m : Machine) (s : System) (lines : List Seen) (m' : Machine) (s' : System) (lines' : List Seen) : Type 0 where
  pub system : s' ≡ record s { guests = s'.guests; turns = s'.turns; counts = s'.counts; marks = s'.marks }
  pub guests : guests_in m'.memory s'.guests ≡ (slices s.config.terminals s.connected xs (guests_in m.memory s.guests)).now
  pub shows : Shows s.marks s'.marks lines lines' (λ k. bytes_on k (slices s.config.terminals s.connected xs (guests_in m.memory s.guests)).puts)
  pub counts : tally_of s'.counts ≡ added (tally_of s.counts) (slices_tally xs (guests_in m.memory s.guests))
  pub retires : Retires m m' (slices_tally xs (guests_in m.memory s.guests))
  pub pays : PaysAll (touches_of_slices xs (guests_in m.memory s.guests)) m s.guests m' s'.guests
  pub left : (i : ℕ) → slice_index s'.turns.left i + total xs i ≡ slice_index s.turns.left i
  pub begun : s'.turns.is_begun ≡ true
  pub stands : IsInMachine m'.memory s'
  pub only : OnlyGuests s.config.guests m.memory m'.memory
  pub size : length m'.memory ≡ length m.memory
