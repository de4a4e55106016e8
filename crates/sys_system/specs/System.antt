-- The system as the kernel keeps it.
use Rattle.std.specs.Prelude.{ℕ, ◌≡◌, ◌≤◌, ◌+◌, ◌*◌, ◌-◌, ◌^◌, ◌<◌, nat_lt, List, map, length, drop, sum, slice_index, All, Bool, true, false, if◌then◌else◌, Option, Some, None, IfSome, option_map, position, min}
use Rattle.sys_guests.specs.Kernel.{AreUnits}
use Rattle.sys_guests.specs.Layout.{AreInMachine, guests_in}
use Rattle.sys_guests.specs.declared.turns.TimeSlice.{TimeSlice}
use Rattle.sys_objects.specs.Condition.{IsConfig}
use Rattle.sys_objects.specs.declared.records.Config.{Config}
use Rattle.sys_objects.specs.declared.records.GuestRow.{GuestRow}
use Rattle.sys_objects.specs.declared.records.Mount.{Mount}
use Rattle.sys_state.specs.Places.{changed}
use Rattle.sys_state.specs.Run.{Moment}
use Rattle.sys_state.specs.Slices.{Slice}
use Rattle.sys_state.specs.State.{SystemState}
use Rattle.vm_guest.specs.Kept.{Kept}
use Rattle.vm_stepping.specs.Made.{steps_in}
use Rattle.vm_stepping.specs.declared.counts.Counts.{Counts}

-- The turns of a round: the steps that each guest has left, the place at which the next is looked for, and whether a
-- round is begun.
pub record Turns : Type 0 where
  pub left : List ℕ
  pub from : ℕ
  pub is_begun : Bool

pub record System : Type 0 where
  pub config : Config
  -- by terminal, the guest whose console it is
  pub connected : List (Option ℕ)
  -- by guest and unit, what is mounted
  pub mounts : List (List (Option Mount))
  pub guests : List Kept
  -- by volume its blocks
  pub volumes : List (List (List ℕ))
  pub turns : Turns
  -- rounds begun
  pub rounds : ℕ
  -- of all slices
  pub counts : Counts
  -- the lines and the drives that have failed
  pub marks : List Bool
  pub drives : List Bool

-- the state that it stands for, with the machine's memory
abbrev pub system_state : List ℕ → System → SystemState
system_state memory s = record { connected = s.connected; mounts = s.mounts; guests = guests_in memory s.guests; volumes = s.volumes }

-- the moment at which it is, where no round is begun
abbrev pub moment_of : List ℕ → System → Moment
moment_of memory s = record { config = s.config; made = s.rounds; state = system_state memory s }

-- the invariant of a system
pub record IsSystem (s : System) : Type 0 where
  pub accepted : IsConfig s.config
  pub consoles : length s.connected ≡ length s.config.terminals
  pub seats : All (λ o. IfSome o (λ g. g < length s.config.guests)) s.connected
  pub units : length s.mounts ≡ length s.config.guests
  pub mounted : All (AreUnits (length s.config.volumes)) s.mounts
  pub volumes : map length s.volumes ≡ map (λ v. v.blocks) s.config.volumes
  pub many : length s.guests ≡ length s.config.guests
  pub beside : length s.turns.left ≡ length s.config.guests
  pub from : s.turns.from ≤ length s.turns.left
  pub few : All (λ n. n ≤ 100000) s.turns.left
  pub counted : steps_in s.counts + sum s.turns.left ≤ 1600000 * s.rounds
  pub trail : s.counts.trail < 2 ^ 64
  pub few_rounds : s.rounds ≤ 4000000000

-- its guests are laid out in the machine, and the real tables of each stand for its own
abbrev pub IsInMachine : List ℕ → System → Type 0
IsInMachine memory s = AreInMachine s.config.guests memory s.guests

-- a round begins with all quanta
abbrev pub all_turns : List GuestRow → Turns
all_turns rows = record { left = map (λ row. row.quantum) rows; from = 0; is_begun = true }

-- a guest took a slice's steps
abbrev pub after_slice : Turns → Slice → Turns
after_slice t x = record t { left = changed (λ n. n - x.steps) t.left x.guest; from = x.guest + 1 }

abbrev pub first_of : Option ℕ → Option ℕ → Option ℕ
first_of None b = b
first_of (Some a) b = Some a

-- the next guest with steps left, from a place on and round again
abbrev pub next_guest : ℕ → List ℕ → Option ℕ
next_guest from left = first_of (option_map (λ k. from + k) (position (λ n. nat_lt 0 n) (drop from left))) (position (λ n. nat_lt 0 n) left)

-- it takes a slice, or what it has left; there is none where no round is begun
abbrev pub next_slice : ℕ → Turns → Option Slice
next_slice slice t = if t.is_begun then option_map (λ g. record { guest = g; steps = min slice (slice_index t.left g) }) (next_guest t.from t.left) else None

abbrev pub NoneLeft : List ℕ → Type 0
NoneLeft left = (i : ℕ) → slice_index left i ≡ 0

abbrev pub no_round : Turns → Turns
no_round t = record t { is_begun = false }

abbrev pub slice_of_time : TimeSlice → Slice
slice_of_time t = record { guest = t.guest; steps = t.steps }
