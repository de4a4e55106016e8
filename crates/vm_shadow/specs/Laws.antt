-- How the machine's translation relates to a guest's, by its shadow page tables.
use Rattle.std.specs.Prelude.{◌≡◌, ℕ, ◌+◌, ◌*◌, ◌^◌, ◌<◌, ◌⊎◌, Bool, true, false, List, [], Some, None, Result, Ok, Err, is_some}
use Rattle.vax_arch.specs.Ring.{ring_of}
use Rattle.vax_arch.specs.Walk.{page_of}
use Rattle.vax_arch.specs.declared.mode.Intent.{Intent}
use Rattle.vax_arch.specs.declared.mode.Mode.{Mode}
use Rattle.vax_hw.specs.RealTables.{access_judged, is_clear_in, place_in}
use Rattle.vax_table.specs.Interaction.{Absent, Cause, Past, Refusing, cause_of}
use Rattle.vm_shadow.specs.Layout.{real_tables}
use Rattle.vm_shadow.specs.Shadowed.{Keeps, Shadowed, read_at}
use Rattle.vm_shadow.specs.StandsFor.{IsPresent, Mirrors, Serves, own_number}
use Rattle.vm_state.specs.Partition.{guest_of}
use Rattle.vm_state.specs.Probe.{Answers, probed_byte}
use Rattle.vm_state.specs.Translation.{is_clear, walk_of}
use Rattle.vm_state.specs.declared.guest_state.GuestState.{GuestState}
use Rattle.vm_state.specs.declared.walk.Walk.{Walk}
use Rattle.vm_state.specs.declared.walk.Walk.TheVariants as walks

-- the place that a guest's walk gives an address, or why it gives none
abbrev pub guest_place : Walk → Result ℕ Cause
guest_place (walks.Frame pa entry table) = Ok pa
guest_place (walks.Fault f) = Err (cause_of f.not_valid)
guest_place walks.Beyond = Err Past

-- a place of the guest, in the machine
abbrev pub relocated : ℕ → Result ℕ Cause → Result ℕ Cause
relocated by (Ok place) = Ok (by + place)
relocated by (Err cause) = Err cause

abbrev pub HasNone : Result ℕ Cause → Type 0
HasNone (Ok place) = ⊥
HasNone (Err cause) = Unit {0}

-- The machine has the guest's answer, at a place moved by the guest's base; or it misses; or it refuses where the guest
-- has no place.
abbrev pub IsHeard : (base : ℕ) → (real own : Result ℕ Cause) → Type 0
IsHeard base real own = (real ≡ relocated (512 * base) own) ⊎ ((real ≡ Err Absent) ⊎ ((real ≡ Err Refusing) × HasNone own))

abbrev pub real_place : List ℕ → Shadowed → Mode → Intent → ℕ → Result ℕ Cause
real_place memory s m i va = place_in memory (real_tables s.at s.slot) (ring_of m) i va

abbrev pub own_place : List ℕ → GuestState → Mode → Intent → ℕ → Result ℕ Cause
own_place memory g m i va = guest_place (walk_of (guest_of memory g) va m i)

-- What is kept gives what the tables are, whatever is recorded, also while pages are opened.
abbrev pub MirrorsTheGuest : Type 0
MirrorsTheGuest = (opened : List ℕ) (memory : List ℕ) (s : Shadowed) (g : GuestState) → Keeps [] opened memory s → Serves g s → Mirrors memory s g

-- at every address, in every mode, also while pages are opened
abbrev pub HearsTheGuest : Type 0
HearsTheGuest = (opened : List ℕ) (memory : List ℕ) (s : Shadowed) (g : GuestState) (m : Mode) (i : Intent) (va : ℕ) → Keeps [] opened memory s → Serves g s → va < 2 ^ 32 →
    IsHeard s.base (real_place memory s m i va) (own_place memory g m i va)

-- A miss where the guest has a place is of an entry that isn't filled.
abbrev pub MissesEmptyEntries : Type 0
MissesEmptyEntries = (opened : List ℕ) (memory : List ℕ) (s : Shadowed) (g : GuestState) (m : Mode) (i : Intent) (va pa : ℕ) → Keeps [] opened memory s → Serves g s → va < 2 ^ 32 →
    real_place memory s m i va ≡ Err Absent → own_place memory g m i va ≡ Ok pa → read_at s (own_number s (page_of va)) ≡ None

-- An entry that is filled isn't missed.
abbrev pub FindsFilledEntries : Type 0
FindsFilledEntries = (opened : List ℕ) (memory : List ℕ) (s : Shadowed) (g : GuestState) (m : Mode) (i : Intent) (va pa : ℕ) → Keeps [] opened memory s → Serves g s → va < 2 ^ 32 →
    is_some (read_at s (own_number s (page_of va))) ≡ true → own_place memory g m i va ≡ Ok pa → real_place memory s m i va ≡ Ok (512 * s.base + pa)

-- A modify bit that is set for the machine is set for the guest.
abbrev pub MarksTheGuest : Type 0
MarksTheGuest = (opened : List ℕ) (memory : List ℕ) (s : Shadowed) (g : GuestState) (va : ℕ) → Keeps [] opened memory s → Serves g s → va < 2 ^ 32 →
    is_clear_in memory (real_tables s.at s.slot) va ≡ false → is_clear (guest_of memory g) va ≡ false

-- What PROBE finds in the real tables is what it finds in the guest's, and is plain.
abbrev pub ProbesTheGuest : Type 0
ProbesTheGuest = (opened : List ℕ) (memory : List ℕ) (s : Shadowed) (g : GuestState) (m : Mode) (i : Intent) (va : ℕ) (is_accessible : Bool) → Keeps [] opened memory s → Serves g s → va < 2 ^ 32 →
    access_judged memory (real_tables s.at s.slot) (ring_of m) i va ≡ Some is_accessible → probed_byte (guest_of memory g) va m i ≡ Answers is_accessible true

-- PROBE finds a page that is filled.
abbrev pub ProbesFilledEntries : Type 0
ProbesFilledEntries = (opened : List ℕ) (memory : List ℕ) (s : Shadowed) (g : GuestState) (m : Mode) (i : Intent) (va : ℕ) → Keeps [] opened memory s → Serves g s → va < 2 ^ 32 →
    is_some (read_at s (own_number s (page_of va))) ≡ true → IsPresent (guest_of memory g) (page_of va) → is_some (access_judged memory (real_tables s.at s.slot) (ring_of m) i va) ≡ true
