-- Misses of the machine are of first touches. At each moment of a step the misses so far, with the touched pages that the
-- machine may miss yet, are at most what first touches count in the step; and what is present after it has real entries.
use Rattle.std.specs.Prelude.{◌≡◌, ℕ, ◌+◌, ◌<◌, ◌≤◌, Bool, true, List, [], Ok, Err, is_some}
use Rattle.vax_arch.specs.Fields.{is_valid}
use Rattle.vax_arch.specs.Walk.{page_of}
use Rattle.vax_arch.specs.declared.walk.Lookup.{Lookup}
use Rattle.vax_hw.specs.Machine.{Machine}
use Rattle.vax_hw.specs.Real.{machine_step}
use Rattle.vax_hw.specs.declared.world.Exit.TheVariants as exits
use Rattle.vax_table.specs.Interaction.{IsIn}
use Rattle.vax_table.specs.Troubles.{intent_of}
use Rattle.vm_simulation_laws.specs.Moves.{Drops, Moves}
use Rattle.vm_simulation_laws.specs.Present.{HasEntry, HasPresent, after_touches, to_miss}
use Rattle.vm_shadow.specs.Layout.{entry_number}
use Rattle.vm_shadow.specs.Shadowed.{Fits, Keeps, Shadowed, read_at, real_at}
use Rattle.vm_shadow.specs.StandsFor.{Fills, MakesTables, Serves, own_number}
use Rattle.vm_simulation_laws.specs.Laws.{place_here}
use Rattle.vm_simulation_laws.specs.Loaded.{RunsGuest}
use Rattle.vm_state.specs.Partition.{guest_of}
use Rattle.vm_state.specs.State.{Guest}
use Rattle.vm_state.specs.Step.{Stepped, Touched}
use Rattle.vm_state.specs.Touches.{Present, Touching, at_first, touching_reset, touching_step, touching_write}
use Rattle.vm_state.specs.declared.guest_state.GuestState.{GuestState}
use Rattle.vm_simulation_laws.specs.Touched.{AreFilled, touches_now}

-- A page that has an entry has a valid one.
abbrev pub EntriesAreValid : Type 0
EntriesAreValid = (pending opened memory : List ℕ) (s : Shadowed) (slot page : ℕ) → Keeps pending opened memory s → slot < 4 → HasEntry s slot page → is_valid (real_at memory s (entry_number slot page)) ≡ true

-- New shadow page tables have what is present at first: nothing.
abbrev pub NewTablesHavePresent : Type 0
NewTablesHavePresent = (g : GuestState) (at : ℕ) (m m' : Machine) (s : Shadowed) → MakesTables g at m m' s → HasPresent s (at_first (guest_of m'.memory g))

-- A touched page that may be missed is counted.
abbrev pub TouchesAreCounted : Type 0
TouchesAreCounted = (memory : List ℕ) (s : Shadowed) (x : Touched) (t : Touching) → Fits memory s → HasPresent s t.present → t.count + to_miss s x ≤ (after_touches x t).count

-- A page that is missed is one that may be missed.
abbrev pub MissesAreCounted : Type 0
MissesAreCounted = (opened : List ℕ) (m : Machine) (s : Shadowed) (g : GuestState) (va : ℕ) (write : Bool) → RunsGuest opened m s g → machine_step m ≡ Err (exits.NotValid va write) → 1 ≤ to_miss s (touches_now (guest_of m.memory g))

-- Once it is filled there is one less.
abbrev pub FilledPagesAreCounted : Type 0
FilledPagesAreCounted = (opened : List ℕ) (m : Machine) (s : Shadowed) (g : GuestState) (va pa : ℕ) (write : Bool) (seen : Lookup) (s' : Shadowed) → RunsGuest opened m s g → machine_step m ≡ Err (exits.NotValid va write) → place_here m.memory g (intent_of write) va ≡ Ok pa
    → Fills seen (own_number s (page_of va)) s s' → to_miss s' (touches_now (guest_of m.memory g)) + 1 ≤ to_miss s (touches_now (guest_of m.memory g))

-- What is filled stays so, in the same slots: a page may be filled besides, granted, opened or closed.
pub record KeepsFilled (s s' : Shadowed) : Type 0 where
  pub each : (n : ℕ) → is_some (read_at s n) ≡ true → is_some (read_at s' n) ≡ true
  pub slot : s'.slot ≡ s.slot
  pub held : s'.held ≡ s.held

abbrev pub FillsKeepFilled : Type 0
FillsKeepFilled = (seen : Lookup) (n : ℕ) (s s' : Shadowed) → Fills seen n s s' → KeepsFilled s s'

-- what such a change leaves
pub record StillHas (s s' : Shadowed) (p : Present) : Type 0 where
  pub has : HasPresent s p → HasPresent s' p
  pub fewer : (x : Touched) → to_miss s' x ≤ to_miss s x

abbrev pub FilledEntriesStay : Type 0
FilledEntriesStay = (s s' : Shadowed) (p : Present) → KeepsFilled s s' → StillHas s s' p

-- The pages that gave an instruction its bytes have real entries, once they are filled.
abbrev pub FoundPagesHaveEntries : Type 0
FoundPagesHaveEntries = (opened memory : List ℕ) (s : Shadowed) (g : GuestState) → Keeps [] opened memory s → Serves g s → AreFilled s (touches_now (guest_of memory g)).found → (page : ℕ) → IsIn page (touches_now (guest_of memory g)).found → HasEntry s s.slot page

-- A step: its pages have entries, and the kernel drops for what it writes and for its registers alone. What is present after it
-- has entries.
abbrev pub StepsKeepPresent : Type 0
StepsKeepPresent = (memory : List ℕ) (s : Shadowed) (g : GuestState) (x : Stepped) (t : Touching) (s' : Shadowed) → Keeps [] [] memory s → Serves g s → ((page : ℕ) → IsIn page x.touched.found → HasEntry s s.slot page) → Moves x.written x.guest.state.tables s s'
    → HasPresent s t.present → HasPresent s' (touching_step (guest_of memory g) x t).present

-- frames that are written from outside
abbrev pub WritesKeepPresent : Type 0
WritesKeepPresent = (memory : List ℕ) (s : Shadowed) (g : GuestState) (frames : List ℕ) (p : Present) (s' : Shadowed) → Keeps [] [] memory s → Serves g s → Moves frames (guest_of memory g).state.tables s s' → HasPresent s p → HasPresent s' (touching_write (guest_of memory g) frames p)

-- a reset, to a guest
abbrev pub ResetsKeepPresent : Type 0
ResetsKeepPresent = (s : Shadowed) (h : Guest) (frames : List ℕ) (p : Present) (s' : Shadowed) → Moves frames h.state.tables s s' → HasPresent s p → HasPresent s' (touching_reset h p)

-- work under the registers of the last switch
abbrev pub WritesAreMoves : Type 0
WritesAreMoves = (frames memory : List ℕ) (s s' : Shadowed) (g : GuestState) → Fits memory s' → Serves g s' → Drops frames s s' → Moves frames (guest_of memory g).state.tables s s'
