-- The shadow page tables of a guest stand for its own.
use Rattle.std.specs.Prelude.{◌≡◌, ◌≢◌, ℕ, ◌+◌, ◌*◌, ◌/◌, ◌%◌, ◌^◌, ◌<◌, ◌≤◌, ◌==◌, ◌⊎◌, Bool, true, false, not, ◌&&◌, nat_le, List, [], ◌∷◌, length, IfSome, Option, Some, None, filter, slice_index, slice_set}
use Rattle.vax_arch.specs.Fields.{current_of, frame_of, is_modified, is_valid, mode_number, previous_of}
use Rattle.vax_arch.specs.Ring.{ring_of}
use Rattle.vax_arch.specs.Walk.{Tables, entry_at, with_modify}
use Rattle.vax_arch.specs.declared.walk.Lookup.{Lookup}
use Rattle.vax_arch.specs.declared.walk.Lookup.TheVariants as looks
use Rattle.vax_arch.specs.declared.pte.Pte.{Pte}
use Rattle.vax_hw.specs.Machine.{Machine}
use Rattle.vax_hw.specs.declared.world.World.{World}
use Rattle.vm_shadow.specs.Calls.{OnlyTables, unless_dropped}
use Rattle.vm_shadow.specs.Flags.{IsWithin}
use Rattle.vm_slots.specs.Held.{AreSlots, Held, LastGoes, brought_forward, contexts_of, others_held, slot_of, without}
use Rattle.vm_slots.specs.declared.context.Context.{Context}
use Rattle.vm_shadow.specs.Layout.{all_entries, empty_entry, entry_number, entry_slot, p0_base, p1_base}
use Rattle.vm_shadow.specs.Shadowed.{Fits, IsRight, IsSource, Keeps, Shadowed, is_flagged, is_read_from, mapped_frame, own, read_at, real_at, seen_at}
use Rattle.vm_shadow.specs.declared.source.Source.{Source}
use Rattle.vm_state.specs.Allowed.{AreAllowed}
use Rattle.vm_state.specs.Partition.{guest_of, partition_of}
use Rattle.vm_state.specs.Registers.{first_p1_page}
use Rattle.vm_state.specs.State.{Guest, context_of, state_of, tables_of}
use Rattle.vm_state.specs.Touches.{is_remapped}
use Rattle.vm_state.specs.Translation.{look, marked_by}
use Rattle.vm_state.specs.declared.guest_state.GuestState.{GuestState}

-- the guest is the one that is served, under the registers of the last switch
pub record Serves (g : GuestState) (s : Shadowed) : Type 0 where
  pub pages : s.pages ≡ g.pages
  pub base : s.base ≡ g.base
  pub told : s.told ≡ tables_of g

-- What the shadow page tables are to a guest, in memory, registers and contexts alone.
pub record Mirrors (memory : List ℕ) (s : Shadowed) (g : GuestState) : Type 0 where
  -- They lie where they may, for registers and contexts that they can stand for.
  pub fits : Fits memory s
  -- The registers are the guest's.
  pub serves : Serves g s
  -- Each real entry is empty, or is right for what the guest's tables have now.
  pub entries : (n : ℕ) → n < all_entries → (real_at memory s n ≡ empty_entry) ⊎ IsRight (512 * s.pages) s.base (own memory s) (seen_at memory s n) (real_at memory s n)

-- The shadow page tables stand for a guest's own, with nothing pending and nothing opened; the registers of the last switch are
-- the guest's; and its registers have values that they may have.
pub record StandsFor (memory : List ℕ) (s : Shadowed) (g : GuestState) : Type 0 where
  pub keeps : Keeps [] [] memory s
  pub serves : Serves g s
  pub allowed : AreAllowed (512 * g.pages) (state_of g)

-- A page of the guest is present: its entry is found and valid, and names a frame in memory. What the entry allows isn't
-- asked.
pub record IsPresent (g : Guest) (page : ℕ) : Type 0 where
  pub entry : ℕ
  pub has : entry_at g.memory (look g page) ≡ Some entry
  pub valid : is_valid entry ≡ true
  pub inside : 512 * frame_of entry + 512 ≤ length g.memory

-- the number of the real entry of a page, in the slot in use
abbrev pub own_number : Shadowed → ℕ → ℕ
own_number s page = entry_number s.slot page

-- A page is filled: its real entry is recorded with the frames that it was read from, and nothing else changes.
pub record Fills (seen : Lookup) (n : ℕ) (s s' : Shadowed) : Type 0 where
  pub source : Source
  pub is : IsSource seen source
  pub reads : s'.reads ≡ slice_set s.reads n (Some source)
  pub rest : s' ≡ record s { reads = s'.reads; consulted = s'.consulted; writable = s'.writable }

-- What was read from a frame is dropped, and nothing else is.
pub record DropsFrom (frame : ℕ) (s s' : Shadowed) : Type 0 where
  pub each : (n : ℕ) → read_at s' n ≡ unless_dropped (is_read_from frame (read_at s n)) (read_at s n)
  pub rest : s' ≡ record s { reads = s'.reads; consulted = s'.consulted }

-- A write of a frame is noted: what was read from it is dropped, so that it isn't pending any longer.
pub record Notes (frame : ℕ) (m : Machine) (s : Shadowed) (m' : Machine) (s' : Shadowed) : Type 0 where
  pub keeps : (pending opened : List ℕ) → Keeps (frame ∷ pending) opened m.memory s → Keeps pending opened m'.memory s'
  pub drops : DropsFrom frame s s'
  pub only : OnlyTables s.at m m'

-- nothing that is recorded of entries changes
abbrev pub IsAsBefore : Shadowed → Shadowed → Type 0
IsAsBefore s s' = s' ≡ record s { writable = s'.writable }

-- without an entry among those that are opened
abbrev pub closed_for : ℕ → List ℕ → List ℕ
closed_for n opened = filter (λ k. not (k == n)) opened

-- The real PSL under which a guest runs: VM is set, the modes are the guest's in the ring, and the status word is its own
-- (Hall and Robinson, Virtualizing the VAX Architecture, ISCA 1991).
abbrev pub real_psl : ℕ → ℕ
real_psl psl = 2 ^ 29 + mode_number (ring_of (current_of psl)) * 2 ^ 24 + mode_number (ring_of (previous_of psl)) * 2 ^ 22 + psl % 2 ^ 8

-- what a page's entry is, by its look-up, and where it was read from
abbrev pub IsPageEntry : (pages : ℕ) → (memory : List ℕ) → Lookup → Option (Pte × Source) → Type 0
IsPageEntry pages memory seen None = entry_at memory seen ≡ None
IsPageEntry pages memory seen (Some (entry, source)) = (entry_at memory seen ≡ Some entry.0) × IsSource seen source × IsWithin pages source

-- no page with a set modify bit maps a frame that a source has, and no more changed than modify bits
pub record Protects (source : Source) (m : Machine) (s : Shadowed) (m' : Machine) (s' : Shadowed) : Type 0 where
  pub keeps : Keeps [] [] m'.memory s'
  pub free : (k : ℕ) → k < all_entries → is_valid (real_at m'.memory s k) ≡ true → is_modified (real_at m'.memory s k) ≡ true → is_read_from (mapped_frame s (real_at m'.memory s k)) (Some source) ≡ false
  pub rest : s' ≡ record s { writable = s'.writable }
  pub only : OnlyTables s.at m m'

-- a page of the guest is filled
pub record FillsPage (page : ℕ) (g : GuestState) (m : Machine) (s : Shadowed) (m' : Machine) (s' : Shadowed) : Type 0 where
  pub stands : StandsFor m'.memory s' g
  pub fills : Fills (look (guest_of m.memory g) page) (own_number s page) s s'
  pub only : OnlyTables s.at m m'

-- An entry of the guest whose page was modified, and for which a real entry stands.
pub record HasModifiedPage (memory : List ℕ) (s : Shadowed) (n : ℕ) : Type 0 where
  pub filled : is_valid (real_at memory s n) ≡ true
  pub entry : ℕ
  pub has : entry_at (own memory s) (seen_at memory s n) ≡ Some entry
  pub modified : is_modified entry ≡ true

-- a page is opened for a guarded step: it may be written now without an exit
pub record OpensPage (n : ℕ) (m : Machine) (s : Shadowed) (m' : Machine) (s' : Shadowed) : Type 0 where
  pub keeps : (opened : List ℕ) → Keeps [] opened m.memory s → Keeps [] (n ∷ opened) m'.memory s'
  pub opens : is_modified (real_at m'.memory s n) ≡ true
  pub entry : real_at m'.memory s n ≡ with_modify (real_at m.memory s n)
  pub others : (k : ℕ) → k ≢ n → real_at m'.memory s k ≡ real_at m.memory s k
  pub rest : s' ≡ record s { writable = s'.writable }
  pub only : OnlyTables s.at m m'

-- writes to a page are granted for good
pub record GrantsPage (n : ℕ) (m : Machine) (s : Shadowed) (m' : Machine) (s' : Shadowed) : Type 0 where
  pub keeps : (opened : List ℕ) → Keeps [] opened m.memory s → Keeps [] opened m'.memory s'
  pub opens : is_modified (real_at m'.memory s n) ≡ true
  pub entry : real_at m'.memory s n ≡ with_modify (real_at m.memory s n)
  pub others : (k : ℕ) → k ≢ n → real_at m'.memory s k ≡ real_at m.memory s k
  pub rest : s' ≡ record s { writable = s'.writable }
  pub only : OnlyTables s.at m m'

-- whether writes to an entry's page can be granted: no entry may have been read from its frame
abbrev pub can_grant : List ℕ → Shadowed → ℕ → Bool
can_grant memory s n = not (is_flagged (mapped_frame s (real_at memory s n)) s.consulted)

-- granted, or left as it was
abbrev pub GrantsOrLeaves : Bool → (n : ℕ) → (m : Machine) → (s : Shadowed) → (m' : Machine) → (s' : Shadowed) → Type 0
GrantsOrLeaves true n m s m' s' = GrantsPage n m s m' s'
GrantsOrLeaves false n m s m' s' = (m' ≡ m) × (s' ≡ s)

-- a page is closed after a guarded step
pub record ClosesPage (n : ℕ) (m : Machine) (s : Shadowed) (m' : Machine) : Type 0 where
  pub keeps : (pending opened : List ℕ) → Keeps pending opened m.memory s → Keeps pending (closed_for n opened) m'.memory s
  pub closes : is_modified (real_at m'.memory s n) ≡ false
  pub others : (k : ℕ) → k ≢ n → real_at m'.memory s k ≡ real_at m.memory s k
  pub only : OnlyTables s.at m m'

-- Another context: SBR, SLR or mapping changed, so that no context stays; or the others stay, but for the last of four.
abbrev pub staying : Bool → Held → Held
staying true held = []
staying false held = held

-- whether an entry goes: all where SBR, SLR or mapping changed, else those in the slot of a context that goes
abbrev pub goes : (remapped evicted : Bool) → (slot n : ℕ) → Bool
goes true evicted slot n = true
goes false true slot n = nat_le 8192 n && entry_slot n == slot
goes false false slot n = false

abbrev pub is_full_for : Context → Held → Bool
is_full_for c held = length (without c held) == 4

-- what the list of contexts becomes, when one moves to the front and has this slot
pub record TakesSlot (c : Context) (held held' : Held) (slot : ℕ) : Type 0 where
  pub front : held' ≡ (c, slot) ∷ others_held c held
  pub kept : IfSome (slot_of c held) (λ own. slot ≡ own)
  pub gone : length (without c held) ≡ 4 → LastGoes held (others_held c held) slot
  pub before : AreSlots held
  pub after : AreSlots held'
  pub contexts : contexts_of held' ≡ brought_forward c (contexts_of held)

-- The tables switch to registers of page tables, new or the same: their context moves to the front of those that stay, which keep
-- their slots, and what a switch to it drops is dropped.
pub record Retells (t : Tables) (s s' : Shadowed) : Type 0 where
  pub takes : TakesSlot (context_of t) (staying (is_remapped s.told t) s.held) s'.held s'.slot
  pub each : (n : ℕ) → read_at s' n ≡ unless_dropped (goes (is_remapped s.told t) (is_full_for (context_of t) s.held) s'.slot n) (read_at s n)

-- the entries that go lie in one range
abbrev pub range_that_goes : (remapped evicted : Bool) → (slot : ℕ) → ℕ × ℕ
range_that_goes true evicted slot = (0, all_entries)
range_that_goes false true slot = (8192 + 16384 * slot, 8192 + 16384 * slot + 16384)
range_that_goes false false slot = (0, 0)

pub record Switches (g : GuestState) (m : Machine) (s : Shadowed) (m' : Machine) (s' : Shadowed) : Type 0 where
  pub keeps : Keeps [] [] m'.memory s'
  pub serves : Serves g s'
  -- the guest's context moves to the front of those that stay, which keep their slots
  pub takes : TakesSlot (context_of (tables_of g)) (staying (is_remapped s.told (tables_of g)) s.held) s'.held s'.slot
  pub each : (n : ℕ) → read_at s' n ≡ unless_dropped (goes (is_remapped s.told (tables_of g)) (is_full_for (context_of (tables_of g)) s.held) s'.slot n) (read_at s n)
  pub rest : s' ≡ record s { told = s'.told; slot = s'.slot; held = s'.held; reads = s'.reads }
  pub only : OnlyTables s.at m m'

-- new shadow page tables: no entry is filled, and the guest's context alone is held
pub record MakesTables (g : GuestState) (at : ℕ) (m m' : Machine) (s : Shadowed) : Type 0 where
  pub stands : StandsFor m'.memory s g
  pub place : s.at ≡ at
  pub empty : (n : ℕ) → read_at s n ≡ None
  pub contexts : contexts_of s.held ≡ context_of (tables_of g) ∷ []
  pub only : OnlyTables at m m'

-- what is loaded into the machine for a guest: its registers, and the real tables with the slot in use
abbrev pub world_of : Shadowed → GuestState → World
world_of s g = record {
  r = g.r;
  psl = record { 0 = real_psl g.psl.0 };
  vmpsl = g.psl;
  p0br = p0_base s.slot;
  p0lr = 8192;
  p1br = p1_base s.slot;
  p1lr = first_p1_page;
  sbr = 512 * s.at;
  slr = 8704;
}

-- of the machine the memory alone changes, and of that the guest's memory and its real tables alone
pub record OnlyGuest (s : Shadowed) (m m' : Machine) : Type 0 where
  pub rest : m' ≡ record m { memory = m'.memory }
  pub size : length m'.memory ≡ length m.memory
  pub other : (p : ℕ) → (p < 512 * s.base) ⊎ (512 * (s.base + s.pages) ≤ p) → (p < 512 * s.at) ⊎ (512 * (s.at + 580) ≤ p) → slice_index m'.memory p ≡ slice_index m.memory p

-- The kernel writes the guest's memory at a place, so that it becomes this: what was read from its frame is dropped.
pub record Stores (pa : ℕ) (memory : List ℕ) (m : Machine) (s : Shadowed) (m' : Machine) (s' : Shadowed) : Type 0 where
  pub keeps : (pending opened : List ℕ) → Keeps pending opened m.memory s → Keeps pending opened m'.memory s'
  pub own : own m'.memory s' ≡ memory
  pub drops : DropsFrom (pa / 512) s s'
  pub only : OnlyGuest s m m'

-- The modify bit of a page's entry is set.
abbrev pub DropsMarked : Lookup → Shadowed → Shadowed → Type 0
DropsMarked (looks.Found place table) s s' = DropsFrom (place / 512) s s'
DropsMarked (looks.Direct frame) s s' = s' ≡ s
DropsMarked (looks.Fails not_valid parameter) s s' = s' ≡ s
DropsMarked looks.Beyond s s' = s' ≡ s

pub record Marks (page : ℕ) (g : GuestState) (m : Machine) (s : Shadowed) (m' : Machine) (s' : Shadowed) : Type 0 where
  pub stands : StandsFor m'.memory s' g
  pub memory : partition_of m'.memory g ≡ marked_by (look (guest_of m.memory g) page) (partition_of m.memory g)
  pub drops : DropsMarked (look (guest_of m.memory g) page) s s'
  pub only : OnlyGuest s m m'
