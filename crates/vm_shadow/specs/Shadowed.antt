-- What the kernel keeps of a guest's shadow page tables, and when these stand for the guest's own. Each real entry is empty or
-- right for what the guest's look-up finds now. (Hall and Robinson, Virtualizing the VAX Architecture, ISCA 1991: shadow page
-- tables are filled on demand; Karger and others, IEEE TSE 17(11), 1991.)
use Rattle.std.specs.Prelude.{◌≡◌, ℕ, ◌+◌, ◌-◌, ◌*◌, ◌/◌, ◌%◌, ◌<◌, ◌≤◌, ◌==◌, ◌||◌, ◌⊎◌, Bool, true, false, nat_lt, if◌then◌else◌, List, [], ◌∷◌, length, find, All, Option, Some, None, option_map, slice_index_or}
use Rattle.vv_base.specs.Bytes.{long_at}
use Rattle.vax_arch.specs.Fields.{frame_of, is_modified, is_valid}
use Rattle.vax_arch.specs.Walk.{Tables, entry_at, lookup}
use Rattle.vax_arch.specs.declared.walk.Lookup.{Lookup}
use Rattle.vax_arch.specs.declared.walk.Lookup.TheVariants as looks
use Rattle.vm_slots.specs.Held.{AreSlots, Held}
use Rattle.vm_slots.specs.declared.context.Context.{Context}
use Rattle.vm_shadow.specs.Layout.{all_entries, empty_entry, entry_page, entry_place, entry_slot, kernel_entry, real_entry}
use Rattle.vm_shadow.specs.declared.source.Source.{Source}
use Rattle.vm_shadow.specs.declared.source.Source.TheVariants.{Direct, Process, System}
use Rattle.vm_state.specs.Partition.{part}
use Rattle.vm_state.specs.Registers.{first_p1_page}
use Rattle.vm_state.specs.State.{context_of}

-- what the kernel keeps
pub record Shadowed : Type 0 where
  -- the pages of the guest, the first of them in the machine, and the first page of its real tables
  pub pages : ℕ
  pub base : ℕ
  pub at : ℕ
  -- the registers under which the guest is translated now, and the slot of its context
  pub told : Tables
  pub slot : ℕ
  -- the contexts whose process entries are kept, most recent first, each with its slot
  pub held : Held
  -- for each real entry that is filled, the frames of the guest's entries that it was read from
  pub reads : List (Option Source)
  -- by frame of the guest: an entry may have been read from it
  pub consulted : List Bool
  -- by frame of the guest, and by group of 128 real entries, of which there are 576: one of these may let it be written without
  -- an exit
  pub writable : List Bool

-- The guest's memory is the machine's from its first page on.
abbrev pub own : List ℕ → Shadowed → List ℕ
own memory s = part memory (512 * s.base) (512 * s.pages)

abbrev pub real_at : List ℕ → Shadowed → ℕ → ℕ
real_at memory s n = long_at memory (entry_place s.at n)

abbrev pub read_at : Shadowed → ℕ → Option Source
read_at s n = slice_index_or s.reads n None

-- the registers for a context's process pages
abbrev pub in_context : Tables → Context → Tables
in_context t c = record t { mapped = c.mapped; p0br = c.p0br; p0lr = c.p0lr; p1br = c.p1br; p1lr = c.p1lr }

-- the registers under which an entry stands for its page: a process entry's are those of the context that has its slot
abbrev pub context_in : ℕ → Held → Option Context
context_in slot held = option_map (λ h. h.0) (find (λ h. h.1 == slot) held)

abbrev pub tables_for : Shadowed → ℕ → Option Tables
tables_for s n = if nat_lt n 8192 then Some s.told else option_map (in_context s.told) (context_in (entry_slot n) s.held)

-- what the guest's tables have for an entry's page; nothing in a slot that no context has
abbrev pub look_under : (size : ℕ) → List ℕ → (page : ℕ) → Option Tables → Lookup
look_under size memory page None = looks.Beyond
look_under size memory page (Some t) = lookup size memory t page

unfoldable pub seen_at : List ℕ → Shadowed → ℕ → Lookup
seen_at memory s n = look_under (512 * s.pages) (own memory s) (entry_page n) (tables_for s n)

-- the frames of the entries by which a page is found: its own, and that of the system entry above a process entry
abbrev pub IsSource : Lookup → Source → Type 0
IsSource (looks.Found place None) (System entry) = entry ≡ place / 512
IsSource (looks.Found place (Some above)) (Process entry table) = (entry ≡ place / 512) × (table ≡ above / 512)
IsSource (looks.Direct frame) Direct = Unit {0}
IsSource _ _ = ⊥

abbrev pub is_read_from : ℕ → Option Source → Bool
is_read_from frame None = false
is_read_from frame (Some Direct) = false
is_read_from frame (Some (System entry)) = entry == frame
is_read_from frame (Some (Process entry table)) = entry == frame || table == frame

-- A real entry is right: the guest's entry for the page is valid and names a frame in memory; the real one has that
-- frame, moved, the compressed code, and its modify bit set only where the guest's is.
pub record IsRight (size base : ℕ) (memory : List ℕ) (seen : Lookup) (real : ℕ) : Type 0 where
  pub entry : ℕ
  pub modify : Bool
  pub has : entry_at memory seen ≡ Some entry
  pub valid : is_valid entry ≡ true
  pub inside : 512 * frame_of entry + 512 ≤ size
  pub is : real ≡ real_entry base modify entry
  pub marked : modify ≡ true → is_modified entry ≡ true

-- whether a source has one of the frames that were written and not yet noted
abbrev pub is_pending : List ℕ → Option Source → Bool
is_pending [] source = false
is_pending (frame ∷ frames) source = is_read_from frame source || is_pending frames source

-- an entry is empty; or it is valid, and it is right and was read from the frames that are recorded, unless one of these was
-- written since
abbrev pub IsKept : (size base : ℕ) (memory : List ℕ) (pending : List ℕ) (seen : Lookup) (real : ℕ) → Option Source → Type 0
IsKept size base memory pending seen real None = real ≡ empty_entry
IsKept size base memory pending seen real (Some source) = (is_valid real ≡ true) × (is_pending pending (Some source) ≡ false → IsRight size base memory seen real × IsSource seen source)

-- whether an entry is among those opened for a guarded step
abbrev pub is_opened : ℕ → List ℕ → Bool
is_opened n [] = false
is_opened n (k ∷ ks) = k == n || is_opened n ks

-- the frame of the guest that a real entry maps
abbrev pub mapped_frame : Shadowed → ℕ → ℕ
mapped_frame s real = frame_of real - s.base

-- the flag by which an entry may let a frame be written
abbrev pub way_of : (frame n : ℕ) → ℕ
way_of frame n = 576 * frame + n / 128

-- registers that have values that the real tables can stand for
pub record CanBeShadowed (t : Tables) : Type 0 where
  pub p0br : t.p0br % 4 ≡ 0
  pub p0lr : t.p0lr ≤ 8192
  pub p1br : t.p1br % 4 ≡ 0
  pub p1lr : first_p1_page ≤ t.p1lr
  pub sbr : t.sbr % 4 ≡ 0
  pub slr : t.slr ≤ 8192

abbrev pub IsFirst : Context → ℕ → Held → Type 0
IsFirst c slot [] = ⊥
IsFirst c slot (h ∷ rest) = (h.0 ≡ c) × (h.1 ≡ slot)

-- whether a frame is flagged
abbrev pub is_flagged : ℕ → List Bool → Bool
is_flagged frame flags = slice_index_or flags frame false

-- What is so whatever the entries are: where the tables lie, and the registers and contexts that they can stand for.
pub record Fits (memory : List ℕ) (s : Shadowed) : Type 0 where
  -- The guest's pages and its real tables lie in the machine's memory, apart from each other.
  pub few : length memory ≤ 33554432
  pub small : s.pages ≤ 2048
  pub partition : 512 * (s.base + s.pages) ≤ length memory
  pub room : 512 * (s.at + 580) ≤ length memory
  pub apart : (s.base + s.pages ≤ s.at) ⊎ (s.at + 580 ≤ s.base)
  -- The tables can stand for the registers of the last switch, and for each context that has a slot.
  pub told : CanBeShadowed s.told
  pub contexts : All (λ h. CanBeShadowed (in_context s.told h.0)) s.held
  pub slots : AreSlots s.held
  -- The context under which the guest runs now is the first of them.
  pub first : IsFirst (context_of s.told) s.slot s.held
  -- The last system entries map the process tables.
  pub system : (j : ℕ) → j < 512 → long_at memory (512 * s.at + 4 * (8192 + j)) ≡ kernel_entry (s.at + 68 + j)

-- What the kernel records for itself, whatever memory has.
pub record Remembers (s : Shadowed) : Type 0 where
  -- There is a place for each entry's source.
  pub whole : length s.reads ≡ all_entries
  -- There are flags for each frame of the guest.
  pub consulted : length s.consulted ≡ s.pages
  pub writable : length s.writable ≡ 576 * s.pages
  -- A frame from which an entry was read is flagged; a flag may be set too often, and never too seldom.
  pub consults : (n frame : ℕ) → n < all_entries → is_flagged frame s.consulted ≡ false → is_read_from frame (read_at s n) ≡ false

-- The shadow page tables stand for the guest's own, and what the kernel records is right for each entry, but for two exceptions.
-- These are frames whose writes are pending, since what was read from them isn't dropped yet, and entries opened for a guarded
-- step; between steps there is neither.
pub record Keeps (pending opened : List ℕ) (memory : List ℕ) (s : Shadowed) : Type 0 where
  pub fits : Fits memory s
  pub remembers : Remembers s
  -- Each real entry is empty, or is right for what the guest's tables have now, unless it was read from a pending frame.
  pub entries : (n : ℕ) → n < all_entries → IsKept (512 * s.pages) s.base (own memory s) pending (seen_at memory s n) (real_at memory s n) (read_at s n)
  -- No entry with a set modify bit maps a frame that another, or it itself, was read from, unless it is opened: so each write of
  -- what was read exits to the kernel.
  pub guarded : (n k : ℕ) → n < all_entries → k < all_entries → is_opened k opened ≡ false → is_valid (real_at memory s k) ≡ true → is_modified (real_at memory s k) ≡ true → is_read_from (mapped_frame s (real_at memory s k)) (read_at s n) ≡ false
  -- The frame that an entry with a set modify bit maps is flagged, by the entry's group, as one that may be written without
  -- an exit.
  pub writes : (k : ℕ) → k < all_entries → is_valid (real_at memory s k) ≡ true → is_modified (real_at memory s k) ≡ true → is_flagged (way_of (mapped_frame s (real_at memory s k)) k) s.writable ≡ true
