-- Worked examples of the frames that a look-up reads and of those that a step writes, by computation, and of what empties
-- the sets of present pages. Numbers are hexadecimal in the comments.
use Rattle.std.specs.Prelude.{ℕ, ◌≡◌, List, [], ◌∷◌, refl, replicate, true, false, Some, None}
use Rattle.vax_arch.specs.Walk.{Tables, lookup, mapped_entry, process_entry, system_entry}
use Rattle.vax_arch.specs.declared.walk.Lookup.TheVariants.{Beyond, Direct, Fails, Found}
use Rattle.vm_state.specs.ShownSetup.{guest_m, tables_m, whole_step, with_memory, with_register, with_tables}
use Rattle.vm_state.specs.State.{Guest, context_of}
use Rattle.vm_state.specs.Step.{step}
use Rattle.vm_state.specs.Touches.{Present, Process, emptied, frames_read, is_overwritten, is_remapped, present_after}

-- P0's table is at 280, in frame 1; the system's is in frame 0
abbrev tables : Tables
tables = record tables_m { p0br = 0x80000280 }

-- its entries of the pages at 200, 600 and 800
abbrev entries : List (ℕ × ℕ)
entries = (0x284, 0xa4000001) ∷ (0x28c, 0xa4000003) ∷ (0x290, 0xa4000004) ∷ []

-- such a guest with this code at 80000200
abbrev guest : List ℕ → Guest
guest code =
    let g = with_register 1 0x800 (with_register 2 0x600 (with_register 15 0x80000200 (guest_m code []))) in
    with_memory entries (with_tables tables g)

-- present pages of the context that has this P0BR
abbrev with_pages : ℕ → List ℕ → Process
with_pages p0br pages = record { context = context_of (record tables_m { p0br = p0br }); pages = pages }

-- page 4 alone is present, in the context in front, or in one that isn't
abbrev in_front : Present
in_front = record { system = []; processes = with_pages 0x80000280 (4 ∷ []) ∷ with_pages 0x80000080 [] ∷ [] }

abbrev later : Present
later = record { system = []; processes = with_pages 0x80000080 [] ∷ with_pages 0x80000280 (4 ∷ []) ∷ [] }

-- the first system page alone
abbrev of_system : Present
of_system = record { system = 0x400000 ∷ []; processes = with_pages 0x80000080 [] ∷ [] }

-- with mapping off; and page 4 is present in that context
abbrev unmapped : Tables
unmapped = record tables_m { mapped = false }

abbrev in_unmapped : Present
in_unmapped = record { system = []; processes = record { context = context_of unmapped; pages = 4 ∷ [] } ∷ [] }

-- which frames' entries a look-up reads
pub entries_read :
    -- a process page: its own entry's, and that of the system entry of its table
    (frames_read (Found 0x290 (Some 4)) ≡ 1 ∷ 0 ∷ [])
    -- a system page: its own entry's
    × (frames_read (Found 0x210 None) ≡ 1 ∷ [])
    -- with mapping off, beyond a length and beyond memory: none
    × (frames_read (Direct 4) ≡ [])
    × (frames_read (Fails true 2) ≡ [])
    × (frames_read Beyond ≡ [])
entries_read = (refl, refl, refl, refl, refl)

-- which written frames count
pub overwritten :
    -- P0's table, the system's, and the page's own frame, which holds no entry
    (is_overwritten (guest []) (1 ∷ []) in_front ≡ true)
    × (is_overwritten (guest []) (0 ∷ []) in_front ≡ true)
    × (is_overwritten (guest []) (4 ∷ []) in_front ≡ false)
    -- each of the frames that are written
    × (is_overwritten (guest []) (4 ∷ 1 ∷ []) in_front ≡ true)
    -- of a context that isn't in front, by its own table
    × (is_overwritten (with_tables tables_m (guest [])) (1 ∷ []) later ≡ true)
    × (is_overwritten (with_tables tables_m (guest [])) (1 ∷ []) of_system ≡ false)
    -- of a system page
    × (is_overwritten (guest []) (0 ∷ []) of_system ≡ true)
    -- with mapping off nothing is read by an entry
    × (is_overwritten (with_tables unmapped (guest [])) (0 ∷ 1 ∷ 4 ∷ []) in_unmapped ≡ false)
unfolding lookup mapped_entry process_entry system_entry
overwritten = (refl, refl, refl, refl, refl, refl, refl, refl)

-- which registers count
pub remapped :
    (is_remapped tables (record tables { sbr = 4 }) ≡ true)
    × (is_remapped tables (record tables { slr = 15 }) ≡ true)
    × (is_remapped tables (record tables { mapped = false }) ≡ true)
    -- those of a context are none of them
    × (is_remapped tables (record tables { p0br = 0x80000080; p0lr = 15; p1br = 4; p1lr = 0x1fffff }) ≡ false)
remapped = (refl, refl, refl, refl)

-- what a step leaves
pub left :
    -- neither: what was present stays
    (present_after (guest []) (guest []) (4 ∷ []) in_front ≡ in_front)
    -- a table is written, or the system's length changes: nothing is present, and the contexts stay
    × (present_after (guest []) (guest []) (1 ∷ []) in_front ≡ emptied in_front)
    × (present_after (guest []) (with_tables (record tables { slr = 15 }) (guest [])) [] in_front ≡ emptied in_front)
unfolding lookup mapped_entry process_entry system_entry
left = (refl, refl, refl)

-- MOVL R0,(R1), BPT, and MFPR #12,(R1) at the end of a page
abbrev stores : Guest
stores = guest (0xd0 ∷ 0x50 ∷ 0x61 ∷ [])

abbrev breaks : Guest
breaks = guest (0x03 ∷ [])

abbrev stores_over_end : Guest
stores_over_end = with_register 1 0x7fe (with_register 2 0 (guest (0xdb ∷ 0x12 ∷ 0x61 ∷ [])))

-- before each byte pushed to page 3, the frame of its entry
abbrev with_entries : List ℕ
with_entries = 0 ∷ 3 ∷ 0 ∷ 3 ∷ 0 ∷ 3 ∷ 0 ∷ 3 ∷ 0 ∷ 3 ∷ 0 ∷ 3 ∷ 0 ∷ 3 ∷ 0 ∷ 3 ∷ []

-- frames that a step writes
pub frames_written :
    -- the page's own
    ((step stores).written ≡ replicate 4 4)
    -- the same where its modify bit is clear: that of its entry, and nothing else
    × ((step (with_memory ((0x290, 0xa0000004) ∷ []) stores)).written ≡ 1 ∷ [])
    -- those of the pushed bytes
    × ((step breaks).written ≡ replicate 8 3)
    -- the same where the modify bit of the stack's page is clear
    × ((step (with_memory ((0x0c, 0xa0000003) ∷ []) breaks)).written ≡ with_entries)
    -- those of the bytes stored
    × ((step stores_over_end).written ≡ 3 ∷ 3 ∷ 4 ∷ 4 ∷ [])
unfolding whole_step
frames_written = (refl, refl, refl, refl, refl)

-- with these packets waiting
abbrev with_queue : List ℕ → Guest → Guest
with_queue queue g = record g { state = record g.state { queue = queue } }

abbrev with_block : ℕ → Guest → Guest
with_block pcbb g = record g { state = record g.state { pcbb = pcbb } }

-- MTPR R2,#KCALL of a packet at 3F0, with `waiting` packets in the queue
abbrev calls : ℕ → Guest
calls waiting =
    let code = 0xda ∷ 0x52 ∷ 0x8f ∷ 0xc8 ∷ 0 ∷ 0 ∷ 0 ∷ [] in
    with_queue (replicate waiting 0x800) (with_register 1 0 (with_register 2 0x3f0 (guest code)))

-- SVPCTX into a block at 7F8
abbrev saves : Guest
saves = with_block 0x7f8 (with_register 1 0 (with_register 2 0 (with_register 14 0x80000600 (guest (0x07 ∷ [])))))

-- frames that the kernel writes at physical places
pub frames_of_places :
    -- one that finds eight waiting: that of its status, at 404
    ((step (calls 8)).written ≡ 2 ∷ [])
    -- where it is taken, and where it is bad, none
    × ((step (calls 7)).written ≡ [])
    -- those of the block's first 20 longwords
    × ((step saves).written ≡ 3 ∷ 3 ∷ replicate 18 4)
unfolding whole_step
frames_of_places = (refl, refl, refl)
