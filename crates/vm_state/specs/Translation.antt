-- Translation over a guest's own page tables (VAX Architecture Reference Manual, memory management). Executive mode may
-- use what kernel mode may (Hall and Robinson, Virtualizing the VAX Architecture, ISCA 1991: ring compression).
use Rattle.std.specs.Prelude.{ℕ, ◌+◌, ◌*◌, ◌/◌, ◌%◌, ◌^◌, Bool, true, false, List, [], ◌∷◌, length, slice_index, Option, Some, None, Result, Ok, Err}
use Rattle.vv_base.specs.Bytes.{long_at}
use Rattle.vax_arch.specs.Ring.{open_of}
use Rattle.vax_arch.specs.Walk.{granted, is_clear_at, lookup, page_of, with_modify, write_bit}
use Rattle.vax_arch.specs.declared.mode.Intent.{Intent}
use Rattle.vax_arch.specs.declared.mode.Intent.TheVariants as intents
use Rattle.vax_arch.specs.declared.mode.Mode.{Mode}
use Rattle.vax_arch.specs.declared.walk.Grant.{Grant}
use Rattle.vax_arch.specs.declared.walk.Grant.TheVariants.{Absent, Granted, Past, Refused}
use Rattle.vax_arch.specs.declared.walk.Lookup.{Lookup}
use Rattle.vax_arch.specs.declared.walk.Lookup.TheVariants.{Beyond, Direct, Fails, Found}
use Rattle.vax_table.specs.Interaction.{Cause, Space, cause_of}
use Rattle.vax_table.specs.Interaction as interaction
use Rattle.vax_table.specs.Stores.{bytes_stored}
use Rattle.vm_state.specs.State.{Guest, mode_of_state}
use Rattle.vm_state.specs.declared.walk.MemFault.{MemFault}
use Rattle.vm_state.specs.declared.walk.Walk.{Walk}
use Rattle.vm_state.specs.declared.walk.Walk.TheVariants as walks

-- the look-up of a page
abbrev pub look : Guest → ℕ → Lookup
look g page = lookup (length g.memory) g.memory g.state.tables page

abbrev pub memory_fault : Bool → ℕ → ℕ → Intent → MemFault
memory_fault not_valid va parameter i = record { not_valid = not_valid; va = va; param = parameter + write_bit i }

-- what the entry at a place gives for an address
abbrev pub at_entry : (va : ℕ) → Intent → (place : ℕ) → (table : Option ℕ) → Grant → Walk
at_entry va i place table (Granted frame) = walks.Frame (512 * frame + va % 512) (Some place) table
at_entry va i place table Refused = walks.Fault (memory_fault false va 0 i)
at_entry va i place table Absent = walks.Fault (memory_fault true va 0 i)
at_entry va i place table Past = walks.Beyond

-- what a look-up gives for an address
abbrev pub walk_by : Guest → (va : ℕ) → Mode → Intent → Lookup → Walk
walk_by g va m i (Found place table) = at_entry va i place table (granted open_of (length g.memory) (long_at g.memory place) m i)
walk_by g va m i (Direct frame) = walks.Frame va None None
walk_by g va m i (Fails not_valid parameter) = walks.Fault (memory_fault not_valid va parameter i)
walk_by g va m i Beyond = walks.Beyond

-- an address translated, in a mode, for reading or for writing
unfoldable pub walk_of : Guest → (va : ℕ) → Mode → Intent → Walk
walk_of g va m i = walk_by g va m i (look g (page_of va))

-- The guest as a space for its instructions, in its own mode: the byte at an address, or why there is none.
abbrev pub walked_byte : List ℕ → Walk → Result ℕ Cause
walked_byte memory (walks.Frame pa entry table) = Ok (slice_index memory pa)
walked_byte memory (walks.Fault f) = Err (cause_of f.not_valid)
walked_byte memory walks.Beyond = Err interaction.Past

abbrev pub space_of : Guest → Space
space_of g i va = walked_byte g.memory (walk_of g va (mode_of_state g.state) i)

-- Where a byte that may be written lies. The place of another is the memory's end, at which nothing lies, so that setting
-- the byte there changes nothing.
abbrev pub walked_place : List ℕ → Walk → ℕ
walked_place memory (walks.Frame pa entry table) = pa
walked_place memory walk = length memory

abbrev pub guest_write_place : Guest → ℕ → ℕ
guest_write_place g va = walked_place g.memory (walk_of g va (mode_of_state g.state) intents.Write)

-- Modify bits.

-- whether the modify bit of the entry of an address's page is clear
abbrev pub is_clear : Guest → ℕ → Bool
is_clear g va = is_clear_at g.memory (look g (page_of va))

-- a longword stored at a place of memory
abbrev pub long_stored : (at v : ℕ) → List ℕ → List ℕ
long_stored at v memory = bytes_stored (λ p. p) 4 at v memory

-- the modify bit of the entry at a place is set
abbrev pub marked : ℕ → List ℕ → List ℕ
marked place memory = long_stored place (with_modify (long_at memory place)) memory

abbrev pub marked_by : Lookup → List ℕ → List ℕ
marked_by (Found place table) memory = marked place memory
marked_by found memory = memory

-- the frame of a place
abbrev pub frame_at : ℕ → ℕ
frame_at place = place / 2 ^ 9

-- the frames that setting a modify bit writes
abbrev pub marks_by : Lookup → List ℕ
marks_by (Found place table) = frame_at place ∷ []
marks_by found = []
