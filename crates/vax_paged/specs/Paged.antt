-- The walk over the machine's own page tables, as the code makes it. Its places lie below the end of everywhere, so that a
-- page has an entry, or none by a length or by an entry of the system table that isn't valid.
use Rattle.std.specs.Prelude.{ℕ, ◌≤◌, Bool, true, false, not, List, Option, None, Result, Ok, Err}
use Rattle.vv_base.specs.Bytes.{long_at}
use Rattle.vax_arch.specs.Fields.{current_of, is_modified}
use Rattle.vax_arch.specs.Protection.{may_of}
use Rattle.vax_arch.specs.Walk.{granted}
use Rattle.vax_arch.specs.declared.mode.Intent.{Intent}
use Rattle.vax_arch.specs.declared.mode.Intent.TheVariants.{Write}
use Rattle.vax_arch.specs.declared.mode.Mode.{Mode}
use Rattle.vax_arch.specs.declared.walk.Lookup.{Lookup}
use Rattle.vax_arch.specs.declared.walk.Lookup.TheVariants.{Beyond, Direct, Fails, Found}
use Rattle.vax_hw.specs.Machine.{machine_tables}
use Rattle.vax_hw.specs.RealTables.{byte_by, everywhere, is_clear_in, judged_by, place_by, place_in, place_or_end}
use Rattle.vax_hw.specs.declared.world.World.{World}
use Rattle.vax_table.specs.Interaction.{At, Cause, Space, Trouble}
use Rattle.vax_table.specs.Interaction as interaction
use Rattle.vax_paged.specs.declared.entries.Entry.{Entry}
use Rattle.vax_paged.specs.declared.entries.Entry.TheVariants as entries
use Rattle.vax_paged.specs.declared.entries.Look.{Look}
use Rattle.vax_paged.specs.declared.entries.Look.TheVariants as looks

-- what the code keeps of a look-up
abbrev pub entry_looked_up : List ℕ → Lookup → Entry
entry_looked_up memory (Found place table) = entries.Found (record { 0 = long_at memory place })
entry_looked_up memory (Direct frame) = entries.TooFar
entry_looked_up memory (Fails true parameter) = entries.NotValid
entry_looked_up memory (Fails false parameter) = entries.TooFar
entry_looked_up memory Beyond = entries.TooFar

-- the outcome of a look-up
abbrev pub look_of : Lookup → Look
look_of (Found place table) = looks.Found place
look_of (Direct frame) = looks.TooFar
look_of (Fails true parameter) = looks.NotValid
look_of (Fails false parameter) = looks.TooFar
look_of Beyond = looks.TooFar

abbrev pub IsLow : Look → Type 0
IsLow (looks.Found place) = place ≤ everywhere
IsLow looks.NotValid = Unit {0}
IsLow looks.TooFar = Unit {0}

-- and what the code keeps of it
abbrev pub entry_by : List ℕ → Look → Entry
entry_by memory (looks.Found place) = entries.Found (record { 0 = long_at memory place })
entry_by memory looks.NotValid = entries.NotValid
entry_by memory looks.TooFar = entries.TooFar

-- which then says all
abbrev pub IsMapped : Lookup → Type 0
IsMapped (Found place table) = Unit {0}
IsMapped (Direct frame) = ⊥
IsMapped (Fails not_valid parameter) = Unit {0}
IsMapped Beyond = ⊥

-- the place that it gives an address
abbrev pub place_at : (va : ℕ) → Mode → Intent → Entry → Result ℕ Cause
place_at va m i (entries.Found entry) = place_by va (granted may_of everywhere entry.0 m i)
place_at va m i entries.NotValid = Err interaction.Absent
place_at va m i entries.TooFar = Err interaction.Refusing

-- whether its modify bit is clear
abbrev pub is_clear_by : Entry → Bool
is_clear_by (entries.Found entry) = not (is_modified entry.0)
is_clear_by entries.NotValid = false
is_clear_by entries.TooFar = false

-- what PROBE may say by it
abbrev pub judgement : Mode → Intent → Entry → Option Bool
judgement m i (entries.Found entry) = judged_by entry.0 m i
judgement m i entries.NotValid = None
judgement m i entries.TooFar = None

-- the place of a byte, or its trouble
abbrev pub at_byte : Intent → ℕ → Result ℕ Cause → Result ℕ Trouble
at_byte i va (Ok place) = Ok place
at_byte i va (Err cause) = Err (At cause i va)

-- the place of an address in the real mode
abbrev pub placed : List ℕ → World → Intent → ℕ → Result ℕ Cause
placed memory w i va = place_in memory (machine_tables w) (current_of w.psl.0) i va

-- a memory as a space, by the places of addresses
abbrev pub byte_at : List ℕ → (Intent → ℕ → Result ℕ Cause) → Space
byte_at memory places i va = byte_by memory (places i va)

-- a memory as a space for the instructions of a world
abbrev pub paged : List ℕ → World → Space
paged memory w i va = byte_by memory (placed memory w i va)

-- whether the modify bit of an address's page is clear
abbrev pub is_clear_for : List ℕ → World → ℕ → Bool
is_clear_for memory w va = is_clear_in memory (machine_tables w) va

-- where a byte that may be written lies
abbrev pub written_place : List ℕ → World → ℕ → ℕ
written_place memory w va = place_or_end memory (placed memory w Write va)
