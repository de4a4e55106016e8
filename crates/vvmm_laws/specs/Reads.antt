-- The places of memory that an instruction reads on the real machine: those of the table longwords of its walks, and those of the
-- bytes that it asks for, also of those that it only writes. (VAX Architecture Reference Manual, memory management: address
-- translation, page tables.)
use Rattle.std.specs.Prelude.{ℕ, ◌+◌, ◌*◌, ◌%◌, ◌^◌, ◌==◌, not, ◌||◌, nat_le, nat_lt, if◌then◌else◌, List, [], ◌∷◌, ◌++◌, Result, Ok, Err}
use Rattle.vax_arch.specs.Walk.{Tables, in_region, page_of, region_of}
use Rattle.vax_arch.specs.declared.mode.Intent.TheVariants.{Read}
use Rattle.vax_arch.specs.declared.walk.Lookup.{Lookup}
use Rattle.vax_arch.specs.declared.walk.Lookup.TheVariants.{Beyond, Direct, Fails, Found}
use Rattle.vax_hw.specs.Machine.{Machine, machine_space, machine_tables, place_for, seen_psl}
use Rattle.vax_hw.specs.Real.{in_kernel}
use Rattle.vax_hw.specs.RealTables.{real_look}
use Rattle.vax_hw.specs.declared.world.World.{World}
use Rattle.vax_table.specs.Effects.{long_of}
use Rattle.vax_table.specs.Probing.{last_of}
use Rattle.vax_table.specs.Interaction.{Cause, Interaction, Trouble, outcome, reached}
use Rattle.vax_table.specs.Whole.{Act, Meant, Plain, Probes, Traps, instruction}

-- the four places of a longword, and those of several
abbrev pub four_from : ℕ → List ℕ
four_from place = place ∷ (place + 1) ∷ (place + 2) ∷ (place + 3) ∷ []

abbrev pub all_four : List ℕ → List ℕ
all_four [] = []
all_four (place ∷ places) = four_from place ++ all_four places

-- The longwords that the walk of an address reads.

-- the system entry that maps a process entry at an address; none where the address isn't a system one that SLR has
abbrev pub mapping_at : Tables → (at : ℕ) → List ℕ
mapping_at t at =
    if not (region_of (page_of at) == 2) || nat_le t.slr (in_region (page_of at)) then [] else
    (t.sbr + 4 * in_region (page_of at)) ∷ []

-- the one that maps a process page's own entry; none where a length refuses the page, and none for other pages
unfoldable pub mapping_of : Tables → (page : ℕ) → List ℕ
mapping_of t page =
    if region_of page == 0 then (if nat_le t.p0lr (in_region page) then [] else mapping_at t ((t.p0br + 4 * in_region page) % 2 ^ 32)) else
    if region_of page == 1 then (if nat_lt (in_region page) t.p1lr then [] else mapping_at t ((t.p1br + 4 * in_region page) % 2 ^ 32)) else
    []

-- the page's own entry, where the look-up found it
abbrev pub found_by : Lookup → List ℕ
found_by (Found place table) = place ∷ []
found_by (Direct frame) = []
found_by (Fails not_valid parameter) = []
found_by Beyond = []

-- both, in this order: a process page's walk reads two or, where the first isn't valid, that one alone
abbrev pub longs_walked : List ℕ → Tables → (va : ℕ) → List ℕ
longs_walked memory t va = mapping_of t (page_of va) ++ found_by (real_look memory t (page_of va))

abbrev pub places_walked : List ℕ → Tables → (va : ℕ) → List ℕ
places_walked memory t va = all_four (longs_walked memory t va)

-- The places that an instruction reads.

-- of a byte, where it has one
abbrev pub place_if : Result ℕ Cause → List ℕ
place_if (Ok place) = place ∷ []
place_if (Err cause) = []

-- for an address those of its walk, and then the place of its byte; what may be written may be read, at the same place
abbrev pub read_for : Machine → (va : ℕ) → List ℕ
read_for m va = places_walked m.memory (machine_tables m.world) va ++ place_if (place_for m Read va)

abbrev pub read_for_all : Machine → List ℕ → List ℕ
read_for_all m [] = []
read_for_all m (va ∷ vas) = read_for m va ++ read_for_all m vas

-- for a PROBE those of the walks of the two addresses that are judged
abbrev pub judged_for : Machine → Act → List ℕ
judged_for m (Plain e) = []
judged_for m (Traps t) = []
judged_for m (Probes i o) =
    places_walked m.memory (machine_tables m.world) (long_of o 2)
    ++ places_walked m.memory (machine_tables m.world) (last_of (long_of o 2) (long_of o 1 % 2 ^ 16))

abbrev pub places_judged : Machine → Result Meant Trouble → List ℕ
places_judged m (Ok meant) = judged_for m meant.act
places_judged m (Err trouble) = []

-- the instruction at PC
abbrev pub world_instruction : World → Interaction Meant
world_instruction w = instruction (in_kernel w) (seen_psl w) w.r

-- for each address that it asks for, up to and with the first that has trouble; then those of a PROBE, where it was found
-- to be one
unfoldable pub places_read : Machine → List ℕ
places_read m =
    read_for_all m (reached (machine_space m) (world_instruction m.world))
    ++ places_judged m (outcome (machine_space m) (world_instruction m.world))
