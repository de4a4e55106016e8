-- Worked examples of the places that are read, by computation, on the machine of `ShownReal`: system and P0 tables of 8
-- entries, at 0 and 80, map each page to the frame of its number; code is at 200. Numbers are hexadecimal.
use Rattle.std.specs.Prelude.{◌≡◌, refl, ℕ, List, [], ◌∷◌, ◌++◌}
use Rattle.vax_arch.specs.Walk.{lookup, mapped_entry, process_entry, system_entry}
use Rattle.vax_hw.specs.Machine.{Machine, machine_tables}
use Rattle.vax_hw.specs.RealTables.{real_look}
use Rattle.vax_hw.specs.ShownReal.{machine_of, memory_of, probes, reads, whole_run, with_longs, world_of, writes}
use Rattle.vax_hw.specs.declared.world.World.{World}
use Rattle.vvmm_laws.specs.Reads.{longs_walked, mapping_of, places_read}

-- the longwords of a walk, with these longwords put at places
abbrev pub walked : World → List (ℕ × ℕ) → ℕ → List ℕ
walked w longs va = longs_walked (with_longs longs (memory_of [])) (machine_tables w) va

pub longwords :
    -- page 2 of P0: the system entry of its table's page, and its own entry
    (walked (world_of 0 0 0) [] 0x400 ≡ 0 ∷ 0x88 ∷ [])
    -- a page of the system region: its own entry alone
    × (walked (world_of 0 0 0) [] 0x80000400 ≡ 8 ∷ [])
    -- the system entry alone, where it isn't valid; its code isn't asked
    × (walked (world_of 0 0 0) ((0, 0x24000000) ∷ []) 0x400 ≡ 0 ∷ [])
    × (walked (world_of 0 0 0) ((0, 0x84000000) ∷ []) 0x400 ≡ 0 ∷ 0x88 ∷ [])
    -- where the system entry has frame 1, the process entry lies there
    × (walked (world_of 0 0 0) ((0, 0xa4000001) ∷ []) 0x400 ≡ 0 ∷ 0x288 ∷ [])
    -- an own entry that isn't valid was read
    × (walked (world_of 0 0 0) ((0x88, 0x24000002) ∷ []) 0x400 ≡ 0 ∷ 0x88 ∷ [])
    -- none beyond a length: of P0, of the system region, and of P1, which grows down
    × (walked (world_of 0 0 0) [] 0x1000 ≡ [])
    × (walked (world_of 0 0 0) [] 0x80001000 ≡ [])
    × (walked (world_of 0 0 0) [] 0x7ffffe00 ≡ [])
    -- none where the process entry's address isn't a system one, or is beyond the system region's length
    × (walked (record (world_of 0 0 0) { p0br = 0x80 }) [] 0x400 ≡ [])
    × (walked (record (world_of 0 0 0) { p0br = 0x80001000 }) [] 0x400 ≡ [])
    -- none in the fourth region
    × (walked (world_of 0 0 0) [] 0xc0000400 ≡ [])
unfolding real_look lookup mapped_entry process_entry system_entry mapping_of
longwords = (refl, refl, refl, refl, refl, refl, refl, refl, refl, refl, refl, refl)

-- the table places of a walk in page 1, and in page 2
abbrev pub by_page_1 : List ℕ
by_page_1 = 0 ∷ 1 ∷ 2 ∷ 3 ∷ 0x84 ∷ 0x85 ∷ 0x86 ∷ 0x87 ∷ []

abbrev pub by_page_2 : List ℕ
by_page_2 = 0 ∷ 1 ∷ 2 ∷ 3 ∷ 0x88 ∷ 0x89 ∷ 0x8a ∷ 0x8b ∷ []

-- bytes that are reached by such a walk
abbrev pub bytes_by : List ℕ → List ℕ → List ℕ
bytes_by walk [] = []
bytes_by walk (place ∷ places) = walk ++ (place ∷ []) ++ bytes_by walk places

-- MOVL (R1),R3, with R1 400 and these longwords in memory
abbrev reading : List (ℕ × ℕ) → Machine
reading longs = machine_of reads longs (world_of 7 0x400 0)

-- HALT, MOVL R0,(R1) over the end of page 1, and PROBER #0,#4,(R1)
abbrev halting : Machine
halting = machine_of (0 ∷ []) [] (world_of 7 0x400 0)

abbrev over_end : Machine
over_end = machine_of writes [] (world_of 7 0x3fe 0)

abbrev probing : Machine
probing = machine_of probes [] (world_of 7 0x400 0)

-- three bytes of code
abbrev of_code : List ℕ
of_code = bytes_by by_page_1 (0x200 ∷ 0x201 ∷ 0x202 ∷ [])

pub places :
    -- the code, and four bytes of the operand
    (places_read (reading []) ≡ of_code ++ bytes_by by_page_2 (0x400 ∷ 0x401 ∷ 0x402 ∷ 0x403 ∷ []))
    -- where page 2 has frame 3
    × (places_read (reading ((0x88, 0xa4000003) ∷ [])) ≡ of_code ++ bytes_by by_page_2 (0x600 ∷ 0x601 ∷ 0x602 ∷ 0x603 ∷ []))
    -- up to the first byte that has trouble: the walk found its entry, which gives no place
    × (places_read (reading ((0x88, 0x24000002) ∷ [])) ≡ of_code ++ by_page_2)
    -- no byte of code, and one, which is refused
    × (places_read (reading ((0x84, 0x24000001) ∷ [])) ≡ by_page_1)
    × (places_read halting ≡ bytes_by by_page_1 (0x200 ∷ []))
    -- over the end, with R1 3FE
    × (places_read over_end ≡ of_code ++ bytes_by by_page_1 (0x3fe ∷ 0x3ff ∷ []) ++ bytes_by by_page_2 (0x400 ∷ 0x401 ∷ []))
    -- four bytes of code, and the walks of 400 and 403
    × (places_read probing ≡ of_code ++ bytes_by by_page_1 (0x203 ∷ []) ++ by_page_2 ++ by_page_2)
unfolding places_read mapping_of whole_run
places = (refl, refl, refl, refl, refl, refl, refl)
