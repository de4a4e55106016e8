-- Where the shadow page tables of a guest lie in the machine, and what is in them (Hall and Robinson, Virtualizing the VAX
-- Architecture, ISCA 1991: shadow page tables; the places are profile). A guest has 580 pages of real tables: 68 of the system
-- table, and 64 each for a P0 and a P1 table in four slots. The last 512 entries of the system table map the process tables for
-- real kernel mode alone.
use Rattle.std.specs.Prelude.{◌≡◌, ℕ, ◌+◌, ◌-◌, ◌*◌, ◌/◌, ◌%◌, ◌^◌, ◌<◌, ◌≤◌, ◌==◌, ◌⊎◌, Bool, true, false, nat_lt, if◌then◌else◌}
use Rattle.vax_arch.specs.Fields.{frame_of, protection_of}
use Rattle.vax_arch.specs.Ring.{compressed_of}
use Rattle.vax_arch.specs.Walk.{Tables, in_region, region_of}
use Rattle.vm_state.specs.Registers.{first_p1_page}

-- Entries by number: the 8,192 system pages', then for each slot its 8,192 P0 pages' and its 8,192 P1 pages'.
abbrev pub all_entries : ℕ
all_entries = 73728

-- the place of an entry in the machine, with the tables from a page on
abbrev pub entry_place : (at n : ℕ) → ℕ
entry_place at n = if nat_lt n 8192 then 512 * at + 4 * n else 512 * (at + 68) + 4 * (n - 8192)

-- the slot of a process entry
abbrev pub entry_slot : ℕ → ℕ
entry_slot n = (n - 8192) / 16384

-- the page that a process entry is for, by its number in its slot; P1, whose pages are from 2^21 on, has its last 8192
abbrev pub process_entry_page : ℕ → ℕ
process_entry_page k = if nat_lt k 8192 then k else 2 ^ 21 + (first_p1_page + (k - 8192))

abbrev pub entry_page : ℕ → ℕ
entry_page n = if nat_lt n 8192 then 2 ^ 22 + n else process_entry_page ((n - 8192) % 16384)

-- the number of a page's entry in a slot
abbrev pub entry_number : (slot page : ℕ) → ℕ
entry_number slot page =
    if region_of page == 2 then in_region page else
    if region_of page == 0 then 8192 + 16384 * slot + in_region page else
    16384 + 16384 * slot + (in_region page - first_p1_page)

-- the pages for which there are entries
abbrev pub IsCovered : ℕ → Type 0
IsCovered page = ((region_of page ≡ 2) × (in_region page < 8192)) ⊎ (((region_of page ≡ 0) × (in_region page < 8192)) ⊎ ((region_of page ≡ 1) × (first_p1_page ≤ in_region page)))

-- an entry that isn't filled: it isn't valid, and its code (UW) refuses no mode, so that this is what each finds
abbrev pub empty_entry : ℕ
empty_entry = 4 * 2 ^ 27

-- an entry that maps a page of the process tables for real kernel mode alone (KW)
abbrev pub kernel_entry : ℕ → ℕ
kernel_entry frame = 2 ^ 31 + 2 * 2 ^ 27 + frame

abbrev pub bool_as_bit : Bool → ℕ
bool_as_bit false = 0
bool_as_bit true = 1

-- The real entry that stands for an entry of a guest whose pages begin at a page of the machine: its frame, moved; its
-- code, compressed.
abbrev pub real_entry : (base : ℕ) → (modify : Bool) → (entry : ℕ) → ℕ
real_entry base modify entry = 2 ^ 31 + compressed_of (protection_of entry) * 2 ^ 27 + bool_as_bit modify * 2 ^ 26 + (base + frame_of entry)

-- the table registers of the machine with a slot in use: the whole system table, and the slot's whole P0 and P1 tables
abbrev pub p0_base : ℕ → ℕ
p0_base slot = 2 ^ 31 + 2 ^ 22 + 65536 * slot

-- P1's table comes after P0's 32768 bytes; its base lies before it by the entries of the pages that P1 can't have
abbrev pub p1_base : ℕ → ℕ
p1_base slot = 2 ^ 31 + 2 ^ 22 + 65536 * slot + 32768 - 4 * first_p1_page

abbrev pub real_tables : (at slot : ℕ) → Tables
real_tables at slot = record { mapped = true; p0br = p0_base slot; p0lr = 8192; p1br = p1_base slot; p1lr = first_p1_page; sbr = 512 * at; slr = 8704 }
