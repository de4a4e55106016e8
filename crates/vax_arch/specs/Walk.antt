-- Address translation (VAX Architecture Reference Manual, memory management: address translation, page tables; the
-- order of the tests where it shows is profile). A page's entry is looked up without mode and intent; what the entry
-- allows to a mode is asked after that. A virtual and the real machine differ in the table of codes alone.
use Rattle.std.specs.Prelude.{ℕ, ◌+◌, ◌*◌, ◌/◌, ◌%◌, ◌^◌, ◌==◌, Bool, true, false, not, ◌||◌, nat_le, nat_lt, if◌then◌else◌, List, Option, Some, None}
use Rattle.vv_base.specs.Bytes.{long_at}
use Rattle.vax_arch.specs.Fields.{frame_of, is_modified, is_valid, protection_of}
use Rattle.vax_arch.specs.declared.mode.Intent.{Intent}
use Rattle.vax_arch.specs.declared.mode.Intent.TheVariants.{Read, Write}
use Rattle.vax_arch.specs.declared.mode.Mode.{Mode}
use Rattle.vax_arch.specs.declared.walk.Grant.{Grant}
use Rattle.vax_arch.specs.declared.walk.Grant.TheVariants.{Absent, Granted, Past, Refused}
use Rattle.vax_arch.specs.declared.walk.Lookup.{Lookup}
use Rattle.vax_arch.specs.declared.walk.Lookup.TheVariants.{Beyond, Direct, Fails, Found}

-- what an address is translated under: whether mapping is on, and bases and lengths of the three page tables
pub record Tables : Type 0 where
  pub mapped : Bool
  pub p0br : ℕ
  pub p0lr : ℕ
  pub p1br : ℕ
  pub p1lr : ℕ
  pub sbr : ℕ
  pub slr : ℕ

-- A page's number is its address divided by 512: region 22:21, and the page in its region 20:0.
abbrev pub page_of : ℕ → ℕ
page_of va = va / 2 ^ 9

abbrev pub region_of : ℕ → ℕ
region_of page = page / 2 ^ 21 % 4

abbrev pub in_region : ℕ → ℕ
in_region page = page % 2 ^ 21

-- `bytes` bytes from a place on aren't all in a memory of `size` bytes
abbrev pub is_past : ℕ → ℕ → ℕ → Bool
is_past size place bytes = nat_lt size (place + bytes)

abbrev pub in_memory : ℕ → Option ℕ → ℕ → Lookup
in_memory size table place = if is_past size place 4 then Beyond else Found place table

-- a system page: its entry is at SBR plus 4 times the page
unfoldable pub system_entry : ℕ → Tables → ℕ → Lookup
system_entry size t page =
    if nat_le t.slr page then Fails false 1 else
    in_memory size None (t.sbr + 4 * page)

-- after the system entry of the page that holds a process entry: its protection isn't asked
abbrev pub through_system_entry : ℕ → List ℕ → ℕ → ℕ → Lookup
through_system_entry size memory at table =
    let entry = long_at memory table in
    if is_past size table 4 then Beyond else
    if not (is_valid entry) then Fails true 2 else
    if is_past size (512 * frame_of entry) 512 then Beyond else
    in_memory size (Some table) (512 * frame_of entry + at % 512)

-- a process page, whose entry is at a virtual address, which must be a system one that SLR has
unfoldable pub process_entry : ℕ → List ℕ → Tables → ℕ → Lookup
process_entry size memory t at =
    if not (region_of (page_of at) == 2) || nat_le t.slr (in_region (page_of at)) then Fails false 3 else
    through_system_entry size memory at (t.sbr + 4 * in_region (page_of at))

-- P0 grows up from its base, and P1 down to its length
abbrev pub process_page : ℕ → List ℕ → Tables → (base page : ℕ) → Lookup
process_page size memory t base page = process_entry size memory t ((base + 4 * page) % 2 ^ 32)

-- with mapping on, by the region
unfoldable pub mapped_entry : ℕ → List ℕ → Tables → ℕ → Lookup
mapped_entry size memory t page =
    if region_of page == 0 then (if nat_le t.p0lr (in_region page) then Fails false 1 else process_page size memory t t.p0br (in_region page)) else
    if region_of page == 1 then (if nat_lt (in_region page) t.p1lr then Fails false 1 else process_page size memory t t.p1br (in_region page)) else
    if region_of page == 2 then system_entry size t (in_region page) else
    Fails false 1

-- the look-up of a page in a memory of a size in bytes
unfoldable pub lookup : ℕ → List ℕ → Tables → ℕ → Lookup
lookup size memory t page =
    if t.mapped then mapped_entry size memory t page else
    if is_past size (512 * page) 512 then Beyond else Direct page

-- the entry that a look-up found; with mapping off a page is as under a valid entry that opens it to all and is modified
abbrev pub entry_at : List ℕ → Lookup → Option ℕ
entry_at memory (Found place table) = Some (long_at memory place)
entry_at memory (Direct frame) = Some (2 ^ 31 + 4 * 2 ^ 27 + 2 ^ 26 + frame)
entry_at memory (Fails not_valid parameter) = None
entry_at memory Beyond = None

-- whether the modify bit of the entry that a look-up found is clear; with mapping off none is
abbrev pub is_clear_at : List ℕ → Lookup → Bool
is_clear_at memory (Found place table) = not (is_modified (long_at memory place))
is_clear_at memory other = false

-- what an entry gives: its code is asked first, then whether it is valid, then its frame
unfoldable pub granted : (ℕ → Mode → Intent → Bool) → ℕ → ℕ → Mode → Intent → Grant
granted may size entry m i =
    if not (may (protection_of entry) m i) then Refused else
    if not (is_valid entry) then Absent else
    if is_past size (512 * frame_of entry) 512 then Past else Granted (frame_of entry)

-- bit 2 of the parameter says that it was to be written
abbrev pub write_bit : Intent → ℕ
write_bit Read = 0
write_bit Write = 4

-- an entry with its modify bit set
abbrev pub with_modify : ℕ → ℕ
with_modify entry = if is_modified entry then entry else entry + 2 ^ 26
