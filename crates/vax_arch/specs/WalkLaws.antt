-- Laws of address translation.
use Rattle.std.specs.Prelude.{◌≡◌, ℕ, ◌+◌, ◌*◌, ◌%◌, ◌^◌, ◌==◌, ◌≤◌, ◌<◌, List, Option, Some, None, if◌then◌else◌}
use Rattle.vv_base.specs.Bytes.{long_at}
use Rattle.vax_arch.specs.Walk.{Tables, in_region, lookup, page_of, region_of}
use Rattle.vax_arch.specs.declared.walk.Grant.{Grant}
use Rattle.vax_arch.specs.declared.walk.Grant.TheVariants.{Absent, Granted, Past, Refused}
use Rattle.vax_arch.specs.declared.walk.Lookup.{Lookup}
use Rattle.vax_arch.specs.declared.walk.Lookup.TheVariants.{Beyond, Direct, Fails, Found}

-- an entry's longword lies in a memory of a size
abbrev pub OptionInside : ℕ → Option ℕ → Type 0
OptionInside size None = Unit {0}
OptionInside size (Some place) = place + 4 ≤ size

-- the places of entries lie in memory, as does a page that is its own frame; of a fault's parameter there are bits 1:0
abbrev pub IsInside : ℕ → Lookup → Type 0
IsInside size (Found place table) = (place + 4 ≤ size) × OptionInside size table
IsInside size (Direct frame) = 512 * frame + 512 ≤ size
IsInside size (Fails not_valid parameter) = parameter < 4
IsInside size Beyond = Unit {0}

abbrev pub LooksInside : Type 0
LooksInside = (size : ℕ) (memory : List ℕ) (t : Tables) (page : ℕ) → IsInside size (lookup size memory t page)

-- tables whose bases are multiples of 4
pub record AreAligned (t : Tables) : Type 0 where
  pub p0br : t.p0br % 4 ≡ 0
  pub p1br : t.p1br % 4 ≡ 0
  pub sbr : t.sbr % 4 ≡ 0

abbrev pub OptionAligned : Option ℕ → Type 0
OptionAligned None = Unit {0}
OptionAligned (Some place) = place % 4 ≡ 0

abbrev pub IsAligned : Lookup → Type 0
IsAligned (Found place table) = (place % 4 ≡ 0) × OptionAligned table
IsAligned (Direct frame) = Unit {0}
IsAligned (Fails not_valid parameter) = Unit {0}
IsAligned Beyond = Unit {0}

-- then the places of entries are multiples of 4, so that an entry lies in one frame
abbrev pub LooksAligned : Type 0
LooksAligned = (size : ℕ) (memory : List ℕ) (t : Tables) (page : ℕ) → AreAligned t → IsAligned (lookup size memory t page)

-- where the system entry of a process page's entry is, by the registers alone
abbrev pub table_at : Tables → (base page : ℕ) → ℕ
table_at t base page = t.sbr + 4 * in_region (page_of ((base + 4 * in_region page) % 2 ^ 32))

abbrev pub table_place : Tables → ℕ → ℕ
table_place t page = if region_of page == 0 then table_at t t.p0br page else table_at t t.p1br page

-- a look-up depends on the memory at most by the longword there
abbrev pub LooksAtOne : Type 0
LooksAtOne = (size : ℕ) (memory other : List ℕ) (t : Tables) (page : ℕ) →
    long_at other (table_place t page) ≡ long_at memory (table_place t page) → lookup size other t page ≡ lookup size memory t page

-- a frame's number has 21 bits
abbrev pub HasFrame : Grant → Type 0
HasFrame (Granted frame) = frame < 2 ^ 21
HasFrame Refused = Unit {0}
HasFrame Absent = Unit {0}
HasFrame Past = Unit {0}
