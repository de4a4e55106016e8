-- The translation buffer: pages that are known, and where they lie, as long as memory stays as it is in the frames whose stores
-- are watched.
use Rattle.std.specs.Prelude.{◌*◌, ℕ, ◌≡◌, ◌+◌, ◌/◌, ◌%◌, ◌^◌, ◌<◌, ◌==◌, ◌&&◌, Bool, true, false, nat_lt, if◌then◌else◌, List, All, get_or, slice_index, Option, Some, None, Result, Ok, Err}
use Rattle.std.specs.List.{slice_get}
use Rattle.vv_base.specs.Bytes.{long_at}
use Rattle.vax_arch.specs.Fields.{current_of}
use Rattle.vax_arch.specs.Walk.{Tables, page_of}
use Rattle.vax_arch.specs.declared.mode.Intent.{Intent}
use Rattle.vax_arch.specs.declared.mode.Intent.TheVariants.{Read, Write}
use Rattle.vax_arch.specs.declared.mode.Mode.{Mode}
use Rattle.vax_arch.specs.declared.mode.Mode.TheVariants.{Executive, Kernel, Supervisor, User}
use Rattle.vax_hw.specs.Machine.{machine_tables}
use Rattle.vax_hw.specs.RealTables.{byte_by, is_clear_in, place_in}
use Rattle.vax_hw.specs.declared.world.World.{World}
use Rattle.vax_table.specs.Interaction.{Cause, Space}
use Rattle.vax_table.specs.Interaction as interaction
use Rattle.vax_paged.specs.declared.known.Known.{Known}
use Rattle.vax_paged.specs.declared.known.Learned.{Learned}
use Rattle.vax_paged.specs.declared.modes.Here.{Here}
use Rattle.vax_paged.specs.declared.modes.KnownPages.{KnownPages}

-- the page that may be used so
abbrev pub page_for : Intent → Known → ℕ
page_for Read k = k.read_page
page_for Write k = k.write_page

-- what is known of a page is right in a memory, by page tables in a mode
pub record IsKnownIn (memory : List ℕ) (t : Tables) (m : Mode) (k : Known) : Type 0 where
  pub placed : (i : Intent) (va : ℕ) → va < 2 ^ 32 → page_for i k ≡ page_of va → place_in memory t m i va ≡ Ok (k.base + va % 512)
  pub modified : (va : ℕ) → va < 2 ^ 32 → k.write_page ≡ page_of va → is_clear_in memory t va ≡ false

abbrev pub AreKnownIn : List ℕ → Tables → Mode → List Known → Type 0
AreKnownIn memory t m ks = All (IsKnownIn memory t m) ks

-- by those of a world, in its mode
abbrev pub AreKnown : List ℕ → World → List Known → Type 0
AreKnown memory w ks = AreKnownIn memory (machine_tables w) (current_of w.psl.0) ks

-- as long as two longwords stay as they are
abbrev pub IsLearned : List ℕ → Tables → Mode → Learned → Type 0
IsLearned memory t m x = (other : List ℕ) → long_at other x.table ≡ long_at memory x.table → long_at other x.place ≡ long_at memory x.place → IsKnownIn other t m x.known

-- whether stores to the frame of a place are watched; beyond the frames they are
abbrev pub watches : List ℕ → (mark place : ℕ) → Bool
watches marks mark place = get_or marks (place / 512) mark == mark

-- a memory is as another where stores are watched
abbrev pub Agrees : KnownPages → (memory other : List ℕ) → Type 0
Agrees p memory other = (at : ℕ) → watches p.marks.items p.mark at ≡ true → slice_index other at ≡ slice_index memory at

-- the page of the last instruction may be read by a PSL with these high bits, and its first byte lies there
abbrev pub IsHere : List ℕ → Tables → Here → Type 0
IsHere memory t h =
    (h.start % 512 ≡ 0)
    × ((psl va : ℕ) → h.high < 256 → va < 2 ^ 32 → h.start ≡ 512 * page_of va → h.high ≡ psl / 2 ^ 24 → place_in memory t (current_of psl) Read va ≡ Ok (h.first + va % 512))

-- in each mode, and the page of the last instruction
pub record AreAllIn (memory : List ℕ) (t : Tables) (p : KnownPages) : Type 0 where
  pub kernel : AreKnownIn memory t Kernel p.kernel
  pub executive : AreKnownIn memory t Executive p.executive
  pub supervisor : AreKnownIn memory t Supervisor p.supervisor
  pub user : AreKnownIn memory t User p.user
  pub here : IsHere memory t p.here

-- as long as memory stays as it is where stores are watched
abbrev pub AreAllKnown : List ℕ → Tables → KnownPages → Type 0
AreAllKnown memory t p = (other : List ℕ) → Agrees p memory other → AreAllIn other t p

-- a memory is as another but for the frames of two places
abbrev pub IsSameBut : (first last : ℕ) (memory other : List ℕ) → Type 0
IsSameBut first last memory other = (at : ℕ) → (at / 512 ≡ first / 512 → ⊥) → (at / 512 ≡ last / 512 → ⊥) → slice_index other at ≡ slice_index memory at

-- the place of an address by what is known of its page
abbrev pub place_in_known : Intent → ℕ → Option Known → Result ℕ Cause
place_in_known i va None = Err interaction.Absent
place_in_known i va (Some k) = if (page_for i k == page_of va) && nat_lt va (2 ^ 32) then Ok (k.base + va % 512) else Err interaction.Absent

abbrev pub place_known : List Known → Intent → ℕ → Result ℕ Cause
place_known ks i va = place_in_known i va (slice_get ks (page_of va % 2048))

-- known pages as a space for instructions: what isn't known isn't there
abbrev pub known_space : List ℕ → List Known → Space
known_space memory ks i va = byte_by memory (place_known ks i va)

-- a place, if there is one
abbrev pub place_or_absent : Option ℕ → Result ℕ Cause
place_or_absent None = Err interaction.Absent
place_or_absent (Some place) = Ok place
