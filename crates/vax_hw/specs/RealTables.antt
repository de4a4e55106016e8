-- Translation over the machine's own page tables: the one walk with the manual's table of codes, in the machine's own
-- modes (VAX Architecture Reference Manual, memory management; Hall and Robinson, Virtualizing the VAX Architecture,
-- ISCA 1991: shadow page tables). The real tables have no end: beyond the machine a byte is 0, and isn't written.
use Rattle.std.specs.Prelude.{ℕ, ◌+◌, ◌*◌, ◌%◌, ◌^◌, Bool, true, not, ◌&&◌, if◌then◌else◌, List, length, slice_index, Option, Some, None, Result, Ok, Err}
use Rattle.vv_base.specs.Bytes.{long_at}
use Rattle.vax_arch.specs.Fields.{is_valid, protection_of}
use Rattle.vax_arch.specs.Protection.{may_of}
use Rattle.vax_arch.specs.Walk.{Tables, granted, is_clear_at, lookup, page_of}
use Rattle.vax_arch.specs.declared.mode.Intent.{Intent}
use Rattle.vax_arch.specs.declared.mode.Intent.TheVariants as intents
use Rattle.vax_arch.specs.declared.mode.Mode.{Mode}
use Rattle.vax_arch.specs.declared.mode.Mode.TheVariants.{Executive, Kernel}
use Rattle.vax_arch.specs.declared.walk.Grant.{Grant}
use Rattle.vax_arch.specs.declared.walk.Grant.TheVariants.{Absent, Granted, Past, Refused}
use Rattle.vax_arch.specs.declared.walk.Lookup.{Lookup}
use Rattle.vax_arch.specs.declared.walk.Lookup.TheVariants.{Beyond, Direct, Fails, Found}
use Rattle.vax_table.specs.Interaction.{Cause, cause_of}
use Rattle.vax_table.specs.Interaction as interaction

-- more than any place that a walk reaches: a base has 32 bits, a page in its region 21, and so has a frame
abbrev pub everywhere : ℕ
everywhere = 2 ^ 33

-- the look-up of a page; mapping is on
unfoldable pub real_look : List ℕ → Tables → ℕ → Lookup
real_look memory t page = lookup everywhere memory (record t { mapped = true }) page

-- the place that an entry gives an address, or why it gives none
abbrev pub place_by : (va : ℕ) → Grant → Result ℕ Cause
place_by va (Granted frame) = Ok (512 * frame + va % 512)
place_by va Refused = Err interaction.Refusing
place_by va Absent = Err interaction.Absent
place_by va Past = Err interaction.Past

abbrev pub placed_by : List ℕ → (va : ℕ) → Mode → Intent → Lookup → Result ℕ Cause
placed_by memory va m i (Found place table) = place_by va (granted may_of everywhere (long_at memory place) m i)
placed_by memory va m i (Direct frame) = Ok va
placed_by memory va m i (Fails not_valid parameter) = Err (cause_of not_valid)
placed_by memory va m i Beyond = Err interaction.Past

-- an address translated, in a mode, for reading or for writing: its place in the machine, or why there is none
unfoldable pub place_in : List ℕ → Tables → Mode → Intent → (va : ℕ) → Result ℕ Cause
place_in memory t m i va = placed_by memory va m i (real_look memory t (page_of va))

-- the byte at a place
abbrev pub byte_by : List ℕ → Result ℕ Cause → Result ℕ Cause
byte_by memory (Ok place) = Ok (slice_index memory place)
byte_by memory (Err cause) = Err cause

-- a place for writing; where there is none, it lies nowhere in the machine
abbrev pub place_or_end : List ℕ → Result ℕ Cause → ℕ
place_or_end memory (Ok place) = place
place_or_end memory (Err cause) = length memory

-- whether the modify bit of the entry of an address's page is clear
abbrev pub is_clear_in : List ℕ → Tables → ℕ → Bool
is_clear_in memory t va = is_clear_at memory (real_look memory t (page_of va))

-- PROBE over the real tables.

-- a code that opens to kernel mode alone
abbrev pub is_kernels_alone : ℕ → Bool
is_kernels_alone code = may_of code Kernel intents.Read && not (may_of code Executive intents.Read)

-- Whether an entry allows a mode to use a byte: its code alone says so. The machine doesn't judge by an entry that isn't
-- valid or is the kernel's alone.
abbrev pub judged_by : (entry : ℕ) → Mode → Intent → Option Bool
judged_by entry m i = if is_valid entry && not (is_kernels_alone (protection_of entry)) then Some (may_of (protection_of entry) m i) else None

abbrev pub access_judged_at : List ℕ → Mode → Intent → Lookup → Option Bool
access_judged_at memory m i (Found place table) = judged_by (long_at memory place) m i
access_judged_at memory m i (Direct frame) = None
access_judged_at memory m i (Fails not_valid parameter) = None
access_judged_at memory m i Beyond = None

unfoldable pub access_judged : List ℕ → Tables → Mode → Intent → (va : ℕ) → Option Bool
access_judged memory t m i va = access_judged_at memory m i (real_look memory t (page_of va))

abbrev pub both_judged : Option Bool → Option Bool → Option Bool
both_judged (Some a) (Some b) = Some (a && b)
both_judged (Some a) None = None
both_judged None other = None
