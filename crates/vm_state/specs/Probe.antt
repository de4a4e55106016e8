-- PROBER and PROBEW: whether a less privileged mode may use both ends of a range
-- (VAX Architecture Reference Manual: PROBEx; the corner cases are profile).
use Rattle.std.specs.Prelude.{ℕ, ◌*◌, ◌%◌, ◌^◌, ◌&&◌, Bool, true, false, not, if◌then◌else◌, length}
use Rattle.vv_base.specs.Bytes.{long_at}
use Rattle.vax_arch.specs.Fields.{frame_of, is_valid, protection_of}
use Rattle.vax_arch.specs.Ring.{open_of}
use Rattle.vax_arch.specs.Walk.{is_past, page_of}
use Rattle.vax_arch.specs.declared.mode.Intent.{Intent}
use Rattle.vax_arch.specs.declared.mode.Mode.{Mode}
use Rattle.vax_arch.specs.declared.walk.Lookup.{Lookup}
use Rattle.vax_arch.specs.declared.walk.Lookup.TheVariants.{Beyond, Direct, Fails, Found}
use Rattle.vax_table.specs.Probing.{last_of, probe_mode}
use Rattle.vm_state.specs.State.{Guest}
use Rattle.vm_state.specs.Translation.{look, memory_fault}
use Rattle.vm_state.specs.declared.walk.MemFault.{MemFault}

-- Whether the byte, or both, are accessible, and whether that is plain: found, valid and with a frame in memory. Or a
-- process entry lies on a system page that isn't valid, or beyond memory.
pub data Probed : Type 0 where
  Answers : (is_accessible is_plain : Bool) → Probed
  NotValid : MemFault → Probed
  PastMemory : Probed

-- the code alone decides
abbrev pub by_entry : (size entry : ℕ) → Mode → Intent → Probed
by_entry size entry m i = Answers (open_of (protection_of entry) m i) (is_valid entry && not (is_past size (512 * frame_of entry) 512))

-- with mapping off a byte beyond memory is not accessible
abbrev pub probed_by : Guest → (va : ℕ) → Mode → Intent → Lookup → Probed
probed_by g va m i (Found place table) = by_entry (length g.memory) (long_at g.memory place) m i
probed_by g va m i (Direct frame) = Answers true true
probed_by g va m i (Fails true parameter) = NotValid (memory_fault true va parameter i)
probed_by g va m i (Fails false parameter) = Answers false false
probed_by g va m i Beyond = if g.state.tables.mapped then PastMemory else Answers false false

unfoldable pub probed_byte : Guest → (va : ℕ) → Mode → Intent → Probed
probed_byte g va m i = probed_by g va m i (look g (page_of va))

-- both bytes, of which the first has its trouble first
abbrev pub both : Probed → Probed → Probed
both (Answers a p) (Answers b q) = Answers (a && b) (p && q)
both (Answers a p) trouble = trouble
both trouble other = trouble

-- for an intent, by the operands: the mode, the length, which is a word, and the base
unfoldable pub probe : Guest → Intent → (mode bytes base : ℕ) → Probed
probe g i mode bytes base =
    let m = probe_mode g.state.psl mode in
    both (probed_byte g base m i) (probed_byte g (last_of base (bytes % 2 ^ 16)) m i)
