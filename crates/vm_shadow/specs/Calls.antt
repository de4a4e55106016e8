-- What each call on the shadow page tables makes and drops.
use Rattle.std.specs.Prelude.{◌≡◌, ℕ, ◌+◌, ◌*◌, ◌-◌, ◌%◌, ◌^◌, ◌<◌, ◌&&◌, Bool, true, false, nat_le, nat_lt, List, length, Option, Some, None, is_some, slice_index_or}
use Rattle.vv_base.specs.Bytes.{long_at, long_bytes, overwritten}
use Rattle.vax_arch.specs.Fields.{is_modified}
use Rattle.vax_hw.specs.Machine.{Machine}
use Rattle.vm_shadow.specs.Layout.{empty_entry, entry_place, kernel_entry}
use Rattle.vm_shadow.specs.Shadowed.{Keeps, Shadowed, is_read_from}
use Rattle.vm_shadow.specs.declared.source.Source.{Source}
use Rattle.vm_shadow.specs.declared.scans.Dropped.{Dropped}
use Rattle.vm_shadow.specs.declared.scans.Dropped.TheVariants.{All, ReadFrom}
use Rattle.vm_state.specs.Partition.{IsApart}

-- of the machine the memory alone changes, and of that the guest's real tables alone
pub record OnlyTables (at : ℕ) (before after : Machine) : Type 0 where
  pub rest : after ≡ record before { memory = after.memory }
  pub tables : IsApart (512 * at) (512 * 580) before.memory after.memory

-- Scans over the real entries, each with what is recorded of it.

abbrev pub remembered : List (Option Source) → ℕ → Option Source
remembered reads n = slice_index_or reads n None

abbrev pub is_dropped : Dropped → Option Source → Bool
is_dropped (ReadFrom frame) source = is_read_from frame source
is_dropped All source = is_some source

-- what is recorded of an entry, where it may be dropped
abbrev pub unless_dropped : Bool → Option Source → Option Source
unless_dropped true source = None
unless_dropped false source = source

abbrev pub is_between : (first end n : ℕ) → Bool
is_between first end n = nat_le first n && nat_lt n end

-- the entries from a number up to another that are to be dropped are empty, and nothing else changed
pub record DropsEntries (at first end : ℕ) (which : Dropped) (before : Machine) (reads : List (Option Source)) (after : Machine) (reads' : List (Option Source)) : Type 0 where
  pub only : OnlyTables at before after
  pub whole : length reads' ≡ length reads
  pub each : (n : ℕ) → remembered reads' n ≡ unless_dropped (is_between first end n && is_dropped which (remembered reads n)) (remembered reads n)
  pub keeps : (pending opened : List ℕ) (s : Shadowed) → s.at ≡ at → s.reads ≡ reads → Keeps pending opened before.memory s → Keeps pending opened after.memory (record s { reads = reads' })

-- whether a real entry maps a frame that a source has, with its modify bit set
abbrev pub maps_open : (base : ℕ) → Source → (real : ℕ) → Bool
maps_open base source real = is_modified real && is_read_from (real % 2097152 - base) (Some source)

-- one entry is closed where it is to be
abbrev pub closed_at : Bool → Machine → (place : ℕ) → Machine
closed_at true m place = record m { memory = overwritten m.memory place (long_bytes (long_at m.memory place - 2 ^ 26)) }
closed_at false m place = m

-- New tables.

-- the entries below a number are empty, and the system entries that map the process tables stay
pub record Clears (at end : ℕ) (before after : Machine) : Type 0 where
  pub only : OnlyTables at before after
  pub cleared : (n : ℕ) → n < end → long_at after.memory (entry_place at n) ≡ empty_entry
  pub stay : (j : ℕ) → j < 512 → long_at after.memory (512 * at + 4 * (8192 + j)) ≡ long_at before.memory (512 * at + 4 * (8192 + j))

-- the pages of the process tables before `end` are mapped
pub record Maps (at end : ℕ) (before after : Machine) : Type 0 where
  pub only : OnlyTables at before after
  pub mapped : (j : ℕ) → j < end → long_at after.memory (512 * at + 4 * (8192 + j)) ≡ kernel_entry (at + 68 + j)
