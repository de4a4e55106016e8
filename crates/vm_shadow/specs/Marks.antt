-- Which records of real entries are looked at: sets of numbers, and what they say of the records.
use Rattle.std.specs.Prelude.{◌≡◌, ◌≢◌, ℕ, ◌+◌, ◌*◌, ◌/◌, ◌%◌, ◌<◌, ◌≤◌, ◌==◌, ◌⊎◌, Bool, true, false, nat_lt, if◌then◌else◌, List, [], length, map, Option, None, Some, slice_index, is_some}
use Rattle.std.specs.Int.{bit_at}
use Rattle.std.specs.List.{range_with_len}
use Rattle.vv_base.specs.Bytes.{long_at}
use Rattle.vax_arch.specs.Fields.{is_modified, is_valid}
use Rattle.vax_hw.specs.Machine.{Machine}
use Rattle.vm_shadow.specs.Calls.{OnlyTables, is_dropped, maps_open, remembered}
use Rattle.vm_shadow.specs.Layout.{all_entries, entry_place}
use Rattle.vm_shadow.specs.Shadowed.{Keeps, Shadowed, mapped_frame, real_at}
use Rattle.vm_shadow.specs.declared.source.Source.{Source}
use Rattle.vm_shadow.specs.declared.source.Source.TheVariants.{System}
use Rattle.vm_shadow.specs.declared.scans.Dropped.{Dropped}
use Rattle.vm_shadow.specs.declared.scans.Dropped.TheVariants.{All, ReadFrom}

-- whether a number is in a set of them, kept as a bit each in words of 64
abbrev pub is_in : ℕ → List ℕ → Bool
is_in n words = bit_at (slice_index words (n / 64)) (n % 64) == 1

-- a number comes into a set, or goes from it
pub record SetsMember (value : Bool) (n : ℕ) (words words' : List ℕ) : Type 0 where
  pub size : length words' ≡ length words
  pub here : is_in n words' ≡ value
  pub others : (k : ℕ) → k ≢ n → is_in k words' ≡ is_in k words

-- the numbers from one up to another go from a set
pub record IsCleared (first end : ℕ) (words words' : List ℕ) : Type 0 where
  pub size : length words' ≡ length words
  pub gone : (k : ℕ) → first ≤ k → k < end → is_in k words' ≡ false
  pub others : (k : ℕ) → (k < first) ⊎ (end ≤ k) → is_in k words' ≡ is_in k words

-- the first number of a set from one up to another; that other, where there is none
pub record IsNextMember (from end : ℕ) (words : List ℕ) (n : ℕ) : Type 0 where
  pub order : from ≤ n
  pub within : n ≤ end
  pub free : (k : ℕ) → from ≤ k → k < n → is_in k words ≡ false
  pub is : n < end → is_in n words ≡ true

-- none from a number up to another is in a set
pub record AreAbsent (from end : ℕ) (words : List ℕ) : Type 0 where
  pub order : from ≤ end
  pub free : (k : ℕ) → from ≤ k → k < end → is_in k words ≡ false

-- a set as flags, by number
unfoldable pub flags_of : List ℕ → List Bool
flags_of words = map (λ n. is_in n words) (range_with_len 0 (64 * length words))

-- The groups of entries in which one may be dropped, by 576 numbers for each way: first for all that are filled, then for
-- those that were read from each frame of the guest.
abbrev pub row_start : (frames : ℕ) → Dropped → ℕ
row_start frames All = 0
row_start frames (ReadFrom frame) = if nat_lt frame frames then 576 * (frame + 1) else 0

-- Each entry that is filled is marked, and so is its group of 128, in each row by which it may be dropped. More may be marked.
pub record AreMarked (frames : ℕ) (reads : List (Option Source)) (filled groups : List ℕ) : Type 0 where
  pub few : frames ≤ 2048
  pub whole : length reads ≡ all_entries
  pub entries : 64 * length filled ≡ all_entries
  pub rows : 64 * length groups ≡ 576 * (frames + 1)
  pub each : (n : ℕ) → is_some (remembered reads n) ≡ true → is_in n filled ≡ true
  pub group : (which : Dropped) (n : ℕ) → is_dropped which (remembered reads n) ≡ true → is_in (row_start frames which + n / 128) groups ≡ true

-- an entry's group is marked for each way by which it may be dropped when it has this source
pub record MarksGroups (frames n : ℕ) (source : Source) (groups groups' : List ℕ) : Type 0 where
  pub size : length groups' ≡ length groups
  pub more : (k : ℕ) → is_in k groups ≡ true → is_in k groups' ≡ true
  pub group : (which : Dropped) → is_dropped which (Some source) ≡ true → is_in (row_start frames which + n / 128) groups' ≡ true

-- no entry from a number up to another is one that is dropped so
pub record IsPast (which : Dropped) (reads : List (Option Source)) (from n : ℕ) : Type 0 where
  pub order : from ≤ n
  pub free : (k : ℕ) → from ≤ k → k < n → is_dropped which (remembered reads k) ≡ false

-- no entry from a number up to another lies in a group that is marked in a row
pub record Skips (groups : List ℕ) (row from n : ℕ) : Type 0 where
  pub order : from ≤ n
  pub free : (k : ℕ) → from ≤ k → k < n → is_in (row + k / 128) groups ≡ false

-- no entry from a number up to another is filled in a group that is marked in a row
pub record IsPastIn (groups : List ℕ) (row : ℕ) (reads : List (Option Source)) (from n : ℕ) : Type 0 where
  pub order : from ≤ n
  pub free : (k : ℕ) → from ≤ k → k < n → (is_some (remembered reads k) ≡ false) ⊎ (is_in (row + k / 128) groups ≡ false)

-- Each entry below a number by which a frame may be written has its modify bit clear, if it mapped that frame: the groups of
-- such entries are marked. Entries whose modify bits are set are as they were.
pub record Shuts (at base end frame : ℕ) (ways : List ℕ) (before : Machine) (reads : List (Option Source)) (after : Machine) : Type 0 where
  pub only : OnlyTables at before after
  pub keeps : (s : Shadowed) → s.at ≡ at → s.base ≡ base → s.reads ≡ reads → Keeps [] [] before.memory s → Keeps [] [] after.memory s
  pub same : (n : ℕ) → n < all_entries → is_modified (long_at after.memory (entry_place at n)) ≡ true → long_at after.memory (entry_place at n) ≡ long_at before.memory (entry_place at n)
  pub gone : (s : Shadowed) → s.at ≡ at → s.base ≡ base → s.reads ≡ reads → s.writable ≡ flags_of ways → Keeps [] [] before.memory s → (n : ℕ) → n < end → is_valid (real_at after.memory s n) ≡ true → maps_open base (System frame) (real_at after.memory s n) ≡ false

-- no page that maps a frame may be written without an exit any longer, and no more changed than modify bits
pub record Frees (frame : ℕ) (m : Machine) (s : Shadowed) (m' : Machine) (s' : Shadowed) : Type 0 where
  pub keeps : Keeps [] [] m'.memory s'
  pub free : (k : ℕ) → k < all_entries → is_valid (real_at m'.memory s k) ≡ true → is_modified (real_at m'.memory s k) ≡ true → (frame == mapped_frame s (real_at m'.memory s k)) ≡ false
  pub same : (k : ℕ) → k < all_entries → is_modified (real_at m'.memory s k) ≡ true → real_at m'.memory s k ≡ real_at m.memory s k
  pub rest : s' ≡ record s { writable = s'.writable }
  pub only : OnlyTables s.at m m'

-- no entry is filled
pub record AreEmpty (reads : List (Option Source)) : Type 0 where
  pub whole : length reads ≡ all_entries
  pub empty : (n : ℕ) → remembered reads n ≡ None
