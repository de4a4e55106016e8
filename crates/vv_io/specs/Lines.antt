-- What a line or a sink has shown and how often it has failed, and what one put does to it.
use Rattle.std.specs.Prelude.{ℕ, ◌≡◌, ◌-◌, ◌^◌, ◌≤◌, List, ◌++◌, length, min, take, drop, slice_set, slice_index_or}
use Rattle.std.specs.declared.option.Option.{Option}
use Rattle.std.specs.declared.option.Option.TheVariants.{None, Some}
use Rattle.std.specs.declared.result.Result.{Result}
use Rattle.std.specs.declared.result.Result.TheVariants.{Ok, Err}
use Rattle.vv_io.specs.Causes.{HasCause}

-- A line as the outside knows it: the bytes shown, where they are known, and its count of faults.
pub record Seen : Type 0 where
  pub shown : Option (List ℕ)
  pub faults : ℕ

-- a line that doesn't exist
abbrev pub unseen : Seen
unseen = record { shown = None; faults = 0 }

-- these bytes after what was shown; where nothing is known, nothing is known afterwards
abbrev pub shown_after : Option (List ℕ) → List ℕ → Option (List ℕ)
shown_after None bytes = None
shown_after (Some shown) bytes = Some (shown ++ bytes)

-- all of the bytes were shown, or a front of them where the call failed
abbrev pub PutShows : {U E : Type 0} → Option (List ℕ) → Option (List ℕ) → List ℕ → Result U E → Type 0
PutShows before after bytes (Ok _) = after ≡ shown_after before bytes
PutShows before after bytes (Err _) = (n : ℕ) × (after ≡ shown_after before (take n bytes))

-- one put
pub record Puts {U E : Type 0} (before after : Seen) (bytes : List ℕ) (result : Result U E) : Type 0 where
  pub shows : PutShows before.shown after.shown bytes result
  pub cause : HasCause before.faults after.faults result

-- one put on line k of several; every other line is as before
abbrev pub PutsOn : {U E : Type 0} → ℕ → List Seen → List Seen → List ℕ → Result U E → Type 0
PutsOn k before after bytes result = (line : Seen) × (after ≡ slice_set before k line) × Puts (slice_index_or before k unseen) line bytes result

-- One sync: what was shown stays.
pub record Syncs {U E : Type 0} (before after : Seen) (result : Result U E) : Type 0 where
  pub shown : after.shown ≡ before.shown
  pub cause : HasCause before.faults after.faults result

-- one sync of line k of several; every other line is as before
abbrev pub SyncsOn : {U E : Type 0} → ℕ → List Seen → List Seen → Result U E → Type 0
SyncsOn k before after result = (line : Seen) × (after ≡ slice_set before k line) × Syncs (slice_index_or before k unseen) line result

-- how many bytes were shown, where they are known
abbrev pub Counts : Option (List ℕ) → ℕ → Type 0
Counts None count = Unit {0}
Counts (Some shown) count = count ≡ min (length shown) (2 ^ 64 - 1)

-- What is read back of what was shown, from a place on: the first `n` of a buffer's bytes, which are those from there on, at most
-- 512. Where nothing is known they may be any.
abbrev pub ReadsBack : Option (List ℕ) → ℕ → List ℕ → ℕ → Type 0
ReadsBack None place into n = n ≤ 512
ReadsBack (Some shown) place into n = (n ≤ 512) × (take n into ≡ take 512 (drop place shown))
