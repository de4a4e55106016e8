-- The sync of all lines, or of all drives: each in its turn.
use Rattle.std.specs.Prelude.{ℕ, ◌≡◌, ◌<◌, ◌≤◌, List, length, slice_index_or, Bool, true, false, Option, Some, None}
use Rattle.vv_io.specs.Blocks.{SeenDrive, unkept}
use Rattle.vv_io.specs.Causes.{Rose}
use Rattle.vv_io.specs.Lines.{Seen, unseen}

-- the line shows what it showed, and its count has not fallen
pub record IsStillLine (before after : Seen) : Type 0 where
  pub shown : after.shown ≡ before.shown
  pub later : before.faults ≤ after.faults

-- size and blocks are the drive's, and its count has not fallen
pub record IsStillDrive (before after : SeenDrive) : Type 0 where
  pub stays : after ≡ record before { faults = after.faults }
  pub later : before.faults ≤ after.faults

-- Which of the first n failed first: where none did, every one is as before; otherwise its count rose, and those in front of it
-- are as before.
abbrev pub FailedFirst : {V : Type 0} → ℕ → V → (V → ℕ) → List V → List V → Option ℕ → Type 0
FailedFirst n none faults before after None = (j : ℕ) → slice_index_or after j none ≡ slice_index_or before j none
FailedFirst n none faults before after (Some k) = (k < n) × Rose (faults (slice_index_or before k none)) (faults (slice_index_or after k none)) × ((j : ℕ) → j < k → slice_index_or after j none ≡ slice_index_or before j none)

-- all lines are synced
pub record SyncsLines (before after : List Seen) (failed : Option ℕ) : Type 0 where
  pub still : (j : ℕ) → IsStillLine (slice_index_or before j unseen) (slice_index_or after j unseen)
  pub first : FailedFirst (length before) unseen (λ line. line.faults) before after failed

-- all drives are synced
pub record SyncsDrives (before after : List SeenDrive) (failed : Option ℕ) : Type 0 where
  pub still : (j : ℕ) → IsStillDrive (slice_index_or before j unkept) (slice_index_or after j unkept)
  pub first : FailedFirst (length before) unkept (λ drive. drive.faults) before after failed

-- the first that failed, after the sync of the k-th
abbrev pub first_fault : Option ℕ → ℕ → Bool → Option ℕ
first_fault (Some first) k fails = Some first
first_fault None k true = Some k
first_fault None k false = None
