-- What lines are shown, and which of them are marked as failed.
use Rattle.std.specs.Prelude.{ℕ, ◌≡◌, List, [], slice_index_or, Bool, true, false, if◌then◌else◌, Option}
use Rattle.vv_io.specs.Lines.{Seen, unseen}
use Rattle.sys_devices.specs.ShownSince.{ShownSince}
use Rattle.sys_objects.specs.Places.{is_at}

-- A marked line is as before, and stays marked. An unmarked one shows all the bytes, or is marked now: it shows a front of them,
-- and its count rose.
abbrev pub ShowsUnlessMarked : (marked marked' : Bool) → Seen → Seen → List ℕ → Type 0
ShowsUnlessMarked true marked' line line' bytes = (marked' ≡ true) × (line' ≡ line)
ShowsUnlessMarked false marked' line line' bytes = ShownSince marked' line line' bytes

-- Each unmarked line gets its bytes, or a front of them and a mark. One that gets none is as before, and so is its mark.
pub record Shows (marks marks' : List Bool) (lines lines' : List Seen) (bytes : ℕ → List ℕ) : Type 0 where
  pub line : (k : ℕ) → ShowsUnlessMarked (slice_index_or marks k false) (slice_index_or marks' k false) (slice_index_or lines k unseen) (slice_index_or lines' k unseen) (bytes k)
  pub others : (k : ℕ) → bytes k ≡ [] → (slice_index_or marks' k false ≡ slice_index_or marks k false) × (slice_index_or lines' k unseen ≡ slice_index_or lines k unseen)

-- bytes for one line, if for any
abbrev pub only_on : Option ℕ → List ℕ → ℕ → List ℕ
only_on place bytes k = if is_at k place then bytes else []
