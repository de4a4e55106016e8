-- What storing volumes to their drives leaves of drives and marks.
use Rattle.std.specs.Prelude.{ℕ, ◌≡◌, ◌≢◌, ◌<◌, ◌+◌, List, ◌∷◌, ◌++◌, length, take, drop, slice_index_or, slice_set, Bool, true, false, All}
use Rattle.std.specs.declared.option.Option.{Option}
use Rattle.std.specs.declared.option.Option.TheVariants.{None, Some}
use Rattle.sys_devices.specs.Rows.{IsRowAt, drive_at}
use Rattle.sys_objects.specs.declared.records.VolumeRow.{VolumeRow}
use Rattle.sys_store.specs.Blocks.{blocks_of}
use Rattle.vv_io.specs.Blocks.{IsAsLong, SeenDrive}
use Rattle.vv_io.specs.Causes.{Rose}

-- these blocks in place of the known ones
abbrev pub known_after : Option (List (List ℕ)) → List (List ℕ) → Option (List (List ℕ))
known_after None blocks = None
known_after (Some old) blocks = Some blocks

-- the blocks before the k-th in place of the known ones, any bytes for the k-th, and the known blocks after it
abbrev pub known_until : Option (List (List ℕ)) → List (List ℕ) → ℕ → List ℕ → Option (List (List ℕ))
known_until None blocks k any = None
known_until (Some old) blocks k any = Some (take k blocks ++ any ∷ drop (k + 1) old)

-- A drive's count rose at one block, which may hold any bytes, as many as before. The blocks before it are stored, those after
-- it are as before.
pub record IsCut (before after : SeenDrive) (blocks : List (List ℕ)) : Type 0 where
  pub size : after.size ≡ before.size
  pub rose : Rose before.faults after.faults
  pub block : ℕ
  pub within : block < length blocks
  pub any : List ℕ
  pub long : IsAsLong before.blocks block any
  pub told : after.blocks ≡ known_until before.blocks blocks block any

-- a drive that hasn't failed has the blocks and its count; one that has failed is cut
abbrev pub StoresToDrive : Bool → SeenDrive → SeenDrive → List (List ℕ) → Type 0
StoresToDrive false before after blocks = after ≡ record before { blocks = known_after before.blocks blocks }
StoresToDrive true before after blocks = IsCut before after blocks

-- blocks are stored to drive k, and every other drive is as before
abbrev pub StoresOn : ℕ → Bool → List SeenDrive → List SeenDrive → List (List ℕ) → Type 0
StoresOn k failed drives drives' blocks = (drive : SeenDrive) × (drives' ≡ slice_set drives k drive) × StoresToDrive failed (drive_at drives k) drive blocks

-- whether a drive is marked as failed
abbrev pub is_marked : List Bool → ℕ → Bool
is_marked marks d = slice_index_or marks d false

-- a drive is as before, and so is its mark
abbrev pub DriveStays : List Bool → List Bool → List SeenDrive → List SeenDrive → ℕ → Type 0
DriveStays marks marks' drives drives' d = (is_marked marks' d ≡ is_marked marks d) × (drive_at drives' d ≡ drive_at drives d)

-- Blocks are stored to a drive if it isn't marked; a fault marks it. Every other drive stays.
pub record StoresAt (d : ℕ) (marks marks' : List Bool) (drives drives' : List SeenDrive) (blocks : List (List ℕ)) : Type 0 where
  pub marked : is_marked marks d ≡ true → DriveStays marks marks' drives drives' d
  pub stores : is_marked marks d ≡ false → StoresToDrive (is_marked marks' d) (drive_at drives d) (drive_at drives' d) blocks
  pub others : (e : ℕ) → e ≢ d → DriveStays marks marks' drives drives' e

-- The blocks of each volume are stored to its drive if that isn't marked; a fault marks it. A marked drive stays, and
-- so does one that no row names.
pub record StoresToDrives (rows : List VolumeRow) (volumes : List (List (List ℕ))) (marks marks' : List Bool) (drives drives' : List SeenDrive) : Type 0 where
  pub marked : (d : ℕ) → is_marked marks d ≡ true → DriveStays marks marks' drives drives' d
  pub stores : (v : ℕ) (row : VolumeRow) → IsRowAt rows v row → is_marked marks row.drive ≡ false → StoresToDrive (is_marked marks' row.drive) (drive_at drives row.drive) (drive_at drives' row.drive) (blocks_of volumes v)
  pub others : (d : ℕ) → All (λ row. row.drive ≢ d) rows → DriveStays marks marks' drives drives' d
