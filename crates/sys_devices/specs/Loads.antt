-- What reading the volumes from their drives gives, by its answer.
use Rattle.std.specs.Prelude.{ℕ, ◌≡◌, ◌+◌, List, length, take, slice_set, All}
use Rattle.std.specs.declared.option.Option.{Option}
use Rattle.std.specs.declared.option.Option.TheVariants.{None, Some}
use Rattle.std.specs.declared.result.Result.{Result}
use Rattle.std.specs.declared.result.Result.TheVariants.{Ok, Err}
use Rattle.sys_devices.specs.Rows.{FitRows, FitsDrive, IsRowAt, drive_at}
use Rattle.sys_devices.specs.declared.loading.LoadFault.{LoadFault}
use Rattle.sys_devices.specs.declared.loading.LoadFault.TheVariants.{VolumeSize, DriveIn, NoMemory}
use Rattle.sys_objects.specs.declared.records.VolumeRow.{VolumeRow}
use Rattle.sys_store.specs.Blocks.{blocks_of}
use Rattle.vv_io.specs.Blocks.{SeenDrive}
use Rattle.vv_io.specs.Causes.{Rose}

-- these are a drive's blocks, where they are known
abbrev pub AreDriveBlocks : Option (List (List ℕ)) → List (List ℕ) → Type 0
AreDriveBlocks None blocks = Unit {0}
AreDriveBlocks (Some told) blocks = blocks ≡ told

-- Each volume has as many blocks as its row and its drive, and the drive's blocks, where they are known.
pub record AreLoaded (rows : List VolumeRow) (drives : List SeenDrive) (volumes : List (List (List ℕ))) : Type 0 where
  pub sizes : FitRows rows volumes
  pub fit : All (FitsDrive drives) rows
  pub told : (v : ℕ) (row : VolumeRow) → IsRowAt rows v row → AreDriveBlocks (drive_at drives row.drive).blocks (blocks_of volumes v)

-- The row at that place is the first whose drive has another number of blocks.
pub record IsMisfit (rows : List VolumeRow) (drives : List SeenDrive) (v : ℕ) : Type 0 where
  pub row : VolumeRow
  pub stands : IsRowAt rows v row
  pub differs : ¬ FitsDrive drives row
  pub before : All (FitsDrive drives) (take v rows)

-- the first row whose drive has another number of blocks, if there is one
abbrev pub FirstMisfit : List VolumeRow → List SeenDrive → Option ℕ → Type 0
FirstMisfit rows drives None = All (FitsDrive drives) rows
FirstMisfit rows drives (Some v) = IsMisfit rows drives v

-- The count of one drive rose; its size and its blocks stay, and every other drive is as before.
pub record OnlyRose (drives drives' : List SeenDrive) (d : ℕ) : Type 0 where
  pub faults : ℕ
  pub rose : Rose (drive_at drives d).faults faults
  pub is : drives' ≡ slice_set drives d (record (drive_at drives d) { faults = faults })

-- The drive of a row failed, and it and the drives of the rows before have the right sizes.
pub record HasFailed (rows : List VolumeRow) (drives drives' : List SeenDrive) (d : ℕ) : Type 0 where
  pub place : ℕ
  pub row : VolumeRow
  pub stands : IsRowAt rows place row
  pub drive : row.drive ≡ d
  pub fit : All (FitsDrive drives) (take (place + 1) rows)
  pub rose : OnlyRose drives drives' d

-- the answer to reading the volumes; where no drive failed, every drive is as before
abbrev pub Loads : List VolumeRow → List SeenDrive → List SeenDrive → Result (List (List (List ℕ))) LoadFault → Type 0
Loads rows drives drives' (Ok volumes) = AreLoaded rows drives volumes × (drives' ≡ drives)
Loads rows drives drives' (Err (VolumeSize v)) = IsMisfit rows drives v × (drives' ≡ drives)
Loads rows drives drives' (Err (DriveIn d)) = HasFailed rows drives drives' d
Loads rows drives drives' (Err NoMemory) = drives' ≡ drives

-- The volume at a place has as many blocks as the drive, and the drive's blocks where they are known; every other volume is as
-- before.
pub record HasDriveBlocks (volumes volumes' : List (List (List ℕ))) (v : ℕ) (drive : SeenDrive) : Type 0 where
  pub others : volumes' ≡ slice_set volumes v (blocks_of volumes' v)
  pub size : length (blocks_of volumes' v) ≡ drive.size
  pub told : AreDriveBlocks drive.blocks (blocks_of volumes' v)

-- all blocks of drive k are read into the volume at a place, by the answer
abbrev pub ReadsAll : {U E : Type 0} → ℕ → ℕ → List (List (List ℕ)) → List (List (List ℕ)) → List SeenDrive → List SeenDrive → Result U E → Type 0
ReadsAll v k volumes volumes' drives drives' (Ok _) = HasDriveBlocks volumes volumes' v (drive_at drives k) × (drives' ≡ drives)
ReadsAll v k volumes volumes' drives drives' (Err _) = OnlyRose drives drives' k

-- one volume is loaded, by the answer
abbrev pub LoadsVolume : {U : Type 0} → ℕ → VolumeRow → List (List (List ℕ)) → List (List (List ℕ)) → List SeenDrive → List SeenDrive → Result U LoadFault → Type 0
LoadsVolume v row volumes volumes' drives drives' (Ok _) = FitsDrive drives row × HasDriveBlocks volumes volumes' v (drive_at drives row.drive) × (drives' ≡ drives)
LoadsVolume v row volumes volumes' drives drives' (Err (VolumeSize u)) = (u ≡ v) × (¬ FitsDrive drives row) × (drives' ≡ drives)
LoadsVolume v row volumes volumes' drives drives' (Err (DriveIn d)) = (d ≡ row.drive) × FitsDrive drives row × OnlyRose drives drives' d
LoadsVolume v row volumes volumes' drives drives' (Err NoMemory) = ⊥
