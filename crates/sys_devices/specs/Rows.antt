-- Rows of volumes beside their drives and their blocks.
use Rattle.std.specs.Prelude.{ℕ, ◌≡◌, List, length, map, slice_get, slice_index_or}
use Rattle.std.specs.declared.option.Option.TheVariants.{Some}
use Rattle.sys_objects.specs.declared.records.VolumeRow.{VolumeRow}
use Rattle.vv_io.specs.Blocks.{SeenDrive, unkept}

-- this row is at that place
abbrev pub IsRowAt : List VolumeRow → ℕ → VolumeRow → Type 0
IsRowAt rows v row = slice_get rows v ≡ Some row

-- the drive of a number
abbrev pub drive_at : List SeenDrive → ℕ → SeenDrive
drive_at drives d = slice_index_or drives d unkept

-- the row's drive has as many blocks as the row says
abbrev pub FitsDrive : List SeenDrive → VolumeRow → Type 0
FitsDrive drives row = (drive_at drives row.drive).size ≡ row.blocks

-- as many volumes as rows, and each has as many blocks as its row says
abbrev pub FitRows : List VolumeRow → List (List (List ℕ)) → Type 0
FitRows rows volumes = map length volumes ≡ map (λ row. row.blocks) rows
