-- Volumes that are loaded one after another.
use Rattle.std.proofs.Common.{ℕ, ◌≡◌, ◌<◌, ◌≤◌, ◌+◌, ◌==◌, List, [], length, map, take, slice_index_or, slice_set, sym, ◌∙◌, ap, subst, arith, All, Result}
use Rattle.std.proofs.lemmas.Bool.{eqb-false, eqb-true}
use Rattle.std.proofs.lemmas.List.{get_or-map, get_or-set_other, map-set, set-get_or, take_all}
use Rattle.std.proofs.lemmas.Option.{slice_get_within}
use Rattle.std.specs.declared.result.Result.TheVariants.{Ok, Err}
use Rattle.sys_devices.proofs.Places.{all_more, as_many, blocks_fit, both, same_row, stands}
use Rattle.sys_devices.specs.Loads.{AreDriveBlocks, AreLoaded, HasDriveBlocks, IsMisfit, Loads, LoadsVolume, OnlyRose}
use Rattle.sys_devices.specs.declared.loading.LoadFault.{LoadFault}
use Rattle.sys_devices.specs.declared.loading.LoadFault.TheVariants.{VolumeSize, DriveIn, NoMemory}
use Rattle.sys_devices.specs.Rows.{FitRows, FitsDrive, IsRowAt, drive_at}
use Rattle.sys_objects.specs.declared.records.VolumeRow.{VolumeRow}
use Rattle.sys_store.specs.Blocks.{blocks_of}
use Rattle.vv_io.specs.Blocks.{SeenDrive}

-- n volumes are loaded.
pub record AreLoadedTo (n : ℕ) (rows : List VolumeRow) (drives : List SeenDrive) (volumes : List (List (List ℕ))) : Type 0 where
  pub sizes : FitRows rows volumes
  pub fit : All (FitsDrive drives) (take n rows)
  pub told : (v : ℕ) (row : VolumeRow) → v < n → IsRowAt rows v row → AreDriveBlocks (drive_at drives row.drive).blocks (blocks_of volumes v)

-- a volume that is read keeps its size
same_sizes : (rows : List VolumeRow) (volumes volumes' : List (List (List ℕ))) (n : ℕ) (drive : SeenDrive) (row : VolumeRow) → n < length rows → row ≡ slice_index_or rows n row → drive.size ≡ row.blocks → FitRows rows volumes → HasDriveBlocks volumes volumes' n drive → FitRows rows volumes'
same_sizes rows volumes volumes' n drive row h read fits sizes loaded =
    let size : List (List ℕ) → ℕ = length in
    let within : n < length volumes = omega (arith, h, as_many rows volumes sizes) in
    let here : length (blocks_of volumes' n) ≡ slice_index_or (map size volumes) n 0 = loaded.size ∙ fits ∙ sym (blocks_fit rows volumes n row h read sizes) ∙ sym (get_or-map size volumes n [] 0 within) in
    ap (map size) loaded.others ∙ map-set size volumes n (blocks_of volumes' n) ∙ ap (slice_set (map size volumes) n) here ∙ set-get_or (map size volumes) n 0 ∙ sizes

-- one more
more_loaded : (n : ℕ) (rows : List VolumeRow) (drives : List SeenDrive) (volumes volumes' : List (List (List ℕ))) (row : VolumeRow) → n < length rows → row ≡ slice_index_or rows n row → AreLoadedTo n rows drives volumes → FitsDrive drives row → HasDriveBlocks volumes volumes' n (drive_at drives row.drive) → AreLoadedTo (n + 1) rows drives volumes'
more_loaded n rows drives volumes volumes' row h read before fits loaded = record {
  sizes = same_sizes rows volumes volumes' n (drive_at drives row.drive) row h read fits before.sizes loaded;
  fit = all_more (FitsDrive drives) rows n row h read before.fit fits;
  told = λ v other low at. both (v == n)
      (λ e. let same : v ≡ n = eqb-true v n e in
      let here : row ≡ other = same_row rows n row other read (subst (λ m. IsRowAt rows m other) same at) in
      subst (λ m. AreDriveBlocks (drive_at drives other.drive).blocks (blocks_of volumes' m)) (sym same) (subst (λ r. AreDriveBlocks (drive_at drives r.drive).blocks (blocks_of volumes' n)) here loaded.told))
      (λ e. let apart : (v ≡ n → ⊥) = eqb-false v n e in
      let stays : blocks_of volumes' v ≡ blocks_of volumes v = ap (λ vs. blocks_of vs v) loaded.others ∙ get_or-set_other volumes n v (blocks_of volumes' n) [] apart in
      subst (AreDriveBlocks (drive_at drives other.drive).blocks) (sym stays) (before.told v other (omega (arith, low, apart)) at));
}

-- the next one is
pub next_loaded : {U : Type 0} (n : ℕ) (rows : List VolumeRow) (start now after : List SeenDrive) (volumes volumes' : List (List (List ℕ))) (row : VolumeRow) (u : U) → n < length rows → row ≡ slice_index_or rows n row → now ≡ start → AreLoadedTo n rows start volumes → (let r : Result U LoadFault = Ok u in LoadsVolume n row volumes volumes' now after r) → AreLoadedTo (n + 1) rows start volumes' × (after ≡ start)
next_loaded n rows start now after volumes volumes' row u h read same before (fits, loaded, is) =
    (more_loaded n rows start volumes volumes' row h read before (subst (λ drives. FitsDrive drives row) same fits) (subst (λ drives. HasDriveBlocks volumes volumes' n (drive_at drives row.drive)) same loaded), is ∙ same)

-- all are loaded
pub all_loaded : (n : ℕ) (rows : List VolumeRow) (drives : List SeenDrive) (volumes : List (List (List ℕ))) → length rows ≤ n → AreLoadedTo n rows drives volumes → AreLoaded rows drives volumes
all_loaded n rows drives volumes h before = record {
  sizes = before.sizes;
  fit = subst (All (FitsDrive drives)) (take_all n rows h) before.fit;
  told = λ v row at. before.told v row (omega (arith, h, slice_get_within rows v row at)) at;
}

-- the next one isn't
pub stops : (U : Type 0) (n : ℕ) (rows : List VolumeRow) (start now after : List SeenDrive) (volumes volumes' : List (List (List ℕ))) (row : VolumeRow) (e : LoadFault) → n < length rows → row ≡ slice_index_or rows n row → now ≡ start → AreLoadedTo n rows start volumes → (let r : Result U LoadFault = Err e in LoadsVolume n row volumes volumes' now after r) → (let r : Result (List (List (List ℕ))) LoadFault = Err e in Loads rows start after r)
stops U n rows start now after volumes volumes' row (VolumeSize v) h read same before (place, differs, is) =
    let misfit : IsMisfit rows start n = record { row = row; stands = stands rows n row h read; differs = subst (λ drives. ¬ FitsDrive drives row) same differs; before = before.fit } in
    (subst (IsMisfit rows start) (sym place) misfit, is ∙ same)
stops U n rows start now after volumes volumes' row (DriveIn d) h read same before (drive, fits, rose) = record {
  place = n;
  row = row;
  stands = stands rows n row h read;
  drive = sym drive;
  fit = all_more (FitsDrive start) rows n row h read before.fit (subst (λ drives. FitsDrive drives row) same fits);
  rose = subst (λ drives. OnlyRose drives after d) same rose;
}
stops U n rows start now after volumes volumes' row NoMemory h read same before never = absurd never
