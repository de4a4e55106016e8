-- Volumes that are stored one after another.
use Rattle.std.proofs.Common.{ℕ, ◌≡◌, ◌≢◌, ◌<◌, ◌+◌, ◌==◌, List, length, take, slice_index_or, sym, ◌∙◌, ap, subst, arith, Bool, true, false, All}
use Rattle.std.proofs.lemmas.Bool.{eqb-false, eqb-true}
use Rattle.std.proofs.lemmas.List.{get_or-take, get_or_default, length-take-le}
use Rattle.std.specs.List.{AllPairs}
use Rattle.sys_devices.proofs.Places.{all_fewer, all_last, at_place, at_stands, blocks_fit, both, of_first, same_row, to_first, within_first}
use Rattle.sys_devices.specs.Rows.{FitRows, FitsDrive, IsRowAt, drive_at}
use Rattle.sys_devices.specs.Stores.{DriveStays, StoresAt, StoresToDrive, StoresToDrives, is_marked}
use Rattle.sys_objects.specs.declared.records.VolumeRow.{VolumeRow}
use Rattle.sys_store.specs.Blocks.{blocks_of}
use Rattle.vv_io.specs.Blocks.{SeenDrive}

-- no two volumes have one drive
abbrev pub AreApart : List VolumeRow → Type 0
AreApart rows = AllPairs (λ v w. v.drive ≢ w.drive) rows

-- no row before another has its drive
pub unnamed : (rows : List VolumeRow) (n : ℕ) (row : VolumeRow) → n < length rows → row ≡ slice_index_or rows n row → AreApart rows → All (λ r. r.drive ≢ row.drive) (take n rows)
unnamed rows n row h read apart k d within e =
    let first : length (take n rows) ≡ n = length-take-le n rows (omega (arith, h)) in
    let low : k < n = omega (arith, within, first) in
    let drive : VolumeRow → ℕ = λ r. r.drive in
    apart k n d low h (ap drive (sym (get_or-take n rows k d low)) ∙ e ∙ ap drive (read ∙ get_or_default rows n row d h))

stays_then : (a b c : List Bool) (l m p : List SeenDrive) (d : ℕ) → DriveStays a b l m d → DriveStays b c m p d → DriveStays a c l p d
stays_then a b c l m p d first second = (second.0 ∙ first.0, second.1 ∙ first.1)

-- The volumes of the first rows are stored, and then that of the next.
pub record IsNext (n : ℕ) (rows : List VolumeRow) (volumes : List (List (List ℕ))) (a b c : List Bool) (l m p : List SeenDrive) (row : VolumeRow) : Type 0 where
  pub within : n < length rows
  pub read : row ≡ slice_index_or rows n row
  pub apart : AreApart rows
  pub before : StoresToDrives (take n rows) volumes a b l m
  pub now : StoresAt row.drive b c m p (blocks_of volumes n)

next_marked : (n : ℕ) (rows : List VolumeRow) (volumes : List (List (List ℕ))) (a b c : List Bool) (l m p : List SeenDrive) (row : VolumeRow) → IsNext n rows volumes a b c l m p row → (d : ℕ) → is_marked a d ≡ true → DriveStays a c l p d
next_marked n rows volumes a b c l m p row h d is =
    let first = h.before.marked d is in
    stays_then a b c l m p d first (both (d == row.drive)
    (λ e. let same : d ≡ row.drive = eqb-true d row.drive e in subst (DriveStays b c m p) (sym same) (h.now.marked (ap (is_marked b) (sym same) ∙ first.0 ∙ is)))
    (λ e. h.now.others d (eqb-false d row.drive e)))

-- the next one
next_here : (n : ℕ) (rows : List VolumeRow) (volumes : List (List (List ℕ))) (a b c : List Bool) (l m p : List SeenDrive) (row : VolumeRow) → IsNext n rows volumes a b c l m p row → is_marked a row.drive ≡ false → StoresToDrive (is_marked c row.drive) (drive_at l row.drive) (drive_at p row.drive) (blocks_of volumes n)
next_here n rows volumes a b c l m p row h unmarked =
    let same = h.before.others row.drive (unnamed rows n row h.within h.read h.apart) in
    subst (λ s. StoresToDrive (is_marked c row.drive) s (drive_at p row.drive) (blocks_of volumes n)) same.1 (h.now.stores (same.0 ∙ unmarked))

-- one before it
next_before : (n : ℕ) (rows : List VolumeRow) (volumes : List (List (List ℕ))) (a b c : List Bool) (l m p : List SeenDrive) (row : VolumeRow) → IsNext n rows volumes a b c l m p row → (v : ℕ) (other : VolumeRow) → IsRowAt (take n rows) v other → is_marked a other.drive ≡ false → StoresToDrive (is_marked c other.drive) (drive_at l other.drive) (drive_at p other.drive) (blocks_of volumes v)
next_before n rows volumes a b c l m p row h v other at unmarked =
    let apart : other.drive ≢ row.drive = at_stands (λ r. r.drive ≢ row.drive) (take n rows) v other at (unnamed rows n row h.within h.read h.apart) in
    let same = h.now.others other.drive apart in
    subst (λ k. StoresToDrive k (drive_at l other.drive) (drive_at p other.drive) (blocks_of volumes v)) (sym same.0) (subst (λ s. StoresToDrive (is_marked b other.drive) (drive_at l other.drive) s (blocks_of volumes v)) (sym same.1) (h.before.stores v other at unmarked))

next_stores : (n : ℕ) (rows : List VolumeRow) (volumes : List (List (List ℕ))) (a b c : List Bool) (l m p : List SeenDrive) (row : VolumeRow) → IsNext n rows volumes a b c l m p row → (v : ℕ) (other : VolumeRow) → IsRowAt (take (n + 1) rows) v other → is_marked a other.drive ≡ false → StoresToDrive (is_marked c other.drive) (drive_at l other.drive) (drive_at p other.drive) (blocks_of volumes v)
next_stores n rows volumes a b c l m p row h v other at unmarked =
    let low : v < n + 1 = within_first rows (n + 1) v other (omega (arith, h.within)) at in
    let there : IsRowAt rows v other = of_first rows (n + 1) v other low at in
    both (v == n)
    (λ e. let same : v ≡ n = eqb-true v n e in
    let here : row ≡ other = same_row rows n row other h.read (subst (λ k. IsRowAt rows k other) same there) in
    let stored : is_marked a other.drive ≡ false → StoresToDrive (is_marked c other.drive) (drive_at l other.drive) (drive_at p other.drive) (blocks_of volumes n) =
    subst (λ (r : VolumeRow). is_marked a r.drive ≡ false → StoresToDrive (is_marked c r.drive) (drive_at l r.drive) (drive_at p r.drive) (blocks_of volumes n)) here (next_here n rows volumes a b c l m p row h) in
    subst (λ k. StoresToDrive (is_marked c other.drive) (drive_at l other.drive) (drive_at p other.drive) (blocks_of volumes k)) (sym same) (stored unmarked))
    (λ e. let other_place : (v ≡ n → ⊥) = eqb-false v n e in
    next_before n rows volumes a b c l m p row h v other (to_first rows n v other (omega (arith, low, other_place)) there) unmarked)

next_others : (n : ℕ) (rows : List VolumeRow) (volumes : List (List (List ℕ))) (a b c : List Bool) (l m p : List SeenDrive) (row : VolumeRow) → IsNext n rows volumes a b c l m p row → (d : ℕ) → All (λ r. r.drive ≢ d) (take (n + 1) rows) → DriveStays a c l p d
next_others n rows volumes a b c l m p row h d none =
    let P : VolumeRow → Type 0 = λ r. r.drive ≢ d in
    let last : row.drive ≢ d = all_last P rows n row h.within h.read none in
    stays_then a b c l m p d (h.before.others d (all_fewer P rows n h.within none)) (h.now.others d (λ e. last (sym e)))

pub next_stored : (n : ℕ) (rows : List VolumeRow) (volumes : List (List (List ℕ))) (a b c : List Bool) (l m p : List SeenDrive) (row : VolumeRow) → IsNext n rows volumes a b c l m p row → StoresToDrives (take (n + 1) rows) volumes a c l p
next_stored n rows volumes a b c l m p row h = record {
  marked = next_marked n rows volumes a b c l m p row h;
  stores = next_stores n rows volumes a b c l m p row h;
  others = next_others n rows volumes a b c l m p row h;
}

-- the next row's drive has still as many blocks as its volume
pub still_fits : (n : ℕ) (rows : List VolumeRow) (volumes : List (List (List ℕ))) (a b : List Bool) (l m : List SeenDrive) (row : VolumeRow) → n < length rows → row ≡ slice_index_or rows n row → AreApart rows → FitRows rows volumes → All (FitsDrive l) rows → StoresToDrives (take n rows) volumes a b l m → length (blocks_of volumes n) ≡ (drive_at m row.drive).size
still_fits n rows volumes a b l m row h read apart sizes fit before =
    let same = before.others row.drive (unnamed rows n row h read apart) in
    blocks_fit rows volumes n row h read sizes ∙ sym (at_place (FitsDrive l) rows n row h read fit) ∙ ap (λ d. d.size) (sym same.1)
