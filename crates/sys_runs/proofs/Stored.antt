-- What the drives have after rounds from a moment on.
use Rattle.std.proofs.Common.{ℕ, zero, suc, ◌≡◌, ◌≢◌, ◌<◌, List, [], ◌∷◌, length, replicate, slice_index_or, refl, sym, ◌∙◌, ap, subst, arith, Bool, true, false, All, Some, option_map}
use Rattle.std.proofs.lemmas.Bool.{eq-eqb, ne_eqb}
use Rattle.std.proofs.lemmas.List.{ext_get_or, get_or_default}
use Rattle.vv_io.specs.Blocks.{SeenDrive, unkept}
use Rattle.sys_devices.proofs.Places.{stands}
use Rattle.sys_devices.specs.Rows.{drive_at}
use Rattle.sys_devices.specs.Stores.{StoresToDrive, StoresToDrives, is_marked}
use Rattle.sys_objects.specs.Condition.{IsConfig}
use Rattle.sys_objects.specs.declared.records.VolumeRow.{VolumeRow}
use Rattle.sys_state.specs.Bytes.{blocks_at, drive_blocks_from, is_on_drive}
use Rattle.sys_state.specs.Places.{place_of}
use Rattle.sys_state.specs.Run.{Moment, rounds_from}
use Rattle.sys_runs.specs.Laws.{TouchesNoDrive}
use Rattle.sys_runs.specs.Ran.{StoresFrom}
use Rattle.sys_script.specs.declared.event.Event.{Event}
use Rattle.sys_store.specs.Blocks.{blocks_of}

-- nothing is marked at first
pub unmarked : (n k : ℕ) → slice_index_or (replicate n false) k false ≡ false
unmarked zero k = refl
unmarked (suc n) zero = refl
unmarked (suc n) (suc k) = unmarked n k

-- the first that passes
first_place : {X : Type 0} (p : X → Bool) (xs : List X) (k : ℕ) (d : X) → k < length xs → p (slice_index_or xs k d) ≡ true → ((j : ℕ) → j < k → p (slice_index_or xs j d) ≡ false) → place_of p xs ≡ Some k
first_place p [] k d h here none = absurd (omega (arith, h))
first_place p (x ∷ xs) zero d h here none = rw here refl
first_place p (x ∷ xs) (suc k) d h here none =
    let later : p x ≡ false = none 0 (omega arith) in
    rw later (ap (option_map suc) (first_place p xs k d (omega (arith, h)) here (λ j low. none (suc j) (omega (arith, low)))))

module _ (m : Moment) (es : List Event) (n : ℕ) (volumes : List (List (List ℕ))) (marks : List Bool) (drives drives' : List SeenDrive) (accepted : IsConfig m.config) (same : volumes ≡ (rounds_from m es n).now.volumes) (all : StoresToDrives m.config.volumes volumes (replicate 16 false) marks drives drives') where
  abbrev rows : List VolumeRow
  rows = m.config.volumes

  -- a volume is the one on its drive
  here : (k : ℕ) (d : VolumeRow) → k < length rows → drive_blocks_from m es n (slice_index_or rows k d).drive ≡ blocks_of volumes k
  here k d h =
      let drive = (slice_index_or rows k d).drive in
      let first : place_of (is_on_drive drive) rows ≡ Some k = first_place (is_on_drive drive) rows k d h (eq-eqb drive drive refl) (λ j low. ne_eqb (slice_index_or rows j d).drive drive (accepted.drives j k d low h)) in
      ap (blocks_at (rounds_from m es n).now.volumes) first ∙ ap (λ vs. blocks_of vs k) (sym same)

  pub stored : length drives' ≡ length drives → StoresFrom m es n marks drives drives'
  stored size = record {
    stores = λ k d h.
        let row = slice_index_or rows k d in
        subst (λ blocks. StoresToDrive (is_marked marks row.drive) (drive_at drives row.drive) (drive_at drives' row.drive) blocks) (sym (here k d h)) (all.stores k row (stands rows k row h (get_or_default rows k d row h)) (unmarked 16 row.drive));
    others = λ d none. ((all.others d none).0 ∙ unmarked 16 d, (all.others d none).1);
    size = size;
  }

pub touches_no_drive : TouchesNoDrive
touches_no_drive x ran o none made = ext_get_or unkept o.drives' o.drives made.makes.drives.size (λ d h. (made.makes.drives.others d (subst (λ (rows : List VolumeRow). All (λ row. row.drive ≢ d) rows) (sym none) (λ k e within. absurd (omega (arith, within))))).1)
