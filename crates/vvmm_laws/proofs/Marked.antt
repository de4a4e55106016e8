-- Marks and counts: which lines and drives failed, and the first of them.
use Rattle.std.proofs.Common.{ℕ, zero, suc, ◌≡◌, ◌≢◌, ◌<◌, ◌≤◌, ◌==◌, ◌⊎◌, inl, inr, List, [], ◌∷◌, length, slice_index_or, Bool, true, false, All, Option, Some, None, option_map, refl, subst, ap, arith}
use Rattle.std.proofs.lemmas.Bool.{eqb-false, eqb-true}
use Rattle.vv_io.specs.Blocks.{SeenDrive}
use Rattle.vv_io.specs.Causes.{Rose}
use Rattle.vv_io.specs.Lines.{Seen}
use Rattle.sys_devices.proofs.Places.{at_stands}
use Rattle.sys_devices.specs.Rows.{IsRowAt, drive_at}
use Rattle.sys_devices.specs.Stores.{IsCut, StoresToDrive, is_marked}
use Rattle.sys_devices.specs.ShownSince.{ShownSince}
use Rattle.sys_devices.specs.Shows.{Shows}
use Rattle.sys_objects.specs.declared.records.VolumeRow.{VolumeRow}
use Rattle.sys_state.proofs.Places.{both}
use Rattle.sys_state.specs.Bytes.{drive_blocks_from}
use Rattle.sys_state.specs.Places.{place_of}
use Rattle.sys_state.specs.Run.{Moment}
use Rattle.sys_runs.specs.Ran.{StoresFrom}
use Rattle.sys_script.specs.declared.event.Event.{Event}
use Rattle.vvmm_laws.specs.Complete.{line_at}

-- the first that is marked
abbrev pub first_marked : List Bool → Option ℕ
first_marked marks = place_of (λ b. b) marks

pub marked_at : (marks : List Bool) (k : ℕ) → first_marked marks ≡ Some k → slice_index_or marks k false ≡ true
marked_at [] k e = cc
marked_at (true ∷ marks) zero e = refl
marked_at (true ∷ marks) (suc k) e = absurd (zero_is_not k (same_number e))
  where
    same_number : (let o : Option ℕ = Some 0 in o ≡ Some (suc k)) → 0 ≡ suc k
    same_number q = cc

    zero_is_not : (n : ℕ) → 0 ≡ suc n → ⊥
    zero_is_not n q = omega (arith, q)
marked_at (false ∷ marks) k e = by (first_marked marks) k (λ n. marked_at marks n) e
  where
    by : (o : Option ℕ) (k : ℕ) → ((n : ℕ) → o ≡ Some n → slice_index_or marks n false ≡ true) → option_map suc o ≡ Some k → slice_index_or (false ∷ marks) k false ≡ true
    by None k rest e = cc
    by (Some n) zero rest e = cc
    by (Some n) (suc k) rest e = rest k (cc (e))

-- where none is, none is marked
pub none_marked : (marks : List Bool) (k : ℕ) → first_marked marks ≡ None → slice_index_or marks k false ≡ false
none_marked [] k e = refl
none_marked (true ∷ marks) k e = cc
none_marked (false ∷ marks) zero e = refl
none_marked (false ∷ marks) (suc k) e = none_marked marks k (by (first_marked marks) e)
  where
    by : (o : Option ℕ) → option_map suc o ≡ None → o ≡ None
    by None e = refl
    by (Some n) e = cc

none_before : (marks : List Bool) (first k : ℕ) → first_marked marks ≡ Some first → slice_index_or marks k false ≡ true → first ≤ k
none_before [] first k e h = cc
none_before (true ∷ marks) first k e h = let zeroth : 0 ≡ first = cc (e) in omega (arith, zeroth)
none_before (false ∷ marks) first zero e h = cc
none_before (false ∷ marks) first (suc k) e h = by (first_marked marks) first (λ n is. none_before marks n k is h) e
  where
    by : (o : Option ℕ) (first : ℕ) → ((n : ℕ) → o ≡ Some n → n ≤ k) → option_map suc o ≡ Some first → first ≤ suc k
    by None first rest e = cc
    by (Some n) first rest e = let one : suc n ≡ first = cc (e) in omega (arith, one, rest n refl)

-- a line's count rose where it is marked, and is as before where it isn't
pub line_rose : (marks : List Bool) (lines lines' : List Seen) (f : ℕ → List ℕ) (k : ℕ) → first_marked marks ≡ Some k → Shows [] marks lines lines' f → Rose (line_at lines k).faults (line_at lines' k).faults
line_rose marks lines lines' f k e shows = (subst (λ b. ShownSince b (line_at lines k) (line_at lines' k) (f k)) (marked_at marks k e) (shows.line k)).0

-- .. and all its bytes are shown
pub line_whole : (marks : List Bool) (lines lines' : List Seen) (f : ℕ → List ℕ) (k : ℕ) → slice_index_or marks k false ≡ false → Shows [] marks lines lines' f → ShownSince false (line_at lines k) (line_at lines' k) (f k)
line_whole marks lines lines' f k e shows = subst (λ b. ShownSince b (line_at lines k) (line_at lines' k) (f k)) e (shows.line k)

line_kept : (marks : List Bool) (lines lines' : List Seen) (f : ℕ → List ℕ) (k : ℕ) → slice_index_or marks k false ≡ false → Shows [] marks lines lines' f → (line_at lines' k).faults ≡ (line_at lines k).faults
line_kept marks lines lines' f k e shows = (line_whole marks lines lines' f k e shows).0

-- where no line failed, no count is greater
pub no_line_greater : (marks : List Bool) (lines lines' : List Seen) (f : ℕ → List ℕ) (k : ℕ) → first_marked marks ≡ None → Shows [] marks lines lines' f → (line_at lines k).faults < (line_at lines' k).faults → ⊥
no_line_greater marks lines lines' f k e shows h = omega (arith, h, line_kept marks lines lines' f k (none_marked marks k e) shows)

-- no lower line than the one that is named has a greater count
pub no_line_lower : (marks : List Bool) (lines lines' : List Seen) (f : ℕ → List ℕ) (line k : ℕ) → first_marked marks ≡ Some line → Shows [] marks lines lines' f → (line_at lines k).faults < (line_at lines' k).faults → line ≤ k
no_line_lower marks lines lines' f line k e shows h = both (slice_index_or marks k false)
    (λ marked. none_before marks line k e marked)
    (λ fine. absurd (omega (arith, h, line_kept marks lines lines' f k fine shows)))

-- a drive is that of a row, or of none
abbrev IsOn : List VolumeRow → ℕ → Type 0
IsOn rows d = (v : ℕ) × (row : VolumeRow) × IsRowAt rows v row × (row.drive ≡ d)

on_row : (rows : List VolumeRow) (d : ℕ) → IsOn rows d ⊎ All (λ row. row.drive ≢ d) rows
on_row [] d = inr (λ k e h. absurd (omega (arith, h)))
on_row (r ∷ rows) d = both (r.drive == d) (λ e. inl (0, r, refl, eqb-true r.drive d e)) (λ e. later (eqb-false r.drive d e) (on_row rows d))
  where
    later : r.drive ≢ d → IsOn rows d ⊎ All (λ row. row.drive ≢ d) rows → IsOn (r ∷ rows) d ⊎ All (λ row. row.drive ≢ d) (r ∷ rows)
    later other (inl (v, row, at, same)) = inl (suc v, row, at, same)
    later other (inr none) = inr all
      where
        all : All (λ row. row.drive ≢ d) (r ∷ rows)
        all zero e h = other
        all (suc k) e h = none k e (omega (arith, h))

module _ (m : Moment) (es : List Event) (n : ℕ) (marks : List Bool) (drives drives' : List SeenDrive) (d : ℕ) (s : StoresFrom m es n marks drives drives') where
  -- what a row's drive has after the rounds
  stored : (v : ℕ) (row : VolumeRow) → IsRowAt m.config.volumes v row → row.drive ≡ d → StoresToDrive (is_marked marks d) (drive_at drives d) (drive_at drives' d) (drive_blocks_from m es n d)
  stored v row at same =
      let here : StoresToDrive (is_marked marks row.drive) (drive_at drives row.drive) (drive_at drives' row.drive) (drive_blocks_from m es n row.drive) =
      at_stands (λ (r : VolumeRow). StoresToDrive (is_marked marks r.drive) (drive_at drives r.drive) (drive_at drives' r.drive) (drive_blocks_from m es n r.drive)) m.config.volumes v row at s.stores in
      subst (λ (k : ℕ). StoresToDrive (is_marked marks k) (drive_at drives k) (drive_at drives' k) (drive_blocks_from m es n k)) same here

  -- a drive's count rose where it is marked, and is as before where it isn't
  pub drive_rose : is_marked marks d ≡ true → Rose (drive_at drives d).faults (drive_at drives' d).faults
  drive_rose e = by (on_row m.config.volumes d)
    where
      by : IsOn m.config.volumes d ⊎ All (λ row. row.drive ≢ d) m.config.volumes → Rose (drive_at drives d).faults (drive_at drives' d).faults
      by (inl (v, row, at, same)) = let cut : IsCut (drive_at drives d) (drive_at drives' d) (drive_blocks_from m es n d) = subst (λ b. StoresToDrive b (drive_at drives d) (drive_at drives' d) (drive_blocks_from m es n d)) e (stored v row at same) in cut.rose
      by (inr none) = let fine : is_marked marks d ≡ false = (s.others d none).0 in cc (e, fine)

  drive_kept : is_marked marks d ≡ false → (drive_at drives' d).faults ≡ (drive_at drives d).faults
  drive_kept e = by (on_row m.config.volumes d)
    where
      by : IsOn m.config.volumes d ⊎ All (λ row. row.drive ≢ d) m.config.volumes → (drive_at drives' d).faults ≡ (drive_at drives d).faults
      by (inl (v, row, at, same)) = ap (λ (k : SeenDrive). k.faults) (subst (λ b. StoresToDrive b (drive_at drives d) (drive_at drives' d) (drive_blocks_from m es n d)) e (stored v row at same))
      by (inr none) = ap (λ (k : SeenDrive). k.faults) (s.others d none).1

  pub no_drive_greater : first_marked marks ≡ None → (drive_at drives d).faults < (drive_at drives' d).faults → ⊥
  no_drive_greater e h = omega (arith, h, drive_kept (none_marked marks d e))

  pub no_drive_lower : (drive : ℕ) → first_marked marks ≡ Some drive → (drive_at drives d).faults < (drive_at drives' d).faults → drive ≤ d
  no_drive_lower drive e h = both (is_marked marks d)
      (λ marked. none_before marks drive d e marked)
      (λ fine. absurd (omega (arith, h, drive_kept fine)))

-- there is such a drive
pub is_there : (drives : List SeenDrive) (d : ℕ) → 1 ≤ (drive_at drives d).size → d < length drives
is_there [] d h = absurd (omega (arith, h))
is_there (k ∷ drives) zero h = omega arith
is_there (k ∷ drives) (suc d) h = let rest : d < length drives = is_there drives d h in omega (arith, rest)
