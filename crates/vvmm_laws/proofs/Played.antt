-- A run that was to be made, by its counts of faults.
use Rattle.std.proofs.Common.{ℕ, ◌≡◌, ◌<◌, ◌+◌, ◌==◌, ◌⊎◌, inl, inr, List, [], length, take, Bool, true, false, All, Option, Some, None, Result, Ok, Err, refl, subst, sym, ap, ◌∙◌, arith}
use Rattle.sys_runs.specs.Besides.{MissesArePaid}
use Rattle.std.proofs.lemmas.Bool.{cases_order, eqb-false, eqb-true}
use Rattle.std.proofs.lemmas.List.{get_or-set_other, get_or-set_same}
use Rattle.vv_io.specs.Blocks.{SeenDrive, unkept}
use Rattle.vv_io.specs.Causes.{Rose}
use Rattle.vv_io.specs.Lines.{Seen}
use Rattle.sys_devices.proofs.Places.{at_stands, to_first}
use Rattle.sys_devices.specs.Loads.{HasFailed, IsMisfit, OnlyRose}
use Rattle.sys_devices.specs.Rows.{FitsDrive, drive_at}
use Rattle.sys_guests.specs.Loads.{first_misfit}
use Rattle.sys_devices.specs.ShownSince.{ShownSince}
use Rattle.sys_devices.specs.Shows.{Shows}
use Rattle.sys_objects.specs.Condition.{IsConfig, IsVolume}
use Rattle.sys_objects.specs.declared.records.Config.{Config}
use Rattle.sys_objects.specs.declared.records.VolumeRow.{VolumeRow}
use Rattle.sys_state.proofs.Places.{both}
use Rattle.sys_state.specs.Run.{Moment}
use Rattle.sys_runs.specs.Ran.{MakesFrom, RunOutside, Runs, StaysDown, Unshown}
use Rattle.sys_runs.specs.Saved.{SavesFrom}
use Rattle.sys_runs.specs.declared.running.Ran.{Ran}
use Rattle.sys_runs.specs.declared.saving.Saved.{Saved}
use Rattle.sys_script.specs.declared.event.Event.{Event}
use Rattle.sys_system.specs.Devices.{device_of}
use Rattle.sys_devices.specs.declared.device.Device.{Device}
use Rattle.sys_system.specs.declared.power.PowerFault.{PowerFault}
use Rattle.sys_system.specs.declared.power.PowerFault.TheVariants.{Image, VolumeSize, DriveIn, NoMemory}
use Rattle.vvmm_call.specs.Answer.{AnswersRun, EndsWithPut, PlaysConfiguration, power_status, status_when_done}
use Rattle.vvmm_files.specs.declared.status.Status.{Status}
use Rattle.vvmm_laws.proofs.Marked.{drive_rose, first_marked, is_there, line_rose, marked_at, no_drive_greater, no_drive_lower, no_line_greater, no_line_lower}
use Rattle.vvmm_laws.specs.Complete.{IsImageOf, IsServed, IsSizeOf, NamesDrive, NamesLine, line_at}

-- what is put is shown, where all was done before and the sink's count did not rise
pub shown_served : (failed : Option Device) (cut : Bool) (bytes : List ℕ) (out out' : Seen) → failed ≡ None → ShownSince cut out out' bytes → (Rose out.faults out'.faults → ⊥) → IsServed (status_when_done failed cut)
shown_served (Some device) cut bytes out out' e shows kept = cc
shown_served None true bytes out out' e shows kept = absurd (kept shows.0)
shown_served None false bytes out out' e shows kept = tt

pub closes_served : (failed : Option Device) (bytes : List ℕ) (status : Status) (out out' : Seen) → failed ≡ None → EndsWithPut failed bytes status out out' → (Rose out.faults out'.faults → ⊥) → IsServed status
closes_served failed bytes status out out' none c kept = subst (λ (s : Status). IsServed s) (sym c.is) (shown_served failed c.cut bytes out out' none c.shows kept)

pub no_device : (line drive : Option ℕ) → ((k : ℕ) → line ≡ Some k → ⊥) → ((d : ℕ) → drive ≡ Some d → ⊥) → device_of line drive ≡ None
no_device None None lines drives = refl
no_device None (Some d) lines drives = absurd (drives d refl)
no_device (Some k) drive lines drives = absurd (lines k refl)

-- where no count rose, no device failed
abbrev pub NoLineRose : RunOutside → Type 0
NoLineRose o = (k : ℕ) → Rose (line_at o.lines k).faults (line_at o.lines' k).faults → ⊥

abbrev pub NoDriveRose : RunOutside → Type 0
NoDriveRose o = (d : ℕ) → Rose (drive_at o.drives d).faults (drive_at o.drives' d).faults → ⊥

pub none_failed : (m : Moment) (es : List Event) (n : ℕ) (ran : Ran) (o : RunOutside) → (MakesFrom MissesArePaid) m es n ran o → NoLineRose o → NoDriveRose o → ran.failed ≡ None
none_failed m es n ran o made lines drives = made.failed ∙ no_device (first_marked made.marks) (first_marked made.drive_marks)
    (λ k e. lines k (line_rose made.marks o.lines o.lines' _ k e made.lines))
    (λ d e. drives d (drive_rose m es n made.drive_marks o.drives o.drives' d made.drives (marked_at made.drive_marks d e)))

-- a drive that failed while its volume was read
pub drive_in_rose : (c : Config) (drives drives' : List SeenDrive) (d : ℕ) → IsConfig c → HasFailed c.volumes drives drives' d → Rose (drive_at drives d).faults (drive_at drives' d).faults
drive_in_rose c drives drives' d accepted failed =
    let volume : IsVolume failed.row = at_stands IsVolume c.volumes failed.place failed.row failed.stands accepted.volumes in
    let first : List VolumeRow = take (failed.place + 1) c.volumes in
    let fits : FitsDrive drives failed.row = at_stands (FitsDrive drives) first failed.place failed.row (to_first c.volumes (failed.place + 1) failed.place failed.row (omega arith) failed.stands) failed.fit in
    let size : (drive_at drives d).size ≡ failed.row.blocks = ap (λ k. (drive_at drives k).size) (sym failed.drive) ∙ fits in
    let within : d < length drives = is_there drives d (omega (arith, size, volume.some_blocks)) in
    let only : OnlyRose drives drives' d = failed.rose in
    let now : (drive_at drives' d).faults ≡ only.faults = ap (λ (ks : List SeenDrive). (drive_at ks d).faults) only.is ∙ ap (λ (k : SeenDrive). k.faults) (get_or-set_same drives d (record (drive_at drives d) { faults = only.faults }) unkept within) in
    subst (λ n. Rose (drive_at drives d).faults n) (sym now) only.rose

-- the first volume whose drive has another size is one
before_fits : (rows : List VolumeRow) (drives : List SeenDrive) (v w : ℕ) → IsMisfit rows drives v → IsMisfit rows drives w → v < w → ⊥
before_fits rows drives v w a b low = a.differs (at_stands (FitsDrive drives) (take w rows) v a.row (to_first rows w v a.row low a.stands) b.before)

pub one_misfit : (rows : List VolumeRow) (drives : List SeenDrive) (v w : ℕ) → IsMisfit rows drives v → IsMisfit rows drives w → v ≡ w
one_misfit rows drives v w a b = by (cases_order v w)
  where
    by : (v ≡ w) ⊎ ((v < w) ⊎ (w < v)) → v ≡ w
    by (inl e) = e
    by (inr (inl low)) = absurd (before_fits rows drives v w a b low)
    by (inr (inr low)) = absurd (before_fits rows drives w v b a low)

-- a line whose count is greater is named, or one of a lower number
pub named_line : (marks : List Bool) (lines lines' : List Seen) (f : ℕ → List ℕ) (k : ℕ) → Shows [] marks lines lines' f → (line_at lines k).faults < (line_at lines' k).faults
    → (line drive : Option ℕ) (cut : Bool) → first_marked marks ≡ line → NamesLine k (status_when_done (device_of line drive) cut)
named_line marks lines lines' f k shows h (Some line) drive cut e = no_line_lower marks lines lines' f line k e shows h
named_line marks lines lines' f k shows h None drive cut e = absurd (no_line_greater marks lines lines' f k e shows h)

-- drives that are as before have no greater count
pub same_drives : (o : RunOutside) (d : ℕ) → (drive_at o.drives d).faults < (drive_at o.drives' d).faults → o.drives' ≡ o.drives → ⊥
same_drives o d h e = omega (arith, h, ap (λ (ks : List SeenDrive). (drive_at ks d).faults) e)

-- Power doesn't come up.
module _ (c : Config) (images : List (List ℕ)) (o : RunOutside) where
  -- .. where images and drives fit, and the drives could be read, only because memory ran out
  pub down_served : (fault : PowerFault) → StaysDown c images fault o → first_misfit c.guests images ≡ None → All (FitsDrive o.drives) c.volumes → ((d : ℕ) → HasFailed c.volumes o.drives o.drives' d → ⊥) → IsServed (power_status fault)
  down_served (Image g) (misfit, rest) fits drives_fit readable = cc (misfit, fits)
  down_served (VolumeSize v) (none, misfit, rest) fits drives_fit readable = absurd (misfit.differs (at_stands (FitsDrive o.drives) c.volumes v misfit.row misfit.stands drives_fit))
  down_served (DriveIn d) (none, failed, rest) fits drives_fit readable = absurd (readable d failed)
  down_served NoMemory rest fits drives_fit readable = tt

  -- the answer names an image that doesn't fit, and then a volume whose drive has another size
  pub down_image : (fault : PowerFault) → StaysDown c images fault o → (g : ℕ) → first_misfit c.guests images ≡ Some g → IsImageOf g (power_status fault)
  down_image (Image h) (misfit, rest) g first = cc (misfit, first)
  down_image (VolumeSize v) (none, other, rest) g first = cc (none, first)
  down_image (DriveIn d) (none, failed, rest) g first = cc (none, first)
  down_image NoMemory rest g first = tt

  pub down_size : (fault : PowerFault) → StaysDown c images fault o → (v : ℕ) → first_misfit c.guests images ≡ None → IsMisfit c.volumes o.drives v → ((d : ℕ) → HasFailed c.volumes o.drives o.drives' d → ⊥) → IsSizeOf v (power_status fault)
  down_size (Image g) (other, rest) v fits misfit readable = cc (other, fits)
  down_size (VolumeSize w) (none, other, rest) v fits misfit readable = one_misfit c.volumes o.drives w v other misfit
  down_size (DriveIn d) (none, failed, rest) v fits misfit readable = absurd (readable d failed)
  down_size NoMemory rest v fits misfit readable = tt

  -- no line was put
  down_unshown : (fault : PowerFault) → StaysDown c images fault o → Unshown o
  down_unshown (Image g) (misfit, untouched) = untouched.shown
  down_unshown (VolumeSize v) (none, misfit, untouched) = untouched.shown
  down_unshown (DriveIn d) (none, failed, shown) = shown
  down_unshown NoMemory untouched = untouched.shown

  pub down_line_kept : (fault : PowerFault) → StaysDown c images fault o → (k : ℕ) → (line_at o.lines k).faults < (line_at o.lines' k).faults → ⊥
  down_line_kept fault down k h = omega (arith, h, ap (λ (ls : List Seen). (line_at ls k).faults) (down_unshown fault down).lines)

  -- a drive whose count is greater is named
  pub down_names_drive : (fault : PowerFault) → StaysDown c images fault o → (d : ℕ) → (drive_at o.drives d).faults < (drive_at o.drives' d).faults → NamesDrive d (power_status fault)
  down_names_drive fault down d h = by fault down
    where
      -- no other drive's count rose
      only : (e : ℕ) → OnlyRose o.drives o.drives' e → e ≡ d
      only e rose = both (e == d) (λ is. eqb-true e d is) (λ is.
          let other : (e ≡ d → ⊥) = eqb-false e d is in
          let kept : drive_at o.drives' d ≡ drive_at o.drives d = ap (λ (ks : List SeenDrive). drive_at ks d) rose.is ∙ get_or-set_other o.drives e d (record (drive_at o.drives e) { faults = rose.faults }) unkept (λ q. other (sym q)) in
          absurd (omega (arith, h, ap (λ (k : SeenDrive). k.faults) kept)))

      by : (fault : PowerFault) → StaysDown c images fault o → NamesDrive d (power_status fault)
      by (Image g) (misfit, untouched) = same_drives o d h untouched.drives
      by (VolumeSize v) (none, misfit, untouched) = same_drives o d h untouched.drives
      by (DriveIn e) (none, failed, shown) = only e failed.rose
      by NoMemory untouched = same_drives o d h untouched.drives

-- Rounds were made: a device that failed is named, whatever was cut then.
module _ (m : Moment) (es : List Event) (n : ℕ) (ran : Ran) (o : RunOutside) (made : (MakesFrom MissesArePaid) m es n ran o) (cut : Bool) where
  pub names_line : (k : ℕ) → (line_at o.lines k).faults < (line_at o.lines' k).faults → NamesLine k (status_when_done ran.failed cut)
  names_line k h =
      subst (λ (f : Option Device). NamesLine k (status_when_done f cut)) (sym made.failed) (named_line made.marks o.lines o.lines' _ k made.lines h (first_marked made.marks) (first_marked made.drive_marks) cut refl)

  -- a drive whose count is greater is named, or a line, or a drive of a lower number
  pub names_drive : (d : ℕ) → (drive_at o.drives d).faults < (drive_at o.drives' d).faults → NamesDrive d (status_when_done ran.failed cut)
  names_drive d h = subst (λ (f : Option Device). NamesDrive d (status_when_done f cut)) (sym made.failed) (named (first_marked made.marks) (first_marked made.drive_marks) refl)
    where
      named : (line drive : Option ℕ) → first_marked made.drive_marks ≡ drive → NamesDrive d (status_when_done (device_of line drive) cut)
      named (Some line) drive e = tt
      named None (Some drive) e = no_drive_lower m es n made.drive_marks o.drives o.drives' d made.drives drive e h
      named None None e = absurd (no_drive_greater m es n made.drive_marks o.drives o.drives' d made.drives e h)

-- Then bytes were put.
module _ (m : Moment) (es : List Event) (n : ℕ) (ran : Ran) (o : RunOutside) (made : (MakesFrom MissesArePaid) m es n ran o) (bytes : List ℕ) (status : Status) (out out' : Seen) (closes : EndsWithPut ran.failed bytes status out out') where
  pub made_served : NoLineRose o → NoDriveRose o → (Rose out.faults out'.faults → ⊥) → IsServed status
  made_served lines drives kept = closes_served ran.failed bytes status out out' (none_failed m es n ran o made lines drives) closes kept

  pub made_names_line : (k : ℕ) → (line_at o.lines k).faults < (line_at o.lines' k).faults → NamesLine k status
  made_names_line k h = subst (λ (s : Status). NamesLine k s) (sym closes.is) (names_line m es n ran o made closes.cut k h)

  pub made_names_drive : (d : ℕ) → (drive_at o.drives d).faults < (drive_at o.drives' d).faults → NamesDrive d status
  made_names_drive d h = subst (λ (s : Status). NamesDrive d s) (sym closes.is) (names_drive m es n ran o made closes.cut d h)

-- Or their last moment was.
module _ (m : Moment) (es : List Event) (n : ℕ) (text : List ℕ) (saved : Saved) (o : RunOutside) (out out' : Seen) (saves : (SavesFrom MissesArePaid) m es n text saved o out out') (status : Status) (is : status ≡ status_when_done saved.failed saved.is_cut) where
  pub saved_served : NoLineRose o → (Rose out.faults out'.faults → ⊥) → IsServed status
  saved_served lines kept =
      let failed : saved.failed ≡ None = saves.failed ∙ no_device (first_marked saves.marks) None (λ k e. lines k (line_rose saves.marks o.lines o.lines' _ k e saves.lines)) (λ d e. cc) in
      subst (λ (s : Status). IsServed s) (sym is) (shown_served saved.failed saved.is_cut _ out out' failed saves.shown kept)

  pub saved_names_line : (k : ℕ) → (line_at o.lines k).faults < (line_at o.lines' k).faults → NamesLine k status
  saved_names_line k h =
      let named : status ≡ status_when_done (device_of (first_marked saves.marks) None) saved.is_cut = is ∙ ap (λ (f : Option Device). status_when_done f saved.is_cut) saves.failed in
      subst (λ (s : Status). NamesLine k s) (sym named) (named_line saves.marks o.lines o.lines' _ k saves.lines h (first_marked saves.marks) None saved.is_cut refl)

module _ (c : Config) (images : List (List ℕ)) (es : List Event) (rounds : ℕ) (status : Status) (o : RunOutside) (out out' : Seen) (p : (PlaysConfiguration MissesArePaid) c images es rounds status o out out') where
  -- images and drives that fit, and no risen count, are served
  pub plays_served : first_misfit c.guests images ≡ None → All (FitsDrive o.drives) c.volumes → ((d : ℕ) → HasFailed c.volumes o.drives o.drives' d → ⊥) → NoLineRose o → NoDriveRose o → (Rose out.faults out'.faults → ⊥) → IsServed status
  plays_served fits drives_fit readable lines drives kept = by p.result p.runs p.answers
    where
      by : (result : Result Ran PowerFault) → (Runs MissesArePaid) c images es rounds result o → AnswersRun rounds result status out out' → IsServed status
      by (Ok ran) (volumes, made) closes = made_served _ _ _ ran o made.makes _ status out out' closes lines drives kept
      by (Err fault) down (answer, same) = subst (λ (s : Status). IsServed s) (sym answer) (down_served c images o fault down fits drives_fit readable)

  -- the answer names an image that doesn't fit, and then a volume whose drive has another size
  pub plays_image : (g : ℕ) → first_misfit c.guests images ≡ Some g → IsImageOf g status
  plays_image g first = by p.result p.runs p.answers
    where
      by : (result : Result Ran PowerFault) → (Runs MissesArePaid) c images es rounds result o → AnswersRun rounds result status out out' → IsImageOf g status
      by (Ok ran) (volumes, made) closes = absurd (cc (made.fits, first))
      by (Err fault) down (answer, same) = subst (λ (s : Status). IsImageOf g s) (sym answer) (down_image c images o fault down g first)

  pub plays_size : (v : ℕ) → first_misfit c.guests images ≡ None → IsMisfit c.volumes o.drives v → ((d : ℕ) → HasFailed c.volumes o.drives o.drives' d → ⊥) → IsSizeOf v status
  plays_size v fits misfit readable = by p.result p.runs p.answers
    where
      by : (result : Result Ran PowerFault) → (Runs MissesArePaid) c images es rounds result o → AnswersRun rounds result status out out' → IsSizeOf v status
      by (Ok ran) (volumes, made) closes = absurd (misfit.differs (at_stands (FitsDrive o.drives) c.volumes v misfit.row misfit.stands made.loaded.fit))
      by (Err fault) down (answer, same) = subst (λ (s : Status). IsSizeOf v s) (sym answer) (down_size c images o fault down v fits misfit readable)

  pub plays_names_line : (k : ℕ) → (line_at o.lines k).faults < (line_at o.lines' k).faults → NamesLine k status
  plays_names_line k h = by p.result p.runs p.answers
    where
      by : (result : Result Ran PowerFault) → (Runs MissesArePaid) c images es rounds result o → AnswersRun rounds result status out out' → NamesLine k status
      by (Ok ran) (volumes, made) closes = made_names_line _ _ _ ran o made.makes _ status out out' closes k h
      by (Err fault) down answers = absurd (down_line_kept c images o fault down k h)

  pub plays_names_drive : (d : ℕ) → (drive_at o.drives d).faults < (drive_at o.drives' d).faults → NamesDrive d status
  plays_names_drive d h = by p.result p.runs p.answers
    where
      by : (result : Result Ran PowerFault) → (Runs MissesArePaid) c images es rounds result o → AnswersRun rounds result status out out' → NamesDrive d status
      by (Ok ran) (volumes, made) closes = made_names_drive _ _ _ ran o made.makes _ status out out' closes d h
      by (Err fault) down (answer, same) = subst (λ (s : Status). NamesDrive d s) (sym answer) (down_names_drive c images o fault down d h)
