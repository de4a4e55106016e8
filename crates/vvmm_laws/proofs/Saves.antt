-- Which answer must be given to `save`.
use Rattle.std.proofs.Common.{ℕ, ◌≡◌, ◌<◌, inl, inr, List, Option, Some, None, All, Result, Ok, Err, subst, sym, ap, arith}
use Rattle.sys_runs.specs.Besides.{MissesArePaid}
use Rattle.vv_io.specs.Causes.{Rose}
use Rattle.vv_io.specs.Lines.{Seen}
use Rattle.vv_io.specs.Shelf.{File}
use Rattle.sys_devices.proofs.Places.{at_stands}
use Rattle.sys_devices.specs.Loads.{HasFailed, IsMisfit}
use Rattle.sys_devices.specs.Rows.{FitsDrive}
use Rattle.sys_guests.specs.Loads.{first_misfit}
use Rattle.sys_objects.specs.declared.records.Config.{Config}
use Rattle.sys_runs.specs.Saved.{SavesRun}
use Rattle.sys_runs.specs.declared.saving.Saved.{Saved}
use Rattle.sys_script.specs.declared.event.Event.{Event}
use Rattle.sys_system.specs.declared.power.PowerFault.{PowerFault}
use Rattle.vvmm_call.specs.Answer.{AnswersSave, Outside, PlaysSave, run_outside, fault_status}
use Rattle.vvmm_files.specs.Files.{FitsSnap, HasAll, HasAllToSave, HasConfig, HasNoRoom, IsNextFile, IsNextToSave, IsTooLarge, StopsRun, StopsSave}
use Rattle.vvmm_files.specs.Words.{RunWords}
use Rattle.vvmm_files.specs.declared.status.Status.{Status}
use Rattle.vvmm_files.specs.declared.status.Status.TheVariants as answers
use Rattle.vvmm_files.specs.declared.stop.CommandFault.{CommandFault}
use Rattle.vvmm_files.specs.declared.stop.CommandFault.TheVariants.{Missing, TooLong, ShelfFault, Config as ConfigRefused, Script as ScriptRefused, SnapSize, Snap as SnapRefused, NoMemory}
use Rattle.vvmm_laws.proofs.Chosen.{line_stop, long_stop, misfit_told, missing_stop, only_memory, readable, rule_stop, same_config}
use Rattle.vvmm_laws.proofs.Nexts.{all_read, config_read, script_read}
use Rattle.vvmm_laws.proofs.Played.{NoLineRose, down_image, down_line_kept, down_served, down_size, saved_names_line, saved_served}
use Rattle.vvmm_laws.proofs.Told.{Unread, lacked, not_config, not_script, one_config, one_text, too_long}
use Rattle.vvmm_laws.specs.Complete.{IsImageOf, IsMissing, IsServed, IsSizeOf, IsTooLong, NamesLine, TellsLine, TellsRule, line_at}
use Rattle.vvmm_laws.specs.Snaps.{CompletesSave, IsSnapSize, TellsSaveImage, TellsSaveLine, TellsSaveLineFault, TellsSaveMissing, TellsSaveRule, TellsSaveSize, TellsSaveTooLong, TellsSnapSize}

-- a snapshot can't be written and be too large
no_room : (text : List ℕ) (c : Config) → FitsSnap text c → IsTooLarge text c → ⊥
no_room text c fits (inl more) = omega (arith, more, fits.bytes)
no_room text c fits (inr more) = omega (arith, more, fits.short)

module _ (files : List File) (a : RunWords) where
  -- where a snapshot fits by one configuration of the files, it does so by each
  room_is : (c : Config) (has : HasConfig (Some files) a.config c) → FitsSnap has.text c → HasNoRoom (Some files) a → ⊥
  room_is c has fits large =
      let text : has.text ≡ large.has_config.text = one_text files a.config has.text large.has_config.text has.read large.has_config.read in
      let config : c ≡ large.config = one_config files a.config c large.config has large.has_config in
      no_room large.has_config.text large.config (subst (λ (d : Config). FitsSnap large.has_config.text d) config (subst (λ (xs : List ℕ). FitsSnap xs c) text fits)) large.large

  all_room : (text : List ℕ) (c : Config) (es : List Event) (images : List (List ℕ)) → HasAllToSave (Some files) a text c es images → HasNoRoom (Some files) a → ⊥
  all_room text c es images has large = room_is c has.all.config (subst (λ (xs : List ℕ). FitsSnap xs c) has.is has.fits) large

  -- a file that is fetched next is one of a run
  as_next : (n : List ℕ) → IsNextToSave (Some files) a n → IsNextFile (Some files) a n
  as_next n (inl e) = inl e
  as_next n (inr (inl s)) = inr (inl s)
  as_next n (inr (inr t)) = inr (inr t.image)

  -- where the snapshot would be too large, no file that is fetched next can't be read
  room_read : (n : List ℕ) → HasNoRoom (Some files) a → IsNextToSave (Some files) a n → Unread files n → ⊥
  room_read n large (inl e) none = config_read files a n large.config e none large.has_config
  room_read n large (inr (inl s)) none = script_read files a n large.events s.is none large.has_script
  room_read n large (inr (inr t)) none = room_is t.image.config t.image.has_config t.fits large

  -- a stop is one of a run, or a snapshot that would be too large
  save_stop : (Told : Status → Type 0) (before now : ℕ) (stop : CommandFault) → StopsSave (Some files) a before now stop → (StopsRun (Some files) a before now stop → Told (fault_status stop)) → (HasNoRoom (Some files) a → Told answers.SnapSize) → Told (fault_status stop)
  save_stop Told before now (Missing n) (next, rest) run room = run (as_next n next, rest)
  save_stop Told before now (TooLong n) (next, rest) run room = run (as_next n next, rest)
  save_stop Told before now ShelfFault why run room = run why
  save_stop Told before now (ConfigRefused f) why run room = run why
  save_stop Told before now (ScriptRefused f) why run room = run why
  save_stop Told before now SnapSize (large, kept) run room = room large
  save_stop Told before now (SnapRefused f) why run room = run why
  save_stop Told before now NoMemory why run room = run why

  size_stop : (before now : ℕ) → (Rose before now → ⊥) → (stop : CommandFault) → StopsSave (Some files) a before now stop → HasNoRoom (Some files) a → IsSnapSize (fault_status stop)
  size_stop before now none (Missing n) (next, lacks) large = room_read n large next (lacked files n lacks)
  size_stop before now none (TooLong n) (next, long) large = room_read n large next (too_long files n long)
  size_stop before now none ShelfFault rose large = none rose
  size_stop before now none (ConfigRefused f) (refused, kept) large = not_config files a.config large.config f large.has_config refused
  size_stop before now none (ScriptRefused f) (c, config, refused, kept) large = not_script files a.script large.events f large.has_script refused
  size_stop before now none SnapSize why large = tt
  size_stop before now none (SnapRefused f) why large = why
  size_stop before now none NoMemory why large = tt

-- The shelf's files are known, and the fetch stopped.
module _ (o : Outside) (files : List File) (a : RunWords) (told : o.files ≡ Some files) (Told : Status → Type 0) where
  stopped : (stop : CommandFault) (status : Status) → status ≡ fault_status stop → StopsSave o.files a o.shelf o.shelf' stop → (StopsRun (Some files) a o.shelf o.shelf' stop → Told (fault_status stop)) → (HasNoRoom (Some files) a → Told answers.SnapSize) → Told status
  stopped stop status is why run room =
      subst Told (sym is) (save_stop files a Told o.shelf o.shelf' stop (subst (λ (f : Option (List File)). StopsSave f a o.shelf o.shelf' stop) told why) run room)

has_told : (o : Outside) (files : List File) (a : RunWords) (status : Status) (p : (PlaysSave MissesArePaid) a status o) → o.files ≡ Some files → HasAllToSave (Some files) a p.text p.config p.events p.images
has_told o files a status p told = subst (λ (f : Option (List File)). HasAllToSave f a p.text p.config p.events p.images) told p.has

module _ (a : RunWords) (status : Status) (o : Outside) (p : (PlaysSave MissesArePaid) a status o) where
  saves_served : first_misfit p.config.guests p.images ≡ None → All (FitsDrive o.drives) p.config.volumes → ((d : ℕ) → HasFailed p.config.volumes o.drives o.drives' d → ⊥) → NoLineRose (run_outside o) → (Rose o.out.faults o.out'.faults → ⊥) → IsServed status
  saves_served fits drives_fit could lines kept = by p.result p.saves p.answers
    where
      by : (result : Result Saved PowerFault) → (SavesRun MissesArePaid) p.config p.text p.images p.events a.rounds result (run_outside o) o.out o.out' → AnswersSave result status → IsServed status
      by (Ok saved) (volumes, saves) answer = saved_served _ _ _ _ saved (run_outside o) o.out o.out' saves.saves status answer lines kept
      by (Err fault) (down, same) answer = subst (λ (s : Status). IsServed s) (sym answer) (down_served p.config p.images (run_outside o) fault down fits drives_fit could)

  saves_image : (g : ℕ) → first_misfit p.config.guests p.images ≡ Some g → IsImageOf g status
  saves_image g first = by p.result p.saves p.answers
    where
      by : (result : Result Saved PowerFault) → (SavesRun MissesArePaid) p.config p.text p.images p.events a.rounds result (run_outside o) o.out o.out' → AnswersSave result status → IsImageOf g status
      by (Ok saved) (volumes, saves) answer = absurd (cc (saves.fits, first))
      by (Err fault) (down, same) answer = subst (λ (s : Status). IsImageOf g s) (sym answer) (down_image p.config p.images (run_outside o) fault down g first)

  saves_size : (v : ℕ) → first_misfit p.config.guests p.images ≡ None → IsMisfit p.config.volumes o.drives v → ((d : ℕ) → HasFailed p.config.volumes o.drives o.drives' d → ⊥) → IsSizeOf v status
  saves_size v fits misfit could = by p.result p.saves p.answers
    where
      by : (result : Result Saved PowerFault) → (SavesRun MissesArePaid) p.config p.text p.images p.events a.rounds result (run_outside o) o.out o.out' → AnswersSave result status → IsSizeOf v status
      by (Ok saved) (volumes, saves) answer = absurd (misfit.differs (at_stands (FitsDrive o.drives) p.config.volumes v misfit.row misfit.stands saves.loaded.fit))
      by (Err fault) (down, same) answer = subst (λ (s : Status). IsSizeOf v s) (sym answer) (down_size p.config p.images (run_outside o) fault down v fits misfit could)

  saves_names_line : (k : ℕ) → (line_at o.lines k).faults < (line_at o.lines' k).faults → NamesLine k status
  saves_names_line k h = by p.result p.saves p.answers
    where
      by : (result : Result Saved PowerFault) → (SavesRun MissesArePaid) p.config p.text p.images p.events a.rounds result (run_outside o) o.out o.out' → AnswersSave result status → NamesLine k status
      by (Ok saved) (volumes, saves) answer = saved_names_line _ _ _ _ saved (run_outside o) o.out o.out' saves.saves status answer k h
      by (Err fault) (down, same) answer = absurd (down_line_kept p.config p.images (run_outside o) fault down k h)

pub completes_save : CompletesSave
completes_save a status o files text c es images (inl (stops, silent)) told has fits drives none =
    stopped o files a told IsServed stops.stop status stops.is stops.why
    (λ why. subst (λ (s : Status). IsServed s) (sym (only_memory files a o.shelf o.shelf' none.shelf stops.stop c es images why has.all)) tt)
    (λ large. absurd (all_room files a text c es images has large))
completes_save a status o files text c es images (inr p) told has fits drives none =
    let all : HasAll (Some files) a p.config p.events p.images = (has_told o files a status p told).all in
    let misfit : first_misfit p.config.guests p.images ≡ None = misfit_told files a c p.config es p.events images p.images has.all all None fits in
    let fit : All (FitsDrive o.drives) p.config.volumes = subst (λ (d : Config). All (FitsDrive o.drives) d.volumes) (same_config files a c p.config es p.events images p.images has.all all) drives in
    saves_served a status o p misfit fit (readable files a.config p.config (run_outside o) all.config none.drives) none.lines none.out

pub tells_save_missing : TellsSaveMissing
tells_save_missing a status o files name (inl (stops, silent)) told next lacks none =
    stopped o files a told (IsMissing name) stops.stop status stops.is stops.why
    (λ why. missing_stop files a o.shelf o.shelf' none stops.stop name why (as_next files a name next) lacks)
    (λ large. absurd (room_read files a name large next (lacked files name lacks)))
tells_save_missing a status o files name (inr p) told next lacks none =
    absurd (all_read files a name p.config p.events p.images (has_told o files a status p told).all (as_next files a name next) (lacked files name lacks))

pub tells_save_too_long : TellsSaveTooLong
tells_save_too_long a status o files name (inl (stops, silent)) told next long none =
    stopped o files a told (IsTooLong name) stops.stop status stops.is stops.why
    (λ why. long_stop files a o.shelf o.shelf' none stops.stop name why (as_next files a name next) long)
    (λ large. absurd (room_read files a name large next (too_long files name long)))
tells_save_too_long a status o files name (inr p) told next long none =
    absurd (all_read files a name p.config p.events p.images (has_told o files a status p told).all (as_next files a name next) (too_long files name long))

pub tells_save_rule : TellsSaveRule
tells_save_rule a status o files f (inl (stops, silent)) told refused none =
    stopped o files a told (TellsRule f) stops.stop status stops.is stops.why (λ why. rule_stop files a o.shelf o.shelf' none stops.stop f why refused) (λ large. absurd (not_config files a.config large.config f large.has_config refused))
tells_save_rule a status o files f (inr p) told refused none = absurd (not_config files a.config p.config f (has_told o files a status p told).all.config refused)

pub tells_save_line : TellsSaveLine
tells_save_line a status o files c f (inl (stops, silent)) told has refused none =
    stopped o files a told (TellsLine f) stops.stop status stops.is stops.why (λ why. line_stop files a o.shelf o.shelf' none stops.stop c f why has refused) (λ large. absurd (not_script files a.script large.events f large.has_script refused))
tells_save_line a status o files c f (inr p) told has refused none = absurd (not_script files a.script p.events f (has_told o files a status p told).all.script refused)

pub tells_snap_size : TellsSnapSize
tells_snap_size a status o files (inl (stops, silent)) told large none =
    subst (λ (s : Status). IsSnapSize s) (sym stops.is) (size_stop files a o.shelf o.shelf' none stops.stop (subst (λ (f : Option (List File)). StopsSave f a o.shelf o.shelf' stops.stop) told stops.why) large)
tells_snap_size a status o files (inr p) told large none = absurd (all_room files a p.text p.config p.events p.images (has_told o files a status p told) large)

pub tells_save_image : TellsSaveImage
tells_save_image a status o files text c es images g (inl (stops, silent)) told has misfit none =
    stopped o files a told (IsImageOf g) stops.stop status stops.is stops.why
    (λ why. subst (λ (s : Status). IsImageOf g s) (sym (only_memory files a o.shelf o.shelf' none stops.stop c es images why has.all)) tt)
    (λ large. absurd (all_room files a text c es images has large))
tells_save_image a status o files text c es images g (inr p) told has misfit none = saves_image a status o p g (misfit_told files a c p.config es p.events images p.images has.all (has_told o files a status p told).all (Some g) misfit)

pub tells_save_size : TellsSaveSize
tells_save_size a status o files text c es images v (inl (stops, silent)) told has fits misfit none =
    stopped o files a told (IsSizeOf v) stops.stop status stops.is stops.why
    (λ why. subst (λ (s : Status). IsSizeOf v s) (sym (only_memory files a o.shelf o.shelf' none.shelf stops.stop c es images why has.all)) tt)
    (λ large. absurd (all_room files a text c es images has large))
tells_save_size a status o files text c es images v (inr p) told has fits misfit none =
    let all : HasAll (Some files) a p.config p.events p.images = (has_told o files a status p told).all in
    let fit : first_misfit p.config.guests p.images ≡ None = misfit_told files a c p.config es p.events images p.images has.all all None fits in
    let sized : IsMisfit p.config.volumes o.drives v = subst (λ (d : Config). IsMisfit d.volumes o.drives v) (same_config files a c p.config es p.events images p.images has.all all) misfit in
    saves_size a status o p v fit sized (readable files a.config p.config (run_outside o) all.config none.drives)

pub tells_save_line_fault : TellsSaveLineFault
tells_save_line_fault a status o k (inl (stops, silent)) h = absurd (omega (arith, h, ap (λ (ls : List Seen). (line_at ls k).faults) silent.run.shown.lines))
tells_save_line_fault a status o k (inr p) h = saves_names_line a status o p k h
