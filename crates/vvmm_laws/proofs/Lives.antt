-- Which answer must be given to `live`.
use Rattle.std.proofs.Common.{ℕ, ◌≡◌, ◌<◌, inl, inr, List, take, Bool, true, false, Option, Some, None, All, Result, Ok, Err, refl, subst, sym, ap, ◌∙◌, arith}
use Rattle.sys_runs.specs.Besides.{MissesArePaid}
use Rattle.std.specs.List.{slice_get}
use Rattle.vv_io.specs.Blocks.{SeenDrive}
use Rattle.vv_io.specs.Causes.{Rose}
use Rattle.vv_io.specs.Lines.{Seen}
use Rattle.vv_io.specs.Shelf.{File, held}
use Rattle.sys_devices.proofs.Places.{at_stands}
use Rattle.sys_devices.specs.Loads.{HasFailed, IsMisfit}
use Rattle.sys_devices.specs.Rows.{FitsDrive, drive_at}
use Rattle.sys_guests.specs.Loads.{first_misfit}
use Rattle.sys_devices.specs.ShownSince.{ShownSince}
use Rattle.sys_live.specs.Lives.{LivesRun}
use Rattle.sys_live.specs.Operator.{Operator}
use Rattle.sys_live.specs.Typing.{EndsTypedRun}
use Rattle.sys_live.specs.declared.session.Lived.{Lived}
use Rattle.sys_live.specs.declared.typing.Typing.{Typing}
use Rattle.sys_live.specs.declared.typing.Typing.TheVariants.{GoesOn, Over, Broken, Lost}
use Rattle.sys_objects.specs.declared.errors.ConfigFault.{ConfigFault}
use Rattle.sys_objects.specs.declared.records.Config.{Config}
use Rattle.sys_objects.specs.declared.records.GuestRow.{GuestRow}
use Rattle.sys_devices.specs.declared.device.Device.{Device}
use Rattle.sys_system.specs.declared.power.PowerFault.{PowerFault}
use Rattle.sys_system.specs.declared.power.PowerFault.TheVariants as faults
use Rattle.vvmm_call.specs.Answer.{AnswersLive, Outside, PlaysLive, PutsSummary, live_status, power_status, run_outside, status_when_done, fault_status}
use Rattle.vvmm_files.specs.Files.{AreImages, HasAllToLive, IsConfigRefused, IsImageToLive, IsNextToLive, StopsLive}
use Rattle.vvmm_files.specs.Words.{LiveWords}
use Rattle.vvmm_files.specs.declared.status.Status.{Status}
use Rattle.vvmm_files.specs.declared.stop.CommandFault.{CommandFault}
use Rattle.vvmm_files.specs.declared.stop.CommandFault.TheVariants.{Missing, TooLong, ShelfFault, Config as ConfigRefused, Script as ScriptRefused, SnapSize, Snap as SnapRefused, NoMemory}
use Rattle.vvmm_laws.proofs.Chosen.{readable}
use Rattle.vvmm_laws.proofs.Nexts.{first_unread}
use Rattle.vvmm_laws.proofs.Played.{NoDriveRose, NoLineRose, down_image, down_line_kept, down_names_drive, down_served, down_size, names_drive, names_line, none_failed}
use Rattle.vvmm_laws.proofs.Told.{Unread, image_read, lacked, not_config, not_long, one_config, one_images, one_rule, read_as, too_long}
use Rattle.vvmm_laws.specs.Complete.{IsImageOf, IsLong, IsMissing, IsServed, IsSizeOf, IsTooLong, NamesDrive, NamesLine, TellsRule, line_at}
use Rattle.vvmm_laws.specs.Live.{CompletesLive, IsLived, TellsLiveDriveFault, TellsLiveImage, TellsLiveLineFault, TellsLiveMissing, TellsLiveRule, TellsLiveSize, TellsLiveTooLong}

module _ (files : List File) (a : LiveWords) where
  same_image : (n m : List ℕ) → IsImageToLive (Some files) a n → IsImageToLive (Some files) a m → Unread files n → Unread files m → n ≡ m
  same_image n m s t none gone =
      let same : t.config ≡ s.config = one_config files a.config t.config s.config t.has_config s.has_config in
      let before : AreImages (Some files) (take t.guest s.config.guests) t.images = subst (λ (c : Config). AreImages (Some files) (take t.guest c.guests) t.images) same t.before in
      let stands : slice_get s.config.guests t.guest ≡ Some t.row = subst (λ (c : Config). slice_get c.guests t.guest ≡ Some t.row) same t.stands in
      let rows : s.row ≡ t.row = first_unread files s.config.guests s.images t.images s.guest t.guest s.row t.row s.before before s.stands stands (subst (Unread files) s.is none) (subst (Unread files) t.is gone) in
      s.is ∙ ap (λ (row : GuestRow). row.image) rows ∙ sym t.is

  -- two files that are fetched next, and can't be read, are one
  same_next : (n m : List ℕ) → IsNextToLive (Some files) a n → IsNextToLive (Some files) a m → Unread files n → Unread files m → n ≡ m
  same_next n m (inl e) (inl f) none gone = e ∙ sym f
  same_next n m (inl e) (inr t) none gone = absurd (read_as files a.config n t.has_config.text e none t.has_config.read)
  same_next n m (inr s) (inl f) none gone = absurd (read_as files a.config m s.has_config.text f gone s.has_config.read)
  same_next n m (inr s) (inr t) none gone = same_image n m s t none gone

  -- where all files are read, or the configuration is refused, there is none that can't be read
  all_read : (n : List ℕ) (c : Config) (images : List (List ℕ)) → HasAllToLive (Some files) a c images → IsNextToLive (Some files) a n → Unread files n → ⊥
  all_read n c images has (inl e) none = read_as files a.config n has.config.text e none has.config.read
  all_read n c images has (inr t) none =
      let same : t.config ≡ c = one_config files a.config t.config c t.has_config has.config in
      let stands : slice_get c.guests t.guest ≡ Some t.row = subst (λ (d : Config). slice_get d.guests t.guest ≡ Some t.row) same t.stands in
      image_read files c.guests images t.guest t.row has.fetched stands (subst (Unread files) t.is none)

  rule_read : (n : List ℕ) (f : ConfigFault) → IsConfigRefused (Some files) a.config f → IsNextToLive (Some files) a n → Unread files n → ⊥
  rule_read n f refused (inl e) none = read_as files a.config n refused.text e none refused.read
  rule_read n f refused (inr t) none = not_config files a.config t.config f t.has_config refused

module _ (files : List File) (a : LiveWords) (before now : ℕ) (none : Rose before now → ⊥) where
  -- the fetch of the files stops
  only_memory : (stop : CommandFault) (c : Config) (images : List (List ℕ)) → StopsLive (Some files) a before now stop → HasAllToLive (Some files) a c images → fault_status stop ≡ fault_status NoMemory
  only_memory (Missing n) c images (next, lacks) has = absurd (all_read files a n c images has next (lacked files n lacks))
  only_memory (TooLong n) c images (next, long) has = absurd (all_read files a n c images has next (too_long files n long))
  only_memory ShelfFault c images rose has = absurd (none rose)
  only_memory (ConfigRefused f) c images (refused, kept) has = absurd (not_config files a.config c f has.config refused)
  only_memory (ScriptRefused f) c images h has = absurd h
  only_memory SnapSize c images h has = absurd h
  only_memory (SnapRefused f) c images h has = absurd h
  only_memory NoMemory c images h has = refl

  missing_stop : (stop : CommandFault) (name : List ℕ) → StopsLive (Some files) a before now stop → IsNextToLive (Some files) a name → held files name ≡ None → IsMissing name (fault_status stop)
  missing_stop (Missing n) name (next, lacks) mine lack = same_next files a n name next mine (lacked files n lacks) (lacked files name lack)
  missing_stop (TooLong n) name (next, long) mine lack = not_long files name n (same_next files a name n mine next (lacked files name lack) (too_long files n long)) lack long
  missing_stop ShelfFault name rose mine lack = none rose
  missing_stop (ConfigRefused f) name (refused, kept) mine lack = rule_read files a name f refused mine (lacked files name lack)
  missing_stop (ScriptRefused f) name h mine lack = h
  missing_stop SnapSize name h mine lack = h
  missing_stop (SnapRefused f) name h mine lack = h
  missing_stop NoMemory name h mine lack = tt

  long_stop : (stop : CommandFault) (name : List ℕ) → StopsLive (Some files) a before now stop → IsNextToLive (Some files) a name → IsLong files name → IsTooLong name (fault_status stop)
  long_stop (TooLong n) name (next, other) mine long = same_next files a n name next mine (too_long files n other) (too_long files name long)
  long_stop (Missing n) name (next, lacks) mine long = not_long files n name (same_next files a n name next mine (lacked files n lacks) (too_long files name long)) lacks long
  long_stop ShelfFault name rose mine long = none rose
  long_stop (ConfigRefused f) name (refused, kept) mine long = rule_read files a name f refused mine (too_long files name long)
  long_stop (ScriptRefused f) name h mine long = h
  long_stop SnapSize name h mine long = h
  long_stop (SnapRefused f) name h mine long = h
  long_stop NoMemory name h mine long = tt

  rule_stop : (stop : CommandFault) (f : ConfigFault) → StopsLive (Some files) a before now stop → IsConfigRefused (Some files) a.config f → TellsRule f (fault_status stop)
  rule_stop (Missing n) f (next, lacks) refused = rule_read files a n f refused next (lacked files n lacks)
  rule_stop (TooLong n) f (next, long) refused = rule_read files a n f refused next (too_long files n long)
  rule_stop ShelfFault f rose refused = none rose
  rule_stop (ConfigRefused g) f (other, kept) refused = one_rule files a.config g f other refused
  rule_stop (ScriptRefused g) f h refused = h
  rule_stop SnapSize f h refused = h
  rule_stop (SnapRefused g) f h refused = h
  rule_stop NoMemory f h refused = tt

-- the shelf's files are known
stops_told : (o : Outside) (files : List File) (a : LiveWords) (stop : CommandFault) → o.files ≡ Some files → StopsLive o.files a o.shelf o.shelf' stop → StopsLive (Some files) a o.shelf o.shelf' stop
stops_told o files a stop told why = subst (λ (f : Option (List File)). StopsLive f a o.shelf o.shelf' stop) told why

pub has_told : (o : Outside) (files : List File) (a : LiveWords) (status : Status) (p : Operator) (q : (PlaysLive MissesArePaid) a status o p) → o.files ≡ Some files → HasAllToLive (Some files) a q.config q.images
has_told o files a status p q told = subst (λ (f : Option (List File)). HasAllToLive f a q.config q.images) told q.has

-- what a run is made of is what the files stand for
module _ (files : List File) (a : LiveWords) (c d : Config) (images others : List (List ℕ)) (has : HasAllToLive (Some files) a c images) (made : HasAllToLive (Some files) a d others) where
  same_config : c ≡ d
  same_config = one_config files a.config c d has.config made.config

  misfit_told : (misfit : Option ℕ) → first_misfit c.guests images ≡ misfit → first_misfit d.guests others ≡ misfit
  misfit_told misfit is =
      let fetched : AreImages (Some files) d.guests images = subst (λ (k : Config). AreImages (Some files) k.guests images) same_config has.fetched in
      let same_images : images ≡ others = one_images files d.guests images others fetched made.fetched in
      subst (λ (k : Config). first_misfit k.guests others ≡ misfit) same_config (subst (λ (xs : List (List ℕ)). first_misfit c.guests xs ≡ misfit) same_images is)

-- where no device and no sink failed, all was done, or the typing broke off
closed : (failed : Option Device) (was_cut cut : Bool) (typing : Typing) (most : ℕ) (lines : List (List ℕ)) (p : Operator) (echoed bytes : List ℕ) (out shown out' : Seen) → failed ≡ None → ShownSince was_cut out shown echoed → PutsSummary was_cut cut bytes shown out' → (Rose out.faults out'.faults → ⊥)
    → EndsTypedRun typing most lines p.keys p.keys' → (Rose p.keys.faults p.keys'.faults → ⊥) → IsLived p (live_status failed cut typing)
closed (Some device) was_cut cut typing most lines p echoed bytes out shown out' e since puts kept ends keys = cc
closed None true cut typing most lines p echoed bytes out shown out' e since (is, same) kept ends keys = absurd (kept (subst (λ (s : Seen). Rose out.faults s.faults) (sym same) since.0))
closed None false true typing most lines p echoed bytes out shown out' e since puts kept ends keys = absurd (kept (subst (λ (n : ℕ). Rose n out'.faults) since.0 puts.0))
closed None false false GoesOn most lines p echoed bytes out shown out' e since puts kept ends keys = tt
closed None false false Over most lines p echoed bytes out shown out' e since puts kept ends keys = tt
closed None false false Lost most lines p echoed bytes out shown out' e since puts kept ends keys = tt
closed None false false Broken most lines p echoed bytes out shown out' e since puts kept (inl (took, rose), low) keys = absurd (keys rose)
closed None false false Broken most lines p echoed bytes out shown out' e since puts kept (inr (took, count), low) keys = (lines, count, took)

down_lived : (p : Operator) (fault : PowerFault) → IsServed (power_status fault) → IsLived p (power_status fault)
down_lived p (faults.Image g) h = h
down_lived p (faults.VolumeSize v) h = h
down_lived p (faults.DriveIn d) h = h
down_lived p faults.NoMemory h = h

-- a device that failed goes first, whether the typing broke off or not
names_line_too : (k : ℕ) (failed : Option Device) (cut : Bool) (typing : Typing) → NamesLine k (status_when_done failed cut) → NamesLine k (live_status failed cut typing)
names_line_too k (Some device) cut typing h = h
names_line_too k None true typing h = h
names_line_too k None false GoesOn h = h
names_line_too k None false Over h = h
names_line_too k None false Broken h = h
names_line_too k None false Lost h = h

names_drive_too : (d : ℕ) (failed : Option Device) (cut : Bool) (typing : Typing) → NamesDrive d (status_when_done failed cut) → NamesDrive d (live_status failed cut typing)
names_drive_too d (Some device) cut typing h = h
names_drive_too d None true typing h = h
names_drive_too d None false GoesOn h = h
names_drive_too d None false Over h = h
names_drive_too d None false Broken h = h
names_drive_too d None false Lost h = h

module _ (a : LiveWords) (status : Status) (o : Outside) (p : Operator) (q : (PlaysLive MissesArePaid) a status o p) where
  lives_served : first_misfit q.config.guests q.images ≡ None → All (FitsDrive o.drives) q.config.volumes → ((d : ℕ) → HasFailed q.config.volumes o.drives o.drives' d → ⊥) → NoLineRose (run_outside o) → NoDriveRose (run_outside o) → (Rose o.out.faults o.out'.faults → ⊥) → (Rose p.keys.faults p.keys'.faults → ⊥) → IsLived p status
  lives_served fits drives_fit could lines drives kept keys = by q.result q.lives q.answers
    where
      by : (result : Result Lived PowerFault) → (LivesRun MissesArePaid) q.config q.images a.rounds result (run_outside o) p o.out q.shown → AnswersLive result status q.shown o.out' → IsLived p status
      by (Ok lived) (x, same, held, lives) closes =
          let failed : lived.ran.failed ≡ None = none_failed _ _ _ lived.ran (run_outside o) lives.makes.makes lines drives in
          subst (λ (s : Status). IsLived p s) (sym closes.is) (closed lived.ran.failed lived.is_cut closes.cut lived.typing a.rounds lives.typed p lives.shown.echoed _ o.out q.shown o.out' failed lives.shown.shown closes.closes kept lives.ends keys)
      by (Err fault) (down, untyped, same) (answer, rest) = subst (λ (s : Status). IsLived p s) (sym answer) (down_lived p fault (down_served q.config q.images (run_outside o) fault down fits drives_fit could))

  lives_image : (g : ℕ) → first_misfit q.config.guests q.images ≡ Some g → IsImageOf g status
  lives_image g first = by q.result q.lives q.answers
    where
      by : (result : Result Lived PowerFault) → (LivesRun MissesArePaid) q.config q.images a.rounds result (run_outside o) p o.out q.shown → AnswersLive result status q.shown o.out' → IsImageOf g status
      by (Ok lived) (x, same, held, lives) closes =
          let fits = lives.makes.fits in
          absurd (cc (same, held, fits, first))
      by (Err fault) (down, untyped, same) (answer, rest) = subst (λ (s : Status). IsImageOf g s) (sym answer) (down_image q.config q.images (run_outside o) fault down g first)

  lives_size : (v : ℕ) → first_misfit q.config.guests q.images ≡ None → IsMisfit q.config.volumes o.drives v → ((d : ℕ) → HasFailed q.config.volumes o.drives o.drives' d → ⊥) → IsSizeOf v status
  lives_size v fits misfit could = by q.result q.lives q.answers
    where
      by : (result : Result Lived PowerFault) → (LivesRun MissesArePaid) q.config q.images a.rounds result (run_outside o) p o.out q.shown → AnswersLive result status q.shown o.out' → IsSizeOf v status
      by (Ok lived) (x, same, held, lives) closes =
          let fit : All (FitsDrive o.drives) q.config.volumes = subst (λ (d : Config). All (FitsDrive o.drives) d.volumes) same lives.makes.loaded.fit in
          absurd (misfit.differs (at_stands (FitsDrive o.drives) q.config.volumes v misfit.row misfit.stands fit))
      by (Err fault) (down, untyped, same) (answer, rest) = subst (λ (s : Status). IsSizeOf v s) (sym answer) (down_size q.config q.images (run_outside o) fault down v fits misfit could)

  lives_names_line : (k : ℕ) → (line_at o.lines k).faults < (line_at o.lines' k).faults → NamesLine k status
  lives_names_line k h = by q.result q.lives q.answers
    where
      by : (result : Result Lived PowerFault) → (LivesRun MissesArePaid) q.config q.images a.rounds result (run_outside o) p o.out q.shown → AnswersLive result status q.shown o.out' → NamesLine k status
      by (Ok lived) (x, same, held, lives) closes =
          subst (λ (s : Status). NamesLine k s) (sym closes.is) (names_line_too k lived.ran.failed closes.cut lived.typing (names_line _ _ _ lived.ran (run_outside o) lives.makes.makes closes.cut k h))
      by (Err fault) (down, untyped, same) answers = absurd (down_line_kept q.config q.images (run_outside o) fault down k h)

  lives_names_drive : (d : ℕ) → (drive_at o.drives d).faults < (drive_at o.drives' d).faults → NamesDrive d status
  lives_names_drive d h = by q.result q.lives q.answers
    where
      by : (result : Result Lived PowerFault) → (LivesRun MissesArePaid) q.config q.images a.rounds result (run_outside o) p o.out q.shown → AnswersLive result status q.shown o.out' → NamesDrive d status
      by (Ok lived) (x, same, held, lives) closes =
          subst (λ (s : Status). NamesDrive d s) (sym closes.is) (names_drive_too d lived.ran.failed closes.cut lived.typing (names_drive _ _ _ lived.ran (run_outside o) lives.makes.makes closes.cut d h))
      by (Err fault) (down, untyped, same) (answer, rest) = subst (λ (s : Status). NamesDrive d s) (sym answer) (down_names_drive q.config q.images (run_outside o) fault down d h)

pub completes_live : CompletesLive
completes_live a status o p files c images (inl (stops, silent, untyped)) told has fits drives none keys = subst (λ (s : Status). IsLived p s) (sym (stops.is ∙ only_memory files a o.shelf o.shelf' none.shelf stops.stop c images (stops_told o files a stops.stop told stops.why) has)) tt
completes_live a status o p files c images (inr q) told has fits drives none keys =
    let all : HasAllToLive (Some files) a q.config q.images = has_told o files a status p q told in
    let misfit : first_misfit q.config.guests q.images ≡ None = misfit_told files a c q.config images q.images has all None fits in
    let fit : All (FitsDrive o.drives) q.config.volumes = subst (λ (d : Config). All (FitsDrive o.drives) d.volumes) (same_config files a c q.config images q.images has all) drives in
    lives_served a status o p q misfit fit (readable files a.config q.config (run_outside o) all.config none.drives) none.lines none.drives none.out keys

pub tells_live_missing : TellsLiveMissing
tells_live_missing a status o p files name (inl (stops, silent, untyped)) told next lacks none = subst (λ (s : Status). IsMissing name s) (sym stops.is) (missing_stop files a o.shelf o.shelf' none stops.stop name (stops_told o files a stops.stop told stops.why) next lacks)
tells_live_missing a status o p files name (inr q) told next lacks none = absurd (all_read files a name q.config q.images (has_told o files a status p q told) next (lacked files name lacks))

pub tells_live_too_long : TellsLiveTooLong
tells_live_too_long a status o p files name (inl (stops, silent, untyped)) told next long none = subst (λ (s : Status). IsTooLong name s) (sym stops.is) (long_stop files a o.shelf o.shelf' none stops.stop name (stops_told o files a stops.stop told stops.why) next long)
tells_live_too_long a status o p files name (inr q) told next long none = absurd (all_read files a name q.config q.images (has_told o files a status p q told) next (too_long files name long))

pub tells_live_rule : TellsLiveRule
tells_live_rule a status o p files f (inl (stops, silent, untyped)) told refused none = subst (λ (s : Status). TellsRule f s) (sym stops.is) (rule_stop files a o.shelf o.shelf' none stops.stop f (stops_told o files a stops.stop told stops.why) refused)
tells_live_rule a status o p files f (inr q) told refused none = let all : HasAllToLive (Some files) a q.config q.images = has_told o files a status p q told in absurd (not_config files a.config q.config f all.config refused)

pub tells_live_image : TellsLiveImage
tells_live_image a status o p files c images g (inl (stops, silent, untyped)) told has misfit none = subst (λ (s : Status). IsImageOf g s) (sym (stops.is ∙ only_memory files a o.shelf o.shelf' none stops.stop c images (stops_told o files a stops.stop told stops.why) has)) tt
tells_live_image a status o p files c images g (inr q) told has misfit none = lives_image a status o p q g (misfit_told files a c q.config images q.images has (has_told o files a status p q told) (Some g) misfit)

pub tells_live_size : TellsLiveSize
tells_live_size a status o p files c images v (inl (stops, silent, untyped)) told has fits misfit none = subst (λ (s : Status). IsSizeOf v s) (sym (stops.is ∙ only_memory files a o.shelf o.shelf' none.shelf stops.stop c images (stops_told o files a stops.stop told stops.why) has)) tt
tells_live_size a status o p files c images v (inr q) told has fits misfit none =
    let all : HasAllToLive (Some files) a q.config q.images = has_told o files a status p q told in
    let fit : first_misfit q.config.guests q.images ≡ None = misfit_told files a c q.config images q.images has all None fits in
    let sized : IsMisfit q.config.volumes o.drives v = subst (λ (d : Config). IsMisfit d.volumes o.drives v) (same_config files a c q.config images q.images has all) misfit in
    lives_size a status o p q v fit sized (readable files a.config q.config (run_outside o) all.config none.drives)

pub tells_live_line_fault : TellsLiveLineFault
tells_live_line_fault a status o p k (inl (stops, silent, untyped)) h = absurd (omega (arith, h, ap (λ (ls : List Seen). (line_at ls k).faults) silent.run.shown.lines))
tells_live_line_fault a status o p k (inr q) h = lives_names_line a status o p q k h

pub tells_live_drive_fault : TellsLiveDriveFault
tells_live_drive_fault a status o p d (inl (stops, silent, untyped)) h = absurd (omega (arith, h, ap (λ (ks : List SeenDrive). (drive_at ks d).faults) silent.run.drives))
tells_live_drive_fault a status o p d (inr q) h = lives_names_drive a status o p q d h
