-- Which answer must be given to `run`.
use Rattle.std.proofs.Common.{ℕ, ◌≡◌, inl, inr, List, Option, Some, None, All, refl, subst, sym, ap, ◌∙◌, arith}
use Rattle.sys_runs.specs.Besides.{MissesArePaid}
use Rattle.vv_io.specs.Blocks.{SeenDrive}
use Rattle.vv_io.specs.Causes.{Rose}
use Rattle.vv_io.specs.Lines.{Seen}
use Rattle.vv_io.specs.Shelf.{File, held}
use Rattle.sys_config.proofs.Accepted.{accepted_is}
use Rattle.sys_devices.specs.Loads.{HasFailed, IsMisfit}
use Rattle.sys_devices.specs.Rows.{FitsDrive, drive_at}
use Rattle.sys_guests.specs.Loads.{first_misfit}
use Rattle.sys_objects.specs.declared.errors.ConfigFault.{ConfigFault}
use Rattle.sys_objects.specs.declared.records.Config.{Config}
use Rattle.sys_runs.specs.Ran.{RunOutside}
use Rattle.sys_script.specs.declared.event.Event.{Event}
use Rattle.sys_script.specs.declared.event.ScriptFault.{ScriptFault}
use Rattle.vvmm_call.specs.Answer.{Outside, PlaysRun, run_outside, fault_status}
use Rattle.vvmm_files.specs.Files.{AreImages, HasAll, HasConfig, IsConfigRefused, IsNextFile, IsScriptRefused, StopsRun}
use Rattle.vvmm_files.specs.Words.{RunWords}
use Rattle.vvmm_files.specs.declared.status.Status.{Status}
use Rattle.vvmm_files.specs.declared.stop.CommandFault.{CommandFault}
use Rattle.vvmm_files.specs.declared.stop.CommandFault.TheVariants.{Missing, TooLong, ShelfFault, Config as ConfigRefused, Script as ScriptRefused, SnapSize, Snap as SnapRefused, NoMemory}
use Rattle.vvmm_laws.proofs.Nexts.{all_read, line_read, rule_read, same_next}
use Rattle.vvmm_laws.proofs.Played.{NoDriveRose, drive_in_rose, plays_image, plays_names_drive, plays_names_line, plays_served, plays_size}
use Rattle.vvmm_laws.proofs.Told.{lacked, not_config, not_long, not_script, one_config, one_images, one_line, one_rule, too_long}
use Rattle.vvmm_laws.specs.Complete.{CompletesRun, IsImageOf, IsLong, IsMissing, IsServed, IsSizeOf, IsTooLong, TellsLine, TellsRule, TellsRunDriveFault, TellsRunImage, TellsRunLine, TellsRunLineFault, TellsRunMissing, TellsRunRule, TellsRunSize, TellsRunTooLong, line_at}

module _ (files : List File) (a : RunWords) (before now : ℕ) (none : Rose before now → ⊥) where
  -- the fetch of a run's files stops
  pub only_memory : (stop : CommandFault) (c : Config) (es : List Event) (images : List (List ℕ)) → StopsRun (Some files) a before now stop → HasAll (Some files) a c es images → fault_status stop ≡ fault_status NoMemory
  only_memory (Missing n) c es images (next, lacks) has = absurd (all_read files a n c es images has next (lacked files n lacks))
  only_memory (TooLong n) c es images (next, long) has = absurd (all_read files a n c es images has next (too_long files n long))
  only_memory ShelfFault c es images rose has = absurd (none rose)
  only_memory (ConfigRefused f) c es images (refused, kept) has = absurd (not_config files a.config c f has.config refused)
  only_memory (ScriptRefused f) c es images (d, config, refused, kept) has = absurd (not_script files a.script es f has.script refused)
  only_memory SnapSize c es images h has = absurd h
  only_memory (SnapRefused f) c es images h has = absurd h
  only_memory NoMemory c es images h has = refl

  pub missing_stop : (stop : CommandFault) (name : List ℕ) → StopsRun (Some files) a before now stop → IsNextFile (Some files) a name → held files name ≡ None → IsMissing name (fault_status stop)
  missing_stop (Missing n) name (next, lacks) mine lack = same_next files a n name next mine (lacked files n lacks) (lacked files name lack)
  missing_stop (TooLong n) name (next, long) mine lack = not_long files name n (same_next files a name n mine next (lacked files name lack) (too_long files n long)) lack long
  missing_stop ShelfFault name rose mine lack = none rose
  missing_stop (ConfigRefused f) name (refused, kept) mine lack = rule_read files a name f refused mine (lacked files name lack)
  missing_stop (ScriptRefused f) name (c, config, refused, kept) mine lack = line_read files a name c f config refused mine (lacked files name lack)
  missing_stop SnapSize name h mine lack = h
  missing_stop (SnapRefused f) name h mine lack = h
  missing_stop NoMemory name h mine lack = tt

  pub long_stop : (stop : CommandFault) (name : List ℕ) → StopsRun (Some files) a before now stop → IsNextFile (Some files) a name → IsLong files name → IsTooLong name (fault_status stop)
  long_stop (TooLong n) name (next, other) mine long = same_next files a n name next mine (too_long files n other) (too_long files name long)
  long_stop (Missing n) name (next, lacks) mine long = not_long files n name (same_next files a n name next mine (lacked files n lacks) (too_long files name long)) lacks long
  long_stop ShelfFault name rose mine long = none rose
  long_stop (ConfigRefused f) name (refused, kept) mine long = rule_read files a name f refused mine (too_long files name long)
  long_stop (ScriptRefused f) name (c, config, refused, kept) mine long = line_read files a name c f config refused mine (too_long files name long)
  long_stop SnapSize name h mine long = h
  long_stop (SnapRefused f) name h mine long = h
  long_stop NoMemory name h mine long = tt

  pub rule_stop : (stop : CommandFault) (f : ConfigFault) → StopsRun (Some files) a before now stop → IsConfigRefused (Some files) a.config f → TellsRule f (fault_status stop)
  rule_stop (Missing n) f (next, lacks) refused = rule_read files a n f refused next (lacked files n lacks)
  rule_stop (TooLong n) f (next, long) refused = rule_read files a n f refused next (too_long files n long)
  rule_stop ShelfFault f rose refused = none rose
  rule_stop (ConfigRefused g) f (other, kept) refused = one_rule files a.config g f other refused
  rule_stop (ScriptRefused g) f (c, config, other, kept) refused = not_config files a.config c f config refused
  rule_stop SnapSize f h refused = h
  rule_stop (SnapRefused g) f h refused = h
  rule_stop NoMemory f h refused = tt

  pub line_stop : (stop : CommandFault) (c : Config) (f : ScriptFault) → StopsRun (Some files) a before now stop → HasConfig (Some files) a.config c → IsScriptRefused (Some files) a.script f → TellsLine f (fault_status stop)
  line_stop (Missing n) c f (next, lacks) has refused = line_read files a n c f has refused next (lacked files n lacks)
  line_stop (TooLong n) c f (next, long) has refused = line_read files a n c f has refused next (too_long files n long)
  line_stop ShelfFault c f rose has refused = none rose
  line_stop (ConfigRefused g) c f (other, kept) has refused = not_config files a.config c g has other
  line_stop (ScriptRefused g) c f (d, config, other, kept) has refused = one_line files a.script g f other refused
  line_stop SnapSize c f h has refused = h
  line_stop (SnapRefused g) c f h has refused = h
  line_stop NoMemory c f h has refused = tt

-- the shelf's files are known
stops_told : (o : Outside) (files : List File) (a : RunWords) (stop : CommandFault) → o.files ≡ Some files → StopsRun o.files a o.shelf o.shelf' stop → StopsRun (Some files) a o.shelf o.shelf' stop
stops_told o files a stop told why = subst (λ (f : Option (List File)). StopsRun f a o.shelf o.shelf' stop) told why

has_told : (o : Outside) (files : List File) (a : RunWords) (status : Status) (p : (PlaysRun MissesArePaid) a status o) → o.files ≡ Some files → HasAll (Some files) a p.config p.events p.images
has_told o files a status p told = subst (λ (f : Option (List File)). HasAll f a p.config p.events p.images) told p.has

-- what a run is made of is what the files stand for
module _ (files : List File) (a : RunWords) (c d : Config) (es fs : List Event) (images others : List (List ℕ)) (has : HasAll (Some files) a c es images) (made : HasAll (Some files) a d fs others) where
  pub same_config : c ≡ d
  same_config = one_config files a.config c d has.config made.config

  pub misfit_told : (misfit : Option ℕ) → first_misfit c.guests images ≡ misfit → first_misfit d.guests others ≡ misfit
  misfit_told misfit is =
      let fetched : AreImages (Some files) d.guests images = subst (λ (k : Config). AreImages (Some files) k.guests images) same_config has.fetched in
      let same_images : images ≡ others = one_images files d.guests images others fetched made.fetched in
      subst (λ (k : Config). first_misfit k.guests others ≡ misfit) same_config (subst (λ (xs : List (List ℕ)). first_misfit c.guests xs ≡ misfit) same_images is)

-- where no drive's count rose, each could be read
pub readable : (files : List File) (name : List ℕ) (c : Config) (o : RunOutside) → HasConfig (Some files) name c → NoDriveRose o → (d : ℕ) → HasFailed c.volumes o.drives o.drives' d → ⊥
readable files name c o has none d failed = none d (drive_in_rose c o.drives o.drives' d (accepted_is has.text c has.means) failed)

pub completes_run : CompletesRun
completes_run a status o files c es images (inl (stops, silent)) told has fits drives none = subst (λ (s : Status). IsServed s) (sym (stops.is ∙ only_memory files a o.shelf o.shelf' none.shelf stops.stop c es images (stops_told o files a stops.stop told stops.why) has)) tt
completes_run a status o files c es images (inr p) told has fits drives none =
    let all : HasAll (Some files) a p.config p.events p.images = has_told o files a status p told in
    let misfit : first_misfit p.config.guests p.images ≡ None = misfit_told files a c p.config es p.events images p.images has all None fits in
    let fit : All (FitsDrive o.drives) p.config.volumes = subst (λ (d : Config). All (FitsDrive o.drives) d.volumes) (same_config files a c p.config es p.events images p.images has all) drives in
    plays_served p.config p.images p.events a.rounds status (run_outside o) o.out o.out' p.plays misfit fit (readable files a.config p.config (run_outside o) all.config none.drives) none.lines none.drives none.out

pub tells_run_missing : TellsRunMissing
tells_run_missing a status o files name (inl (stops, silent)) told next lacks none = subst (λ (s : Status). IsMissing name s) (sym stops.is) (missing_stop files a o.shelf o.shelf' none stops.stop name (stops_told o files a stops.stop told stops.why) next lacks)
tells_run_missing a status o files name (inr p) told next lacks none = absurd (all_read files a name p.config p.events p.images (has_told o files a status p told) next (lacked files name lacks))

pub tells_run_too_long : TellsRunTooLong
tells_run_too_long a status o files name (inl (stops, silent)) told next long none = subst (λ (s : Status). IsTooLong name s) (sym stops.is) (long_stop files a o.shelf o.shelf' none stops.stop name (stops_told o files a stops.stop told stops.why) next long)
tells_run_too_long a status o files name (inr p) told next long none = absurd (all_read files a name p.config p.events p.images (has_told o files a status p told) next (too_long files name long))

pub tells_run_rule : TellsRunRule
tells_run_rule a status o files f (inl (stops, silent)) told refused none = subst (λ (s : Status). TellsRule f s) (sym stops.is) (rule_stop files a o.shelf o.shelf' none stops.stop f (stops_told o files a stops.stop told stops.why) refused)
tells_run_rule a status o files f (inr p) told refused none = let all : HasAll (Some files) a p.config p.events p.images = has_told o files a status p told in absurd (not_config files a.config p.config f all.config refused)

pub tells_run_line : TellsRunLine
tells_run_line a status o files c f (inl (stops, silent)) told has refused none = subst (λ (s : Status). TellsLine f s) (sym stops.is) (line_stop files a o.shelf o.shelf' none stops.stop c f (stops_told o files a stops.stop told stops.why) has refused)
tells_run_line a status o files c f (inr p) told has refused none = let all : HasAll (Some files) a p.config p.events p.images = has_told o files a status p told in absurd (not_script files a.script p.events f all.script refused)

pub tells_run_image : TellsRunImage
tells_run_image a status o files c es images g (inl (stops, silent)) told has misfit none = subst (λ (s : Status). IsImageOf g s) (sym (stops.is ∙ only_memory files a o.shelf o.shelf' none stops.stop c es images (stops_told o files a stops.stop told stops.why) has)) tt
tells_run_image a status o files c es images g (inr p) told has misfit none =
    plays_image p.config p.images p.events a.rounds status (run_outside o) o.out o.out' p.plays g (misfit_told files a c p.config es p.events images p.images has (has_told o files a status p told) (Some g) misfit)

pub tells_run_size : TellsRunSize
tells_run_size a status o files c es images v (inl (stops, silent)) told has fits misfit none = subst (λ (s : Status). IsSizeOf v s) (sym (stops.is ∙ only_memory files a o.shelf o.shelf' none.shelf stops.stop c es images (stops_told o files a stops.stop told stops.why) has)) tt
tells_run_size a status o files c es images v (inr p) told has fits misfit none =
    let all : HasAll (Some files) a p.config p.events p.images = has_told o files a status p told in
    let fit : first_misfit p.config.guests p.images ≡ None = misfit_told files a c p.config es p.events images p.images has all None fits in
    let sized : IsMisfit p.config.volumes o.drives v = subst (λ (d : Config). IsMisfit d.volumes o.drives v) (same_config files a c p.config es p.events images p.images has all) misfit in
    plays_size p.config p.images p.events a.rounds status (run_outside o) o.out o.out' p.plays v fit sized (readable files a.config p.config (run_outside o) all.config none.drives)

pub tells_run_line_fault : TellsRunLineFault
tells_run_line_fault a status o k (inl (stops, silent)) h = absurd (omega (arith, h, ap (λ (ls : List Seen). (line_at ls k).faults) silent.run.shown.lines))
tells_run_line_fault a status o k (inr p) h = plays_names_line p.config p.images p.events a.rounds status (run_outside o) o.out o.out' p.plays k h

pub tells_run_drive_fault : TellsRunDriveFault
tells_run_drive_fault a status o d (inl (stops, silent)) h = absurd (omega (arith, h, ap (λ (ks : List SeenDrive). (drive_at ks d).faults) silent.run.drives))
tells_run_drive_fault a status o d (inr p) h = plays_names_drive p.config p.images p.events a.rounds status (run_outside o) o.out o.out' p.plays d h
