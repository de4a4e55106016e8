-- The files that a command fetches, what they stand for, and why a command stops before anything is shown.
use Rattle.std.specs.Prelude.{ℕ, ◌≡◌, ◌≤◌, ◌<◌, ◌+◌, ◌*◌, ◌⊎◌, List, [], ◌∷◌, length, take, Option, Some, Ok, Err}
use Rattle.std.specs.List.{slice_get, sum_by}
use Rattle.vv_io.specs.Causes.{Rose}
use Rattle.vv_io.specs.Shelf.{File, file_limit}
use Rattle.vvmm_files.specs.Commands.{HasTooLong, IsHeld, Lacks}
use Rattle.sys_config.specs.Config.{config_of}
use Rattle.sys_objects.specs.declared.errors.ConfigFault.{ConfigFault}
use Rattle.sys_objects.specs.declared.records.Config.{Config}
use Rattle.sys_objects.specs.declared.records.GuestRow.{GuestRow}
use Rattle.sys_state.specs.Run.{Moment}
use Rattle.sys_script.specs.Script.{script_of}
use Rattle.sys_script.specs.declared.event.Event.{Event}
use Rattle.sys_script.specs.declared.event.ScriptFault.{ScriptFault}
use Rattle.sys_snap.specs.Misfits.{misfit_in}
use Rattle.sys_snap.specs.Snap.{IsSnap}
use Rattle.sys_snap.specs.declared.fault.SnapFault.{SnapFault}
use Rattle.vvmm_files.specs.Words.{AuditWords, LiveWords, ResumeWords, RunWords}
use Rattle.vvmm_files.specs.declared.stop.CommandFault.{CommandFault}
use Rattle.vvmm_files.specs.declared.stop.CommandFault.TheVariants.{Missing, TooLong, ShelfFault, Config as ConfigRefused, Script as ScriptRefused, SnapSize, Snap as SnapRefused, NoMemory}

-- the file that was fetched, within the limit
pub record IsRead (files : Option (List File)) (name bytes : List ℕ) : Type 0 where
  pub held : IsHeld files name bytes
  pub within : length bytes ≤ file_limit

-- the configuration that a file stands for
pub record HasConfig (files : Option (List File)) (name : List ℕ) (c : Config) : Type 0 where
  pub text : List ℕ
  pub read : IsRead files name text
  pub means : config_of text ≡ Ok c

-- the script that a file stands for
pub record HasScript (files : Option (List File)) (name : List ℕ) (es : List Event) : Type 0 where
  pub text : List ℕ
  pub read : IsRead files name text
  pub means : script_of text ≡ Ok es

-- the images of guests, each the file that its row names
abbrev pub AreImages : Option (List File) → List GuestRow → List (List ℕ) → Type 0
AreImages files [] [] = Unit {0}
AreImages files [] (image ∷ images) = ⊥
AreImages files (row ∷ rows) [] = ⊥
AreImages files (row ∷ rows) (image ∷ images) = IsRead files row.image image × AreImages files rows images

-- all files of a run were fetched, and stand for these
pub record HasAll (files : Option (List File)) (a : RunWords) (c : Config) (es : List Event) (images : List (List ℕ)) : Type 0 where
  pub config : HasConfig files a.config c
  pub script : HasScript files a.script es
  pub fetched : AreImages files c.guests images

-- The script is fetched next: the configuration is accepted.
pub record IsScript (files : Option (List File)) (a : RunWords) (name : List ℕ) : Type 0 where
  pub config : Config
  pub has : HasConfig files a.config config
  pub is : name ≡ a.script

-- A guest's image is fetched next: configuration and script are accepted, and the images of the guests before it were fetched.
pub record IsImage (files : Option (List File)) (a : RunWords) (name : List ℕ) : Type 0 where
  pub config : Config
  pub events : List Event
  pub images : List (List ℕ)
  pub guest : ℕ
  pub row : GuestRow
  pub has_config : HasConfig files a.config config
  pub has_script : HasScript files a.script events
  pub before : AreImages files (take guest config.guests) images
  pub stands : slice_get config.guests guest ≡ Some row
  pub is : name ≡ row.image

-- a file of a run that is fetched, as all before it were
abbrev pub IsNextFile : Option (List File) → RunWords → List ℕ → Type 0
IsNextFile files a name = (name ≡ a.config) ⊎ (IsScript files a name ⊎ IsImage files a name)

-- pages of memory of all guests, and blocks of all volumes
abbrev pub pages_and_blocks : Config → ℕ
pages_and_blocks c = sum_by (λ row. row.pages) c.guests + sum_by (λ row. row.blocks) c.volumes

-- A snapshot with this text can be written: pages and blocks have at most 16,000,000 bytes, and the text at most 262,144.
pub record FitsSnap (text : List ℕ) (c : Config) : Type 0 where
  pub bytes : 512 * pages_and_blocks c ≤ 16000000
  pub short : length text ≤ 262144

-- .. or it would be too large
abbrev pub IsTooLarge : List ℕ → Config → Type 0
IsTooLarge text c = (16000000 < 512 * pages_and_blocks c) ⊎ (262144 < length text)

-- A guest's image is fetched next, to be saved: besides, the snapshot can be written.
pub record IsImageToSave (files : Option (List File)) (a : RunWords) (name : List ℕ) : Type 0 where
  pub image : IsImage files a name
  pub fits : FitsSnap image.has_config.text image.config

-- a file of a run that is saved, which is fetched, as all before it were
abbrev pub IsNextToSave : Option (List File) → RunWords → List ℕ → Type 0
IsNextToSave files a name = (name ≡ a.config) ⊎ (IsScript files a name ⊎ IsImageToSave files a name)

-- all files of a run that is saved were fetched, and the snapshot can be written with the text of its configuration
pub record HasAllToSave (files : Option (List File)) (a : RunWords) (text : List ℕ) (c : Config) (es : List Event) (images : List (List ℕ)) : Type 0 where
  pub all : HasAll files a c es images
  pub is : text ≡ all.config.text
  pub fits : FitsSnap text c

-- configuration and script are accepted, and the snapshot would be too large
pub record HasNoRoom (files : Option (List File)) (a : RunWords) : Type 0 where
  pub config : Config
  pub events : List Event
  pub has_config : HasConfig files a.config config
  pub has_script : HasScript files a.script events
  pub large : IsTooLarge has_config.text config

-- the moment of which a file is a snapshot
pub record HasSnap (files : Option (List File)) (name : List ℕ) (m : Moment) : Type 0 where
  pub bytes : List ℕ
  pub read : IsRead files name bytes
  pub is : IsSnap bytes m

-- a file was fetched that is no snapshot: where the first field begins that is cut or not allowed
pub record IsSnapRefused (files : Option (List File)) (name : List ℕ) (f : SnapFault) : Type 0 where
  pub bytes : List ℕ
  pub read : IsRead files name bytes
  pub refused : misfit_in bytes ≡ Some f.place

-- both files of a resumed run were fetched, and stand for these
pub record HasBoth (files : Option (List File)) (a : ResumeWords) (m : Moment) (es : List Event) : Type 0 where
  pub snap : HasSnap files a.snap m
  pub script : HasScript files a.script es

-- The script is fetched next: the snapshot is accepted.
pub record IsScriptToResume (files : Option (List File)) (a : ResumeWords) (name : List ℕ) : Type 0 where
  pub moment : Moment
  pub has : HasSnap files a.snap moment
  pub is : name ≡ a.script

-- snapshot and script are accepted, and no snapshot can have as many rounds as there would be
pub record HasTooMany (files : Option (List File)) (a : ResumeWords) : Type 0 where
  pub moment : Moment
  pub events : List Event
  pub has : HasBoth files a moment events
  pub many : 1000000 < moment.made + a.rounds

-- a file of a resumed run that is fetched, as that before it was
abbrev pub IsNextToResume : Option (List File) → ResumeWords → List ℕ → Type 0
IsNextToResume files a name = (name ≡ a.snap) ⊎ IsScriptToResume files a name

-- the files of a run that is typed were fetched, and stand for these
pub record HasAllToLive (files : Option (List File)) (a : LiveWords) (c : Config) (images : List (List ℕ)) : Type 0 where
  pub config : HasConfig files a.config c
  pub fetched : AreImages files c.guests images

-- A guest's image is fetched next: the configuration is accepted, and the images of the guests before it were fetched.
pub record IsImageToLive (files : Option (List File)) (a : LiveWords) (name : List ℕ) : Type 0 where
  pub config : Config
  pub images : List (List ℕ)
  pub guest : ℕ
  pub row : GuestRow
  pub has_config : HasConfig files a.config config
  pub before : AreImages files (take guest config.guests) images
  pub stands : slice_get config.guests guest ≡ Some row
  pub is : name ≡ row.image

-- a file of a run that is typed which is fetched, as all before it were
abbrev pub IsNextToLive : Option (List File) → LiveWords → List ℕ → Type 0
IsNextToLive files a name = (name ≡ a.config) ⊎ IsImageToLive files a name

-- what is to be checked is fetched next: the configuration is accepted
pub record IsRecorded (files : Option (List File)) (a : AuditWords) (name : List ℕ) : Type 0 where
  pub config : Config
  pub has : HasConfig files a.config config
  pub is : name ≡ a.recorded

-- a file of an audit that is fetched, as all before it were
abbrev pub IsNextOfAudit : Option (List File) → AuditWords → List ℕ → Type 0
IsNextOfAudit files a name = (name ≡ a.config) ⊎ IsRecorded files a name

-- a configuration's text was fetched, and is refused
pub record IsConfigRefused (files : Option (List File)) (name : List ℕ) (f : ConfigFault) : Type 0 where
  pub text : List ℕ
  pub read : IsRead files name text
  pub refused : config_of text ≡ Err f

-- a script's text was fetched, and is refused
pub record IsScriptRefused (files : Option (List File)) (name : List ℕ) (f : ScriptFault) : Type 0 where
  pub text : List ℕ
  pub read : IsRead files name text
  pub refused : script_of text ≡ Err f

-- why the fetch of one file gives no bytes; counts are the shelf's faults before and after
abbrev pub StopsFile : Option (List File) → List ℕ → ℕ → ℕ → CommandFault → Type 0
StopsFile files name before now (Missing n) = (n ≡ name) × Lacks files n before now
StopsFile files name before now (TooLong n) = (n ≡ name) × HasTooLong files n before now
StopsFile files name before now ShelfFault = Rose before now
StopsFile files name before now (ConfigRefused f) = ⊥
StopsFile files name before now (ScriptRefused f) = ⊥
StopsFile files name before now SnapSize = ⊥
StopsFile files name before now (SnapRefused f) = ⊥
StopsFile files name before now NoMemory = Unit {0}

-- why a file gives no configuration
abbrev pub StopsConfig : Option (List File) → List ℕ → ℕ → ℕ → CommandFault → Type 0
StopsConfig files name before now (Missing n) = (n ≡ name) × Lacks files n before now
StopsConfig files name before now (TooLong n) = (n ≡ name) × HasTooLong files n before now
StopsConfig files name before now ShelfFault = Rose before now
StopsConfig files name before now (ConfigRefused f) = IsConfigRefused files name f × (now ≡ before)
StopsConfig files name before now (ScriptRefused f) = ⊥
StopsConfig files name before now SnapSize = ⊥
StopsConfig files name before now (SnapRefused f) = ⊥
StopsConfig files name before now NoMemory = Unit {0}

-- why a run's files give no run
abbrev pub StopsRun : Option (List File) → RunWords → ℕ → ℕ → CommandFault → Type 0
StopsRun files a before now (Missing n) = IsNextFile files a n × Lacks files n before now
StopsRun files a before now (TooLong n) = IsNextFile files a n × HasTooLong files n before now
StopsRun files a before now ShelfFault = Rose before now
StopsRun files a before now (ConfigRefused f) = IsConfigRefused files a.config f × (now ≡ before)
StopsRun files a before now (ScriptRefused f) = (c : Config) × HasConfig files a.config c × IsScriptRefused files a.script f × (now ≡ before)
StopsRun files a before now SnapSize = ⊥
StopsRun files a before now (SnapRefused f) = ⊥
StopsRun files a before now NoMemory = Unit {0}

-- why a run's files give no run to be saved
abbrev pub StopsSave : Option (List File) → RunWords → ℕ → ℕ → CommandFault → Type 0
StopsSave files a before now (Missing n) = IsNextToSave files a n × Lacks files n before now
StopsSave files a before now (TooLong n) = IsNextToSave files a n × HasTooLong files n before now
StopsSave files a before now ShelfFault = Rose before now
StopsSave files a before now (ConfigRefused f) = IsConfigRefused files a.config f × (now ≡ before)
StopsSave files a before now (ScriptRefused f) = (c : Config) × HasConfig files a.config c × IsScriptRefused files a.script f × (now ≡ before)
StopsSave files a before now SnapSize = HasNoRoom files a × (now ≡ before)
StopsSave files a before now (SnapRefused f) = ⊥
StopsSave files a before now NoMemory = Unit {0}

-- why snapshot and script give no run to go on with
abbrev pub StopsResume : Option (List File) → ResumeWords → ℕ → ℕ → CommandFault → Type 0
StopsResume files a before now (Missing n) = IsNextToResume files a n × Lacks files n before now
StopsResume files a before now (TooLong n) = IsNextToResume files a n × HasTooLong files n before now
StopsResume files a before now ShelfFault = Rose before now
StopsResume files a before now (ConfigRefused f) = ⊥
StopsResume files a before now (ScriptRefused f) = (m : Moment) × HasSnap files a.snap m × IsScriptRefused files a.script f × (now ≡ before)
StopsResume files a before now SnapSize = ⊥
StopsResume files a before now (SnapRefused f) = IsSnapRefused files a.snap f × (now ≡ before)
StopsResume files a before now NoMemory = Unit {0}

-- .. and is saved
abbrev pub StopsExtend : Option (List File) → ResumeWords → ℕ → ℕ → CommandFault → Type 0
StopsExtend files a before now SnapSize = HasTooMany files a × (now ≡ before)
StopsExtend files a before now stop = StopsResume files a before now stop

-- why an audit's files give nothing to check
abbrev pub StopsAudit : Option (List File) → AuditWords → ℕ → ℕ → CommandFault → Type 0
StopsAudit files a before now (Missing n) = IsNextOfAudit files a n × Lacks files n before now
StopsAudit files a before now (TooLong n) = IsNextOfAudit files a n × HasTooLong files n before now
StopsAudit files a before now ShelfFault = Rose before now
StopsAudit files a before now (ConfigRefused f) = IsConfigRefused files a.config f × (now ≡ before)
StopsAudit files a before now (ScriptRefused f) = ⊥
StopsAudit files a before now SnapSize = ⊥
StopsAudit files a before now (SnapRefused f) = ⊥
StopsAudit files a before now NoMemory = Unit {0}

-- why the files of a run that is typed give none
abbrev pub StopsLive : Option (List File) → LiveWords → ℕ → ℕ → CommandFault → Type 0
StopsLive files a before now (Missing n) = IsNextToLive files a n × Lacks files n before now
StopsLive files a before now (TooLong n) = IsNextToLive files a n × HasTooLong files n before now
StopsLive files a before now ShelfFault = Rose before now
StopsLive files a before now (ConfigRefused f) = IsConfigRefused files a.config f × (now ≡ before)
StopsLive files a before now (ScriptRefused f) = ⊥
StopsLive files a before now SnapSize = ⊥
StopsLive files a before now (SnapRefused f) = ⊥
StopsLive files a before now NoMemory = Unit {0}
