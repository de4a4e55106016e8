-- What the functions that fetch answer.
use Rattle.std.specs.Prelude.{ℕ, ◌≡◌, ◌≤◌, ◌+◌, List, [], ◌∷◌, map, take, Vec, Option, Some}
use Rattle.std.specs.List.{slice_get}
use Rattle.std.specs.declared.alloc.Global.{Global}
use Rattle.std.specs.declared.result.Result.{Result}
use Rattle.std.specs.declared.result.Result.TheVariants.{Ok, Err}
use Rattle.std.specs.Prelude as results
use Rattle.sys_config.specs.Config.{config_of}
use Rattle.sys_snap.specs.Held.{snapshot_moment}
use Rattle.sys_snap.specs.Misfits.{misfit_in}
use Rattle.sys_snap.specs.Snap.{IsSnap}
use Rattle.sys_snap.specs.declared.snap.Snap.{Snap}
use Rattle.vv_io.specs.Shelf.{File}
use Rattle.sys_objects.specs.declared.records.Config.{Config}
use Rattle.sys_objects.specs.declared.records.GuestRow.{GuestRow}
use Rattle.sys_script.specs.declared.event.Event.{Event}
use Rattle.vvmm_files.specs.Files.{AreImages, HasAll, HasAllToLive, HasAllToSave, HasBoth, HasConfig, HasScript, HasSnap, IsRead, IsScriptRefused, IsSnapRefused, StopsAudit, StopsConfig, StopsExtend, StopsFile, StopsLive, StopsResume, StopsRun, StopsSave}
use Rattle.vvmm_files.specs.Solo.{solo_config}
use Rattle.vvmm_files.specs.Words.{SoloWords, AuditWords, LiveWords, ResumeWords, RunWords}
use Rattle.vvmm_files.specs.declared.fetching.Inputs.{Inputs}
use Rattle.vvmm_files.specs.declared.fetching.InputsToLive.{InputsToLive}
use Rattle.vvmm_files.specs.declared.fetching.InputsToResume.{InputsToResume}
use Rattle.vvmm_files.specs.declared.fetching.InputsToSave.{InputsToSave}
use Rattle.vvmm_files.specs.declared.fetching.Read.{Read}
use Rattle.vvmm_files.specs.declared.fetching.ReadSnap.{ReadSnap}
use Rattle.vvmm_files.specs.declared.fetching.Recorded.{Recorded}
use Rattle.vvmm_files.specs.declared.stop.CommandFault.{CommandFault}
use Rattle.vvmm_files.specs.declared.stop.CommandFault.TheVariants.{Script as ScriptRefused, Snap as SnapRefused, NoMemory}

abbrev pub FetchesFile : Option (List File) → List ℕ → ℕ → ℕ → Result (Vec ℕ Global) CommandFault → Type 0
FetchesFile files name before now (Ok bytes) = IsRead files name bytes.items × (now ≡ before)
FetchesFile files name before now (Err stop) = StopsFile files name before now stop

-- a configuration, and the text of the file
abbrev pub FetchesText : Option (List File) → List ℕ → ℕ → ℕ → Result Read CommandFault → Type 0
FetchesText files name before now (Ok x) = IsRead files name x.text.items × (config_of x.text.items ≡ results.Ok x.config) × (now ≡ before)
FetchesText files name before now (Err stop) = StopsConfig files name before now stop

abbrev pub FetchesConfig : Option (List File) → List ℕ → ℕ → ℕ → Result Config CommandFault → Type 0
FetchesConfig files name before now (Ok c) = HasConfig files name c × (now ≡ before)
FetchesConfig files name before now (Err stop) = StopsConfig files name before now stop

-- why a file gives no script
abbrev pub StopsScript : Option (List File) → List ℕ → ℕ → ℕ → CommandFault → Type 0
StopsScript files name before now (ScriptRefused f) = IsScriptRefused files name f × (now ≡ before)
StopsScript files name before now stop = StopsFile files name before now stop

abbrev pub FetchesScript : Option (List File) → List ℕ → ℕ → ℕ → Result (Vec Event Global) CommandFault → Type 0
FetchesScript files name before now (Ok es) = HasScript files name es.items × (now ≡ before)
FetchesScript files name before now (Err stop) = StopsScript files name before now stop

-- The fetch of one guest's image failed, and those of the guests before it were fetched.
pub record StopsImages (files : Option (List File)) (rows : List GuestRow) (before now : ℕ) (stop : CommandFault) : Type 0 where
  pub images : List (List ℕ)
  pub guest : ℕ
  pub row : GuestRow
  pub fetched : AreImages files (take guest rows) images
  pub stands : slice_get rows guest ≡ Some row
  pub why : StopsFile files row.image before now stop

-- .. or memory ran out
abbrev pub StopsAtImages : Option (List File) → List GuestRow → ℕ → ℕ → CommandFault → Type 0
StopsAtImages files rows before now NoMemory = Unit {0}
StopsAtImages files rows before now stop = StopsImages files rows before now stop

abbrev pub FetchesImages : Option (List File) → List GuestRow → ℕ → ℕ → Result (Vec (Vec ℕ Global) Global) CommandFault → Type 0
FetchesImages files rows before now (Ok images) = AreImages files rows (map (λ b. b.items) images.items) × (now ≡ before)
FetchesImages files rows before now (Err stop) = StopsAtImages files rows before now stop

abbrev pub FetchesRun : Option (List File) → RunWords → ℕ → ℕ → Result Inputs CommandFault → Type 0
FetchesRun files a before now (Ok x) = HasAll files a x.config x.events.items (map (λ b. b.items) x.images.items) × (now ≡ before)
FetchesRun files a before now (Err stop) = StopsRun files a before now stop

-- a run that is to be saved: as a run's, and the text of its configuration is kept
abbrev pub FetchesSave : Option (List File) → RunWords → ℕ → ℕ → Result InputsToSave CommandFault → Type 0
FetchesSave files a before now (Ok x) = HasAllToSave files a x.text.items x.inputs.config x.inputs.events.items (map (λ b. b.items) x.inputs.images.items) × (now ≡ before)
FetchesSave files a before now (Err stop) = StopsSave files a before now stop

-- the moment of which bytes are a snapshot; or they are none, or memory ran out
abbrev pub MeansSnap : List ℕ → Result Snap CommandFault → Type 0
MeansSnap bytes (Ok snap) = IsSnap bytes (snapshot_moment snap)
MeansSnap bytes (Err (SnapRefused f)) = misfit_in bytes ≡ Some f.place
MeansSnap bytes (Err NoMemory) = Unit {0}
MeansSnap bytes (Err stop) = ⊥

-- why a file gives no snapshot
abbrev pub StopsSnap : Option (List File) → List ℕ → ℕ → ℕ → CommandFault → Type 0
StopsSnap files name before now (SnapRefused f) = IsSnapRefused files name f × (now ≡ before)
StopsSnap files name before now stop = StopsFile files name before now stop

-- the snapshot of a file, and the text that it has
abbrev pub FetchesSnap : Option (List File) → List ℕ → ℕ → ℕ → Result ReadSnap CommandFault → Type 0
FetchesSnap files name before now (Ok x) = (has : HasSnap files name (snapshot_moment x.snap)) × (x.text.items ≡ has.is.text) × (now ≡ before)
FetchesSnap files name before now (Err stop) = StopsSnap files name before now stop

-- a run that goes on: snapshot and script were fetched, and the snapshot's text is kept
abbrev pub FetchesResume : Option (List File) → ResumeWords → ℕ → ℕ → Result InputsToResume CommandFault → Type 0
FetchesResume files a before now (Ok x) = (has : HasBoth files a (snapshot_moment x.snap) x.events.items) × (x.text.items ≡ has.snap.is.text) × (now ≡ before)
FetchesResume files a before now (Err stop) = StopsResume files a before now stop

-- .. and is saved: a snapshot can have as many rounds as there will be
abbrev pub FetchesExtend : Option (List File) → ResumeWords → ℕ → ℕ → Result InputsToResume CommandFault → Type 0
FetchesExtend files a before now (Ok x) = FetchesResume files a before now (Ok x) × (x.snap.round + a.rounds ≤ 1000000)
FetchesExtend files a before now (Err stop) = StopsExtend files a before now stop

-- a run that is typed: its configuration and images were fetched
abbrev pub FetchesLive : Option (List File) → LiveWords → ℕ → ℕ → Result InputsToLive CommandFault → Type 0
FetchesLive files a before now (Ok x) = HasAllToLive files a x.config (map (λ b. b.items) x.images.items) × (now ≡ before)
FetchesLive files a before now (Err stop) = StopsLive files a before now stop

-- the run of one guest: its image was fetched
abbrev pub FetchesSolo : Option (List File) → SoloWords → ℕ → ℕ → Result Inputs CommandFault → Type 0
FetchesSolo files a before now (Ok x) = (image : List ℕ) × IsRead files a.image image × (now ≡ before) × (x.config ≡ solo_config a) × (x.events.items ≡ []) × (map (λ b. b.items) x.images.items ≡ image ∷ [])
FetchesSolo files a before now (Err stop) = StopsFile files a.image before now stop

-- what an audit checks: its configuration and what was recorded were fetched
abbrev pub FetchesAudit : Option (List File) → AuditWords → ℕ → ℕ → Result Recorded CommandFault → Type 0
FetchesAudit files a before now (Ok x) = HasConfig files a.config x.config × IsRead files a.recorded x.bytes.items × (now ≡ before)
FetchesAudit files a before now (Err stop) = StopsAudit files a before now stop
