-- What follows from the answers' causes: which answer must be given. The shelf's files are known.
use Rattle.std.specs.Prelude.{ℕ, ◌≡◌, ◌≤◌, ◌<◌, ◌+◌, List, None, Some, Result, Ok, Err, length, All, slice_index_or}
use Rattle.sys_runs.specs.Besides.{MissesArePaid}
use Rattle.vv_io.specs.Causes.{Rose}
use Rattle.vv_io.specs.Lines.{Seen, unseen}
use Rattle.vv_io.specs.Shelf.{File, file_limit, held}
use Rattle.vasm_text.specs.declared.fault.AsmFault.{AsmFault}
use Rattle.sys_audit_check.specs.Audited.{Audited}
use Rattle.sys_audit_check.specs.Lines.{IsFirstBad}
use Rattle.sys_devices.specs.Loads.{IsMisfit}
use Rattle.sys_devices.specs.Rows.{FitsDrive, drive_at}
use Rattle.sys_guests.specs.Loads.{first_misfit}
use Rattle.sys_objects.specs.declared.errors.ConfigFault.{ConfigFault}
use Rattle.sys_objects.specs.declared.records.Config.{Config}
use Rattle.sys_script.specs.declared.event.Event.{Event}
use Rattle.sys_script.specs.declared.event.ScriptFault.{ScriptFault}
use Rattle.sys_devices.specs.declared.device.Device.TheVariants as devices
use Rattle.vvmm_call.specs.Answer.{FollowsAudit, FollowsConfig, FollowsLoad, FollowsRun, Outside, ShowsFile, run_outside, shelf_and_sink}
use Rattle.vvmm_files.specs.Files.{HasAll, HasConfig, IsConfigRefused, IsNextFile, IsNextOfAudit, IsRead, IsScriptRefused}
use Rattle.vvmm_files.specs.Solo.{load_address, memory_size}
use Rattle.vvmm_files.specs.Words.{SoloWords, AuditWords, RunWords}
use Rattle.vvmm_files.specs.declared.status.Status.{Status}
use Rattle.vvmm_files.specs.declared.status.Status.TheVariants.{Done, Missing, TooLong, Config as ConfigRefused, Script as ScriptRefused, Image, VolumeSize, DriveIn, DeviceFault, Asm, Audit, OutFault, NoMemory}

abbrev pub line_at : List Seen → ℕ → Seen
line_at lines k = slice_index_or lines k unseen

-- no count of faults rose
pub record NoneRose (o : Outside) : Type 0 where
  pub shelf : Rose o.shelf o.shelf' → ⊥
  pub lines : (k : ℕ) → Rose (line_at o.lines k).faults (line_at o.lines' k).faults → ⊥
  pub drives : (d : ℕ) → Rose (drive_at o.drives d).faults (drive_at o.drives' d).faults → ⊥
  pub out : Rose o.out.faults o.out'.faults → ⊥

-- all was done, or memory ran out before anything was shown
abbrev pub IsServed : Status → Type 0
IsServed Done = Unit {0}
IsServed NoMemory = Unit {0}
IsServed status = ⊥

-- this answer, or memory ran out
abbrev pub IsMissing : List ℕ → Status → Type 0
IsMissing file (Missing name) = name ≡ file
IsMissing file NoMemory = Unit {0}
IsMissing file status = ⊥

abbrev pub IsTooLong : List ℕ → Status → Type 0
IsTooLong file (TooLong name) = name ≡ file
IsTooLong file NoMemory = Unit {0}
IsTooLong file status = ⊥

abbrev pub TellsRule : ConfigFault → Status → Type 0
TellsRule fault (ConfigRefused f) = f ≡ fault
TellsRule fault NoMemory = Unit {0}
TellsRule fault status = ⊥

abbrev pub TellsLine : ScriptFault → Status → Type 0
TellsLine fault (ScriptRefused f) = f ≡ fault
TellsLine fault NoMemory = Unit {0}
TellsLine fault status = ⊥

abbrev pub TellsAsm : AsmFault → Status → Type 0
TellsAsm fault (Asm f) = f ≡ fault
TellsAsm fault NoMemory = Unit {0}
TellsAsm fault status = ⊥

-- the answer names the first line through whose end the bytes are no audit
abbrev pub TellsFirstBad : Config → List ℕ → Status → Type 0
TellsFirstBad c bytes (Audit f) = IsFirstBad c bytes f.line
TellsFirstBad c bytes NoMemory = Unit {0}
TellsFirstBad c bytes status = ⊥

-- the answer names this guest, or this volume
abbrev pub IsImageOf : ℕ → Status → Type 0
IsImageOf guest (Image g) = g ≡ guest
IsImageOf guest NoMemory = Unit {0}
IsImageOf guest status = ⊥

abbrev pub IsSizeOf : ℕ → Status → Type 0
IsSizeOf volume (VolumeSize v) = v ≡ volume
IsSizeOf volume NoMemory = Unit {0}
IsSizeOf volume status = ⊥

-- a line is named, of a number up to k
abbrev pub NamesLine : ℕ → Status → Type 0
NamesLine k (DeviceFault (devices.Line line)) = line ≤ k
NamesLine k status = ⊥

-- a line is named, or a drive of a number up to d; or the drive failed before the first round
abbrev pub NamesDrive : ℕ → Status → Type 0
NamesDrive d (DeviceFault (devices.Line line)) = Unit {0}
NamesDrive d (DeviceFault (devices.Drive drive)) = drive ≤ d
NamesDrive d (DriveIn drive) = drive ≡ d
NamesDrive d status = ⊥

-- a held file is longer than files may be
abbrev pub IsLong : List File → List ℕ → Type 0
IsLong files name = (bytes : List ℕ) × (held files name ≡ Some bytes) × (file_limit < length bytes)

-- `solo` and `trace`, by what follows: a held image within the limit that fits, and no risen count, are served
abbrev pub CompletesImage : (SoloWords → Status → Outside → Type 0) → Type 0
CompletesImage Follows = (a : SoloWords) (status : Status) (o : Outside) (image : List ℕ) (files : List File) → Follows a status o → o.files ≡ Some files → IsRead (Some files) a.image image → load_address + length image ≤ memory_size → NoneRose o
    → IsServed status

abbrev pub TellsImageMissing : (SoloWords → Status → Outside → Type 0) → Type 0
TellsImageMissing Follows = (a : SoloWords) (status : Status) (o : Outside) (files : List File) → Follows a status o → o.files ≡ Some files → held files a.image ≡ None → (Rose o.shelf o.shelf' → ⊥) → IsMissing a.image status

abbrev pub TellsImageTooLong : (SoloWords → Status → Outside → Type 0) → Type 0
TellsImageTooLong Follows = (a : SoloWords) (status : Status) (o : Outside) (files : List File) → Follows a status o → o.files ≡ Some files → IsLong files a.image → (Rose o.shelf o.shelf' → ⊥) → IsTooLong a.image status

-- the answer names an image that doesn't fit
abbrev pub TellsImageMisfit : (SoloWords → Status → Outside → Type 0) → Type 0
TellsImageMisfit Follows = (a : SoloWords) (status : Status) (o : Outside) (image : List ℕ) (files : List File) → Follows a status o → o.files ≡ Some files → IsRead (Some files) a.image image → memory_size < load_address + length image → (Rose o.shelf o.shelf' → ⊥)
    → IsImageOf 0 status

-- where a line's count is greater, it is named or one of a lower number
abbrev pub TellsImageLineFault : (SoloWords → Status → Outside → Type 0) → Type 0
TellsImageLineFault Follows = (a : SoloWords) (status : Status) (o : Outside) (k : ℕ) → Follows a status o → (line_at o.lines k).faults < (line_at o.lines' k).faults → NamesLine k status

-- `run`: held files that stand for a configuration, a script and images that fit, drives that fit, and no risen count, are served
abbrev pub CompletesRun : Type 0
CompletesRun = (a : RunWords) (status : Status) (o : Outside) (files : List File) (c : Config) (es : List Event) (images : List (List ℕ)) → (FollowsRun MissesArePaid) a status o → o.files ≡ Some files → HasAll (Some files) a c es images
    → first_misfit c.guests images ≡ None → All (FitsDrive o.drives) c.volumes → NoneRose o → IsServed status

-- the answer names the first file that the shelf lacks as missing, and the first too long one as too long, where the shelf did
-- not fail
abbrev pub TellsRunMissing : Type 0
TellsRunMissing = (a : RunWords) (status : Status) (o : Outside) (files : List File) (name : List ℕ) → (FollowsRun MissesArePaid) a status o → o.files ≡ Some files → IsNextFile (Some files) a name → held files name ≡ None → (Rose o.shelf o.shelf' → ⊥) → IsMissing name status

abbrev pub TellsRunTooLong : Type 0
TellsRunTooLong = (a : RunWords) (status : Status) (o : Outside) (files : List File) (name : List ℕ) → (FollowsRun MissesArePaid) a status o → o.files ≡ Some files → IsNextFile (Some files) a name → IsLong files name → (Rose o.shelf o.shelf' → ⊥) → IsTooLong name status

-- the answer names the fault of a configuration that is refused, or of a script
abbrev pub TellsRunRule : Type 0
TellsRunRule = (a : RunWords) (status : Status) (o : Outside) (files : List File) (f : ConfigFault) → (FollowsRun MissesArePaid) a status o → o.files ≡ Some files → IsConfigRefused (Some files) a.config f → (Rose o.shelf o.shelf' → ⊥) → TellsRule f status

abbrev pub TellsRunLine : Type 0
TellsRunLine = (a : RunWords) (status : Status) (o : Outside) (files : List File) (c : Config) (f : ScriptFault) → (FollowsRun MissesArePaid) a status o → o.files ≡ Some files → HasConfig (Some files) a.config c → IsScriptRefused (Some files) a.script f → (Rose o.shelf o.shelf' → ⊥)
    → TellsLine f status

-- of held files that stand for a configuration, a script and images, the answer names the first image that doesn't fit, and the
-- first volume whose drive has another number of blocks, where the images fit and no drive failed
abbrev pub TellsRunImage : Type 0
TellsRunImage = (a : RunWords) (status : Status) (o : Outside) (files : List File) (c : Config) (es : List Event) (images : List (List ℕ)) (g : ℕ) → (FollowsRun MissesArePaid) a status o → o.files ≡ Some files → HasAll (Some files) a c es images
    → first_misfit c.guests images ≡ Some g → (Rose o.shelf o.shelf' → ⊥) → IsImageOf g status

abbrev pub TellsRunSize : Type 0
TellsRunSize = (a : RunWords) (status : Status) (o : Outside) (files : List File) (c : Config) (es : List Event) (images : List (List ℕ)) (v : ℕ) → (FollowsRun MissesArePaid) a status o → o.files ≡ Some files → HasAll (Some files) a c es images
    → first_misfit c.guests images ≡ None → IsMisfit c.volumes o.drives v → NoneRose o → IsSizeOf v status

-- where a line's count is greater, it is named or one of a lower number; where a drive's is, a line or it or a lower drive
abbrev pub TellsRunLineFault : Type 0
TellsRunLineFault = (a : RunWords) (status : Status) (o : Outside) (k : ℕ) → (FollowsRun MissesArePaid) a status o → (line_at o.lines k).faults < (line_at o.lines' k).faults → NamesLine k status

abbrev pub TellsRunDriveFault : Type 0
TellsRunDriveFault = (a : RunWords) (status : Status) (o : Outside) (d : ℕ) → (FollowsRun MissesArePaid) a status o → (drive_at o.drives d).faults < (drive_at o.drives' d).faults → NamesDrive d status

-- `load`: no risen count is served
abbrev pub CompletesLoad : Type 0
CompletesLoad = (number : ℕ) (status : Status) (o : Outside) → (FollowsLoad MissesArePaid) number status (run_outside o) o.out o.out' → NoneRose o → IsServed status

-- all was done, or a line or the sink failed, or memory ran out
abbrev pub CanCome : Status → Type 0
CanCome Done = Unit {0}
CanCome (DeviceFault (devices.Line line)) = Unit {0}
CanCome OutFault = Unit {0}
CanCome NoMemory = Unit {0}
CanCome status = ⊥

-- no other answer is given
abbrev pub LimitsLoad : Type 0
LimitsLoad = (number : ℕ) (status : Status) (o : Outside) → (FollowsLoad MissesArePaid) number status (run_outside o) o.out o.out' → CanCome status

-- where a line's count is greater, it is named or one of a lower number
abbrev pub TellsLoadLineFault : Type 0
TellsLoadLineFault = (number : ℕ) (status : Status) (o : Outside) (k : ℕ) → (FollowsLoad MissesArePaid) number status (run_outside o) o.out o.out' → (line_at o.lines k).faults < (line_at o.lines' k).faults → NamesLine k status

-- `check`, `migrate`, `flow` and `draw`, which put bytes in this relation to a configuration: likewise
abbrev pub CompletesConfig : (Config → List ℕ → Type 0) → Type 0
CompletesConfig Bytes = (name : List ℕ) (status : Status) (o : Outside) (files : List File) (c : Config) → FollowsConfig Bytes name status (shelf_and_sink o) → o.files ≡ Some files → HasConfig (Some files) name c → NoneRose o → IsServed status

abbrev pub TellsConfigMissing : (Config → List ℕ → Type 0) → Type 0
TellsConfigMissing Bytes = (name : List ℕ) (status : Status) (o : Outside) (files : List File) → FollowsConfig Bytes name status (shelf_and_sink o) → o.files ≡ Some files → held files name ≡ None → (Rose o.shelf o.shelf' → ⊥) → IsMissing name status

abbrev pub TellsConfigTooLong : (Config → List ℕ → Type 0) → Type 0
TellsConfigTooLong Bytes = (name : List ℕ) (status : Status) (o : Outside) (files : List File) → FollowsConfig Bytes name status (shelf_and_sink o) → o.files ≡ Some files → IsLong files name → (Rose o.shelf o.shelf' → ⊥) → IsTooLong name status

abbrev pub TellsConfigRule : (Config → List ℕ → Type 0) → Type 0
TellsConfigRule Bytes = (name : List ℕ) (status : Status) (o : Outside) (files : List File) (f : ConfigFault) → FollowsConfig Bytes name status (shelf_and_sink o) → o.files ≡ Some files → IsConfigRefused (Some files) name f → (Rose o.shelf o.shelf' → ⊥) → TellsRule f status

-- `audit`: a held configuration that is accepted, a held file within the limit that is an audit of it, and no risen count, are
-- served; where the file is none, the answer names the first line
abbrev pub CompletesAudit : Type 0
CompletesAudit = (a : AuditWords) (status : Status) (o : Outside) (files : List File) (c : Config) (bytes : List ℕ) → FollowsAudit a status (shelf_and_sink o) → o.files ≡ Some files → HasConfig (Some files) a.config c → IsRead (Some files) a.recorded bytes
    → Audited c bytes → NoneRose o → IsServed status

abbrev pub TellsAuditLine : Type 0
TellsAuditLine = (a : AuditWords) (status : Status) (o : Outside) (files : List File) (c : Config) (bytes : List ℕ) → FollowsAudit a status (shelf_and_sink o) → o.files ≡ Some files → HasConfig (Some files) a.config c → IsRead (Some files) a.recorded bytes
    → (Audited c bytes → ⊥) → (Rose o.shelf o.shelf' → ⊥) → TellsFirstBad c bytes status

abbrev pub TellsAuditMissing : Type 0
TellsAuditMissing = (a : AuditWords) (status : Status) (o : Outside) (files : List File) (name : List ℕ) → FollowsAudit a status (shelf_and_sink o) → o.files ≡ Some files → IsNextOfAudit (Some files) a name → held files name ≡ None → (Rose o.shelf o.shelf' → ⊥)
    → IsMissing name status

abbrev pub TellsAuditTooLong : Type 0
TellsAuditTooLong = (a : AuditWords) (status : Status) (o : Outside) (files : List File) (name : List ℕ) → FollowsAudit a status (shelf_and_sink o) → o.files ≡ Some files → IsNextOfAudit (Some files) a name → IsLong files name → (Rose o.shelf o.shelf' → ⊥)
    → IsTooLong name status

abbrev pub TellsAuditRule : Type 0
TellsAuditRule = (a : AuditWords) (status : Status) (o : Outside) (files : List File) (f : ConfigFault) → FollowsAudit a status (shelf_and_sink o) → o.files ≡ Some files → IsConfigRefused (Some files) a.config f → (Rose o.shelf o.shelf' → ⊥) → TellsRule f status

-- `asm`, `list` and `dis`: a held file within the limit that stands for bytes, and no risen count, are served; and so on
abbrev pub CompletesFile : Type 0
CompletesFile = (made : List ℕ → Result (List ℕ) AsmFault) (name : List ℕ) (status : Status) (o : Outside) (files : List File) (bytes shown : List ℕ) → ShowsFile made name status o → o.files ≡ Some files → IsRead (Some files) name bytes
    → made bytes ≡ Ok shown → NoneRose o → IsServed status

abbrev pub TellsFileRefused : Type 0
TellsFileRefused = (made : List ℕ → Result (List ℕ) AsmFault) (name : List ℕ) (status : Status) (o : Outside) (files : List File) (bytes : List ℕ) (fault : AsmFault) → ShowsFile made name status o → o.files ≡ Some files → IsRead (Some files) name bytes
    → made bytes ≡ Err fault → NoneRose o → TellsAsm fault status

abbrev pub TellsFileMissing : Type 0
TellsFileMissing = (made : List ℕ → Result (List ℕ) AsmFault) (name : List ℕ) (status : Status) (o : Outside) (files : List File) → ShowsFile made name status o → o.files ≡ Some files → held files name ≡ None → (Rose o.shelf o.shelf' → ⊥) → IsMissing name status

abbrev pub TellsFileTooLong : Type 0
TellsFileTooLong = (made : List ℕ → Result (List ℕ) AsmFault) (name : List ℕ) (status : Status) (o : Outside) (files : List File) → ShowsFile made name status o → o.files ≡ Some files → IsLong files name → (Rose o.shelf o.shelf' → ⊥) → IsTooLong name status
