-- What follows from the answers' causes of `save`, `resume` and `extend`: which answer must be given. The shelf's files are known.
use Rattle.std.specs.Prelude.{ℕ, ◌≡◌, ◌<◌, ◌≤◌, ◌+◌, List, None, Some, All}
use Rattle.sys_runs.specs.Besides.{MissesArePaid}
use Rattle.vv_io.specs.Causes.{Rose}
use Rattle.vv_io.specs.Shelf.{File, held}
use Rattle.sys_devices.specs.Loads.{IsMisfit}
use Rattle.sys_devices.specs.Rows.{FitsDrive, drive_at}
use Rattle.sys_guests.specs.Loads.{first_misfit}
use Rattle.sys_objects.specs.declared.errors.ConfigFault.{ConfigFault}
use Rattle.sys_objects.specs.declared.records.Config.{Config}
use Rattle.sys_state.specs.Run.{Moment}
use Rattle.sys_script.specs.declared.event.Event.{Event}
use Rattle.sys_script.specs.declared.event.ScriptFault.{ScriptFault}
use Rattle.sys_snap.specs.declared.fault.SnapFault.{SnapFault}
use Rattle.vvmm_call.specs.Answer.{FollowsExtend, FollowsResume, FollowsSave, Outside}
use Rattle.vvmm_files.specs.Files.{HasAllToSave, HasBoth, HasConfig, HasNoRoom, HasSnap, IsConfigRefused, IsNextToResume, IsNextToSave, IsScriptRefused, IsSnapRefused}
use Rattle.vvmm_files.specs.Words.{ResumeWords, RunWords}
use Rattle.vvmm_files.specs.declared.status.Status.{Status}
use Rattle.vvmm_files.specs.declared.status.Status.TheVariants.{SnapSize, Snap as SnapRefused, NoMemory}
use Rattle.vvmm_laws.specs.Complete.{IsImageOf, IsLong, IsMissing, IsServed, IsSizeOf, IsTooLong, NamesDrive, NamesLine, NoneRose, TellsLine, TellsRule, line_at}

-- this answer, or memory ran out
abbrev pub IsSnapSize : Status → Type 0
IsSnapSize SnapSize = Unit {0}
IsSnapSize NoMemory = Unit {0}
IsSnapSize status = ⊥

abbrev pub TellsPlace : SnapFault → Status → Type 0
TellsPlace fault (SnapRefused f) = f ≡ fault
TellsPlace fault NoMemory = Unit {0}
TellsPlace fault status = ⊥

-- `save`: held files that stand for a configuration, a script and images that fit, a snapshot that can be written, drives that
-- fit, and no risen count, are served
abbrev pub CompletesSave : Type 0
CompletesSave = (a : RunWords) (status : Status) (o : Outside) (files : List File) (text : List ℕ) (c : Config) (es : List Event) (images : List (List ℕ)) → (FollowsSave MissesArePaid) a status o → o.files ≡ Some files → HasAllToSave (Some files) a text c es images
    → first_misfit c.guests images ≡ None → All (FitsDrive o.drives) c.volumes → NoneRose o → IsServed status

-- the answer names the first file that the shelf lacks as missing, and the first too long one as too long, where the shelf did
-- not fail
abbrev pub TellsSaveMissing : Type 0
TellsSaveMissing = (a : RunWords) (status : Status) (o : Outside) (files : List File) (name : List ℕ) → (FollowsSave MissesArePaid) a status o → o.files ≡ Some files → IsNextToSave (Some files) a name → held files name ≡ None → (Rose o.shelf o.shelf' → ⊥) → IsMissing name status

abbrev pub TellsSaveTooLong : Type 0
TellsSaveTooLong = (a : RunWords) (status : Status) (o : Outside) (files : List File) (name : List ℕ) → (FollowsSave MissesArePaid) a status o → o.files ≡ Some files → IsNextToSave (Some files) a name → IsLong files name → (Rose o.shelf o.shelf' → ⊥) → IsTooLong name status

-- the answer names the fault of a configuration that is refused, or of a script
abbrev pub TellsSaveRule : Type 0
TellsSaveRule = (a : RunWords) (status : Status) (o : Outside) (files : List File) (f : ConfigFault) → (FollowsSave MissesArePaid) a status o → o.files ≡ Some files → IsConfigRefused (Some files) a.config f → (Rose o.shelf o.shelf' → ⊥) → TellsRule f status

abbrev pub TellsSaveLine : Type 0
TellsSaveLine = (a : RunWords) (status : Status) (o : Outside) (files : List File) (c : Config) (f : ScriptFault) → (FollowsSave MissesArePaid) a status o → o.files ≡ Some files → HasConfig (Some files) a.config c → IsScriptRefused (Some files) a.script f
    → (Rose o.shelf o.shelf' → ⊥) → TellsLine f status

-- and that a snapshot would be too large
abbrev pub TellsSnapSize : Type 0
TellsSnapSize = (a : RunWords) (status : Status) (o : Outside) (files : List File) → (FollowsSave MissesArePaid) a status o → o.files ≡ Some files → HasNoRoom (Some files) a → (Rose o.shelf o.shelf' → ⊥) → IsSnapSize status

-- of held files that stand for all that is to be saved, the answer names the first image that doesn't fit, and the first volume
-- whose drive has another number of blocks, where the images fit and no drive failed
abbrev pub TellsSaveImage : Type 0
TellsSaveImage = (a : RunWords) (status : Status) (o : Outside) (files : List File) (text : List ℕ) (c : Config) (es : List Event) (images : List (List ℕ)) (g : ℕ) → (FollowsSave MissesArePaid) a status o → o.files ≡ Some files → HasAllToSave (Some files) a text c es images
    → first_misfit c.guests images ≡ Some g → (Rose o.shelf o.shelf' → ⊥) → IsImageOf g status

abbrev pub TellsSaveSize : Type 0
TellsSaveSize = (a : RunWords) (status : Status) (o : Outside) (files : List File) (text : List ℕ) (c : Config) (es : List Event) (images : List (List ℕ)) (v : ℕ) → (FollowsSave MissesArePaid) a status o → o.files ≡ Some files → HasAllToSave (Some files) a text c es images
    → first_misfit c.guests images ≡ None → IsMisfit c.volumes o.drives v → NoneRose o → IsSizeOf v status

-- where a line's count is greater, it is named or one of a lower number
abbrev pub TellsSaveLineFault : Type 0
TellsSaveLineFault = (a : RunWords) (status : Status) (o : Outside) (k : ℕ) → (FollowsSave MissesArePaid) a status o → (line_at o.lines k).faults < (line_at o.lines' k).faults → NamesLine k status

-- `resume`: held files that stand for a snapshot and a script, drives that fit its volumes, and no risen count, are served
abbrev pub CompletesResume : Type 0
CompletesResume = (a : ResumeWords) (status : Status) (o : Outside) (files : List File) (m : Moment) (es : List Event) → (FollowsResume MissesArePaid) a status o → o.files ≡ Some files → HasBoth (Some files) a m es → All (FitsDrive o.drives) m.config.volumes → NoneRose o → IsServed status

-- `extend`: likewise, where a snapshot can have as many rounds as there would be
abbrev pub CompletesExtend : Type 0
CompletesExtend = (a : ResumeWords) (status : Status) (o : Outside) (files : List File) (m : Moment) (es : List Event) → (FollowsExtend MissesArePaid) a status o → o.files ≡ Some files → HasBoth (Some files) a m es → m.made + a.rounds ≤ 1000000
    → All (FitsDrive o.drives) m.config.volumes → NoneRose o → IsServed status

-- and else the answer says that it can't
abbrev pub TellsMany : Type 0
TellsMany = (a : ResumeWords) (status : Status) (o : Outside) (files : List File) (m : Moment) (es : List Event) → (FollowsExtend MissesArePaid) a status o → o.files ≡ Some files → HasBoth (Some files) a m es → 1000000 < m.made + a.rounds
    → (Rose o.shelf o.shelf' → ⊥) → IsSnapSize status

-- `resume` and `extend`, by what follows: the answer names the first file that the shelf lacks as missing, and the first too long
-- one as too long, where the shelf did not fail
abbrev pub TellsResumeMissing : (ResumeWords → Status → Outside → Type 0) → Type 0
TellsResumeMissing Follows = (a : ResumeWords) (status : Status) (o : Outside) (files : List File) (name : List ℕ) → Follows a status o → o.files ≡ Some files → IsNextToResume (Some files) a name → held files name ≡ None → (Rose o.shelf o.shelf' → ⊥) → IsMissing name status

abbrev pub TellsResumeTooLong : (ResumeWords → Status → Outside → Type 0) → Type 0
TellsResumeTooLong Follows = (a : ResumeWords) (status : Status) (o : Outside) (files : List File) (name : List ℕ) → Follows a status o → o.files ≡ Some files → IsNextToResume (Some files) a name → IsLong files name → (Rose o.shelf o.shelf' → ⊥) → IsTooLong name status

-- of bytes that are no snapshot the answer names the place where the first field begins that is cut or not allowed
abbrev pub TellsSnap : (ResumeWords → Status → Outside → Type 0) → Type 0
TellsSnap Follows = (a : ResumeWords) (status : Status) (o : Outside) (files : List File) (f : SnapFault) → Follows a status o → o.files ≡ Some files → IsSnapRefused (Some files) a.snap f → (Rose o.shelf o.shelf' → ⊥) → TellsPlace f status

-- the answer names the fault of a script that is refused
abbrev pub TellsResumeLine : (ResumeWords → Status → Outside → Type 0) → Type 0
TellsResumeLine Follows = (a : ResumeWords) (status : Status) (o : Outside) (files : List File) (m : Moment) (f : ScriptFault) → Follows a status o → o.files ≡ Some files → HasSnap (Some files) a.snap m → IsScriptRefused (Some files) a.script f
    → (Rose o.shelf o.shelf' → ⊥) → TellsLine f status

-- and the first volume whose drive has another number of blocks
abbrev pub TellsResumeSize : Type 0
TellsResumeSize = (a : ResumeWords) (status : Status) (o : Outside) (files : List File) (m : Moment) (es : List Event) (v : ℕ) → (FollowsResume MissesArePaid) a status o → o.files ≡ Some files → HasBoth (Some files) a m es → IsMisfit m.config.volumes o.drives v
    → (Rose o.shelf o.shelf' → ⊥) → IsSizeOf v status

abbrev pub TellsExtendSize : Type 0
TellsExtendSize = (a : ResumeWords) (status : Status) (o : Outside) (files : List File) (m : Moment) (es : List Event) (v : ℕ) → (FollowsExtend MissesArePaid) a status o → o.files ≡ Some files → HasBoth (Some files) a m es → m.made + a.rounds ≤ 1000000
    → IsMisfit m.config.volumes o.drives v → (Rose o.shelf o.shelf' → ⊥) → IsSizeOf v status

-- where a line's count is greater, it is named or one of a lower number; where a drive's is, a line or it or a lower drive
abbrev pub TellsResumeLineFault : (ResumeWords → Status → Outside → Type 0) → Type 0
TellsResumeLineFault Follows = (a : ResumeWords) (status : Status) (o : Outside) (k : ℕ) → Follows a status o → (line_at o.lines k).faults < (line_at o.lines' k).faults → NamesLine k status

abbrev pub TellsResumeDriveFault : Type 0
TellsResumeDriveFault = (a : ResumeWords) (status : Status) (o : Outside) (d : ℕ) → (FollowsResume MissesArePaid) a status o → (drive_at o.drives d).faults < (drive_at o.drives' d).faults → NamesDrive d status
