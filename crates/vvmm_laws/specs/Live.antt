-- What follows from the answers' causes of `live`: which answer must be given, and what typing reaches. The shelf's files are
-- known.
use Rattle.std.specs.Prelude.{ℕ, ◌≡◌, ◌≢◌, ◌<◌, ◌≤◌, ◌-◌, ◌^◌, List, [], ◌∷◌, ◌++◌, length, None, Some, All, false, true}
use Rattle.sys_runs.specs.Besides.{MissesArePaid}
use Rattle.vv_io.specs.Causes.{Rose}
use Rattle.vv_io.specs.Shelf.{File, held}
use Rattle.vv_class.specs.Class.{does_flow}
use Rattle.vv_class.specs.declared.class.AccessClass.{AccessClass}
use Rattle.sys_devices.specs.Loads.{IsMisfit}
use Rattle.sys_devices.specs.Rows.{FitsDrive, drive_at}
use Rattle.sys_guests.specs.Loads.{first_misfit}
use Rattle.sys_live.specs.Operator.{Operator}
use Rattle.sys_live.specs.Typing.{TookWell}
use Rattle.sys_objects.specs.Condition.{IsConfig}
use Rattle.sys_objects.specs.declared.errors.ConfigFault.{ConfigFault}
use Rattle.sys_objects.specs.declared.records.Config.{Config}
use Rattle.sys_purge.specs.Events.{purge_events}
use Rattle.sys_state.specs.Bytes.{devices_of, drive_blocks, line_bytes}
use Rattle.sys_state.specs.Run.{Input}
use Rattle.sys_script.specs.Typed.{events_typed, rounds_ended, rounds_typed}
use Rattle.vvmm_call.specs.Answer.{FollowsLive, Outside}
use Rattle.vvmm_files.specs.Files.{HasAllToLive, IsConfigRefused, IsNextToLive}
use Rattle.vvmm_files.specs.Words.{LiveWords}
use Rattle.vvmm_files.specs.declared.status.Status.{Status}
use Rattle.vvmm_files.specs.declared.status.Status.TheVariants.{Done, KeyFault, NoMemory}
use Rattle.vvmm_laws.specs.Complete.{IsImageOf, IsLong, IsMissing, IsSizeOf, IsTooLong, NamesDrive, NamesLine, NoneRose, TellsRule, line_at}

-- as many lines were taken as 32 bits count
abbrev pub TakesMost : Operator → Type 0
TakesMost p = (lines : List (List ℕ)) × (length lines ≡ 2 ^ 32 - 1) × TookWell lines p.keys p.keys'

-- all was done; or memory ran out, before anything was shown or for a line that was typed; or as many lines were typed as 32 bits
-- count
abbrev pub IsLived : Operator → Status → Type 0
IsLived p Done = Unit {0}
IsLived p KeyFault = TakesMost p
IsLived p NoMemory = Unit {0}
IsLived p status = ⊥

-- held files that stand for a configuration and images that fit, drives that fit, and no risen count, are served
abbrev pub CompletesLive : Type 0
CompletesLive = (a : LiveWords) (status : Status) (o : Outside) (p : Operator) (files : List File) (c : Config) (images : List (List ℕ)) → (FollowsLive MissesArePaid) a status o p → o.files ≡ Some files → HasAllToLive (Some files) a c images
    → first_misfit c.guests images ≡ None → All (FitsDrive o.drives) c.volumes → NoneRose o → (Rose p.keys.faults p.keys'.faults → ⊥) → IsLived p status

-- the answer names the first file that the shelf lacks as missing, and the first too long one as too long, where the shelf did
-- not fail
abbrev pub TellsLiveMissing : Type 0
TellsLiveMissing = (a : LiveWords) (status : Status) (o : Outside) (p : Operator) (files : List File) (name : List ℕ) → (FollowsLive MissesArePaid) a status o p → o.files ≡ Some files → IsNextToLive (Some files) a name → held files name ≡ None → (Rose o.shelf o.shelf' → ⊥) → IsMissing name status

abbrev pub TellsLiveTooLong : Type 0
TellsLiveTooLong = (a : LiveWords) (status : Status) (o : Outside) (p : Operator) (files : List File) (name : List ℕ) → (FollowsLive MissesArePaid) a status o p → o.files ≡ Some files → IsNextToLive (Some files) a name → IsLong files name → (Rose o.shelf o.shelf' → ⊥) → IsTooLong name status

-- the answer names the fault of a configuration that is refused
abbrev pub TellsLiveRule : Type 0
TellsLiveRule = (a : LiveWords) (status : Status) (o : Outside) (p : Operator) (files : List File) (f : ConfigFault) → (FollowsLive MissesArePaid) a status o p → o.files ≡ Some files → IsConfigRefused (Some files) a.config f → (Rose o.shelf o.shelf' → ⊥) → TellsRule f status

-- the answer names the first image that doesn't fit, and the first volume whose drive has another number of blocks, where the
-- images fit and no drive failed
abbrev pub TellsLiveImage : Type 0
TellsLiveImage = (a : LiveWords) (status : Status) (o : Outside) (p : Operator) (files : List File) (c : Config) (images : List (List ℕ)) (g : ℕ) → (FollowsLive MissesArePaid) a status o p → o.files ≡ Some files → HasAllToLive (Some files) a c images
    → first_misfit c.guests images ≡ Some g → (Rose o.shelf o.shelf' → ⊥) → IsImageOf g status

abbrev pub TellsLiveSize : Type 0
TellsLiveSize = (a : LiveWords) (status : Status) (o : Outside) (p : Operator) (files : List File) (c : Config) (images : List (List ℕ)) (v : ℕ) → (FollowsLive MissesArePaid) a status o p → o.files ≡ Some files → HasAllToLive (Some files) a c images
    → first_misfit c.guests images ≡ None → IsMisfit c.volumes o.drives v → NoneRose o → IsSizeOf v status

-- where a line's count is greater, it is named or one of a lower number; where a drive's is, a line or it or a lower drive
abbrev pub TellsLiveLineFault : Type 0
TellsLiveLineFault = (a : LiveWords) (status : Status) (o : Outside) (p : Operator) (k : ℕ) → (FollowsLive MissesArePaid) a status o p → (line_at o.lines k).faults < (line_at o.lines' k).faults → NamesLine k status

abbrev pub TellsLiveDriveFault : Type 0
TellsLiveDriveFault = (a : LiveWords) (status : Status) (o : Outside) (p : Operator) (d : ℕ) → (FollowsLive MissesArePaid) a status o p → (drive_at o.drives d).faults < (drive_at o.drives' d).faults → NamesDrive d status

-- the run of lines that were typed
abbrev pub input_typed : Config → List (List ℕ) → List (List (List ℕ)) → List (List ℕ) → Input
input_typed c images volumes typed = record { config = c; images = images; volumes = volumes; events = events_typed 1 typed; rounds = rounds_typed false typed }

-- Two typings differ only at terminals that don't exist or whose class doesn't flow into another, and make as many rounds.
pub record AreAlikeTo (c : Config) (to : AccessClass) (typed typed' : List (List ℕ)) : Type 0 where
  pub events : purge_events c (events_typed 1 typed) to ≡ purge_events c (events_typed 1 typed') to
  pub rounds : rounds_typed false typed ≡ rounds_typed false typed'

-- Then each device whose class flows into that gets the same bytes, and each such volume.
abbrev pub TypingKeepsLines : Type 0
TypingKeepsLines = (c : Config) (images : List (List ℕ)) (volumes : List (List (List ℕ))) (typed typed' : List (List ℕ)) (to : AccessClass) → IsConfig c → AreAlikeTo c to typed typed'
    → All (λ d. does_flow d.class to ≡ true → line_bytes (input_typed c images volumes typed) d.line ≡ line_bytes (input_typed c images volumes typed') d.line) (devices_of c)

abbrev pub TypingKeepsDrives : Type 0
TypingKeepsDrives = (c : Config) (images : List (List ℕ)) (volumes : List (List (List ℕ))) (typed typed' : List (List ℕ)) (to : AccessClass) → IsConfig c → AreAlikeTo c to typed typed'
    → All (λ v. does_flow v.class to ≡ true → drive_blocks (input_typed c images volumes typed) v.drive ≡ drive_blocks (input_typed c images volumes typed') v.drive) c.volumes

-- One more line, of which, alone, nothing is kept: it says no event, or one at a terminal that doesn't exist or whose class
-- doesn't flow into that. Where an empty line ends its round, the typing is alike to the one without it.
abbrev pub ALineMoreIsAlike : Type 0
ALineMoreIsAlike = (c : Config) (to : AccessClass) (before after : List (List ℕ)) (line : List ℕ) → line ≢ [] → purge_events c (events_typed 1 (line ∷ [])) to ≡ [] → 1 ≤ rounds_ended after → AreAlikeTo c to (before ++ line ∷ after) (before ++ after)
