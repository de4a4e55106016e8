-- What two runs of `live` show where their typing differs at terminals whose class doesn't flow into another: of what flows into
-- that, the same.
use Rattle.std.specs.Prelude.{ℕ, ◌≡◌, List, Some, All, true}
use Rattle.sys_runs.specs.Besides.{MissesArePaid}
use Rattle.vv_io.specs.Blocks.{SeenDrive}
use Rattle.vv_io.specs.Keys.{Took}
use Rattle.vv_io.specs.Lines.{shown_after}
use Rattle.vv_io.specs.Shelf.{File}
use Rattle.vv_class.specs.Class.{does_flow}
use Rattle.vv_class.specs.declared.class.AccessClass.{AccessClass}
use Rattle.sys_devices.specs.Rows.{drive_at}
use Rattle.sys_live.specs.Operator.{Operator}
use Rattle.sys_objects.specs.declared.records.Config.{Config}
use Rattle.sys_state.specs.Bytes.{devices_of}
use Rattle.vvmm_call.specs.Answer.{FollowsLive, Outside}
use Rattle.vvmm_files.specs.Files.{HasConfig}
use Rattle.vvmm_files.specs.Words.{LiveWords}
use Rattle.vvmm_files.specs.declared.status.Status.TheVariants.{Done}
use Rattle.vvmm_laws.specs.Complete.{line_at}
use Rattle.vvmm_laws.specs.Live.{AreAlikeTo}

-- the lines that were taken from a keyboard whose lines are known
pub record AreTaken (typed : List (List ℕ)) (p : Operator) : Type 0 where
  pub coming : List (List ℕ)
  pub told : p.keys.coming ≡ Some coming
  pub took : Took typed p.keys.coming p.keys'.coming

-- the blocks of each volume's drive are known
abbrev pub AreBlocksKnown : Config → List SeenDrive → Type 0
AreBlocksKnown c drives = All (λ v. (blocks : List (List ℕ)) × ((drive_at drives v.drive).blocks ≡ Some blocks)) c.volumes

-- Both runs are of one configuration, over the same files and drives; these lines were taken in each.
pub record AreOfOne (a : LiveWords) (c : Config) (o o' : Outside) (p p' : Operator) (typed typed' : List (List ℕ)) : Type 0 where
  pub files : List File
  pub told : o.files ≡ Some files
  pub told' : o'.files ≡ Some files
  pub config : HasConfig (Some files) a.config c
  pub drives : o'.drives ≡ o.drives
  pub blocks : AreBlocksKnown c o.drives
  pub taken : AreTaken typed p
  pub taken' : AreTaken typed' p'

-- a line is put the same bytes in both
abbrev pub GetsSame : Outside → Outside → ℕ → Type 0
GetsSame o o' k = (bytes : List ℕ) × ((line_at o.lines' k).shown ≡ shown_after (line_at o.lines k).shown bytes) × ((line_at o'.lines' k).shown ≡ shown_after (line_at o'.lines k).shown bytes)

-- each device whose class flows into that gets the same bytes, and the drive of each such volume ends with the same blocks
pub record AgreeTo (c : Config) (to : AccessClass) (o o' : Outside) : Type 0 where
  pub lines : All (λ d. does_flow d.class to ≡ true → GetsSame o o' d.line) (devices_of c)
  pub drives : All (λ v. does_flow v.class to ≡ true → (drive_at o.drives' v.drive).blocks ≡ (drive_at o'.drives' v.drive).blocks) c.volumes

abbrev pub LivesAgree : Type 0
LivesAgree = (a : LiveWords) (c : Config) (o o' : Outside) (p p' : Operator) (typed typed' : List (List ℕ)) (to : AccessClass) → (FollowsLive MissesArePaid) a Done o p → (FollowsLive MissesArePaid) a Done o' p' → AreOfOne a c o o' p p' typed typed' → AreAlikeTo c to typed typed' → AgreeTo c to o o'
