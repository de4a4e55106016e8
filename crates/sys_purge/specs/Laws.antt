-- Non-interference: what may not flow to an observer might never have been there (Goguen and Meseguer, Security policies
-- and security models, 1982).
use Rattle.std.specs.Prelude.{ℕ, ◌≡◌, List, true, All}
use Rattle.vv_class.specs.Class.{does_flow}
use Rattle.vv_class.specs.declared.class.AccessClass.{AccessClass}
use Rattle.sys_objects.specs.Condition.{IsConfig}
use Rattle.sys_objects.specs.declared.records.Config.{Config}
use Rattle.sys_purge.specs.Events.{purge_events}
use Rattle.sys_purge.specs.Input.{purged}
use Rattle.sys_purge.specs.Moments.{purged_moment}
use Rattle.sys_script.specs.declared.event.Event.{Event}
use Rattle.sys_state.specs.Bytes.{devices_of, drive_blocks, drive_blocks_from, line_bytes, line_bytes_from, shown_from}
use Rattle.sys_state.specs.Run.{Input, Moment, opening}

-- each device on the line flows into the class
abbrev pub LineFlowsInto : Config → ℕ → AccessClass → Type 0
LineFlowsInto c line to = All (λ d. d.line ≡ line → does_flow d.class to ≡ true) (devices_of c)

-- each volume on the drive does
abbrev pub DriveFlowsInto : Config → ℕ → AccessClass → Type 0
DriveFlowsInto c drive to = All (λ v. v.drive ≡ drive → does_flow v.class to ≡ true) c.volumes

-- A line and a drive get the same when all that doesn't flow into a class was never there, where they flow into it.
abbrev pub KeepsLines : Type 0
KeepsLines = (x : Input) (to : AccessClass) (line : ℕ) → IsConfig x.config → LineFlowsInto x.config line to → line_bytes (purged x to) line ≡ line_bytes x line

abbrev pub KeepsDrives : Type 0
KeepsDrives = (x : Input) (to : AccessClass) (drive : ℕ) → IsConfig x.config → DriveFlowsInto x.config drive to → drive_blocks (purged x to) drive ≡ drive_blocks x drive

-- each device gets the bytes of the run purged to its own class, and so does each volume
abbrev pub KeepsDevices : Type 0
KeepsDevices = (x : Input) → IsConfig x.config → All (λ d. line_bytes (purged x d.class) d.line ≡ line_bytes x d.line) (devices_of x.config)

abbrev pub KeepsVolumes : Type 0
KeepsVolumes = (x : Input) → IsConfig x.config → All (λ v. drive_blocks (purged x v.class) v.drive ≡ drive_blocks x v.drive) x.config.volumes

-- what a run's rounds show on a line, before any dump
abbrev pub shown_on : Input → ℕ → List ℕ
shown_on x line = shown_from (opening x) x.events x.rounds line

-- each device is shown what it is in the run purged to its own class
abbrev pub KeepsShown : Type 0
KeepsShown = (x : Input) → IsConfig x.config → All (λ d. shown_on (purged x d.class) d.line ≡ shown_on x d.line) (devices_of x.config)

-- two inputs with one purge to a class give the same bytes on each device of the one that flows into the class
abbrev pub DevicesDependOnPurges : Type 0
DevicesDependOnPurges = (x y : Input) (to : AccessClass) → IsConfig x.config → IsConfig y.config → purged x to ≡ purged y to
    → All (λ d. does_flow d.class to ≡ true → line_bytes x d.line ≡ line_bytes y d.line) (devices_of x.config)

abbrev pub VolumesDependOnPurges : Type 0
VolumesDependOnPurges = (x y : Input) (to : AccessClass) → IsConfig x.config → IsConfig y.config → purged x to ≡ purged y to
    → All (λ v. does_flow v.class to ≡ true → drive_blocks x v.drive ≡ drive_blocks y v.drive) x.config.volumes

-- From a moment on, each device gets the bytes that it gets when all whose class doesn't flow into its own was taken out of the
-- moment and of the events, and so does each volume.
pub record IsSeparateFrom (m : Moment) (es : List Event) (n : ℕ) : Type 0 where
  pub lines : All (λ d. line_bytes_from (purged_moment m d.class) (purge_events m.config es d.class) n d.line ≡ line_bytes_from m es n d.line) (devices_of m.config)
  pub drives : All (λ v. drive_blocks_from (purged_moment m v.class) (purge_events m.config es v.class) n v.drive ≡ drive_blocks_from m es n v.drive) m.config.volumes

-- the first moment of a purged run is the purge of the first moment
abbrev pub OpeningsArePurged : Type 0
OpeningsArePurged = (x : Input) (to : AccessClass) → IsConfig x.config → opening (purged x to) ≡ purged_moment (opening x) to
