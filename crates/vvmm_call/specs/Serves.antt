-- The call with the sync of its devices after it.
use Rattle.std.specs.Prelude.{ℕ, ◌≡◌, List, min, Option, Some}
use Rattle.sys_runs.specs.Besides.{Besides}
use Rattle.vv_io.specs.Blocks.{SeenDrive}
use Rattle.vv_io.specs.Lines.{Seen}
use Rattle.sys_live.specs.Operator.{Operator}
use Rattle.vvmm_call.specs.Answer.{Outside, Says}
use Rattle.vvmm_files.specs.Words.{Wanted}
use Rattle.vvmm_files.specs.declared.status.Status.{Status}
use Rattle.vvmm_files.specs.declared.status.Status.TheVariants.{Done, OutFault, KeyFault, DeviceFault}
use Rattle.sys_devices.specs.Syncing.{SyncsDrives, SyncsLines}
use Rattle.sys_system.specs.Devices.{device_of}
use Rattle.sys_devices.specs.declared.device.Device.{Device}
use Rattle.sys_devices.specs.declared.device.Device.TheVariants as devices

-- which of two devices that failed the answer has: a line before a drive, and the lowest number
abbrev pub lower : Device → Device → Device
lower (devices.Line a) (devices.Line b) = devices.Line (min a b)
lower (devices.Line a) (devices.Drive b) = devices.Line a
lower (devices.Drive a) (devices.Line b) = devices.Line b
lower (devices.Drive a) (devices.Drive b) = devices.Drive (min a b)

-- The answer after the sync: a device that failed in it goes before an answer that all was done, or that output or typing failed.
-- Of two devices that failed the answer has the lower; no other answer changes.
abbrev pub synced_status : Status → Option Device → Status
synced_status Done (Some device) = DeviceFault device
synced_status OutFault (Some device) = DeviceFault device
synced_status KeyFault (Some device) = DeviceFault device
synced_status (DeviceFault first) (Some device) = DeviceFault (lower first device)
synced_status answer failed = answer

-- The call left lines and drives so, and answered so; then they were synced.
pub record ServesCall (Also : Besides) (words : Option Wanted) (status : Status) (o : Outside) (p : Operator) : Type 0 where
  pub answer : Status
  pub lines : List Seen
  pub drives : List SeenDrive
  pub says : Says Also words answer (record o { lines' = lines; drives' = drives }) p
  pub line : Option ℕ
  pub drive : Option ℕ
  pub synced_lines : SyncsLines lines o.lines' line
  pub synced_drives : SyncsDrives drives o.drives' drive
  pub is : status ≡ synced_status answer (device_of line drive)
