-- The devices that each command has.
use Rattle.std.specs.Prelude.{Option, Some}
use Rattle.vvmm_files.specs.Words.{Wanted, WantsSolo, WantsTrace, WantsRun, WantsSave, WantsResume, WantsExtend, WantsLive, WantsLoad}
use Rattle.vvmm_call.specs.declared.devices.Devices.{Devices}
use Rattle.vvmm_call.specs.declared.devices.Devices.TheVariants.{Nothing, Lines, LinesAndDrives}

-- `solo`, `trace` and `load` show on lines; `run`, `save`, `resume`, `extend` and `live` have drives besides; no other command has any
abbrev pub devices_needed : Option Wanted → Devices
devices_needed (Some (WantsSolo a)) = Lines
devices_needed (Some (WantsTrace a)) = Lines
devices_needed (Some (WantsLoad number)) = Lines
devices_needed (Some (WantsRun a)) = LinesAndDrives
devices_needed (Some (WantsSave a)) = LinesAndDrives
devices_needed (Some (WantsResume a)) = LinesAndDrives
devices_needed (Some (WantsExtend a)) = LinesAndDrives
devices_needed (Some (WantsLive a)) = LinesAndDrives
devices_needed wanted = Nothing
