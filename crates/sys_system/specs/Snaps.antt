-- What resuming a system answers.
use Rattle.std.specs.Prelude.{List, All}
use Rattle.std.specs.declared.result.Result.{Result}
use Rattle.std.specs.declared.result.Result.TheVariants.{Ok, Err}
use Rattle.vax_hw.specs.Machine.{Machine}
use Rattle.vv_io.specs.Blocks.{SeenDrive}
use Rattle.sys_devices.specs.Loads.{IsMisfit}
use Rattle.sys_devices.specs.Rows.{FitsDrive}
use Rattle.sys_state.specs.Run.{Moment}
use Rattle.sys_system.specs.Powers.{IsAt}
use Rattle.sys_system.specs.System.{System}
use Rattle.sys_system.specs.declared.power.PowerFault.{PowerFault}
use Rattle.sys_system.specs.declared.power.PowerFault.TheVariants.{Image, VolumeSize, DriveIn, NoMemory}

-- it is at the moment, and each volume's drive has its size; or the first whose drive has another; or memory ran out
abbrev pub Resumes : Moment → List SeenDrive → Machine → Result System PowerFault → Type 0
Resumes m drives m' (Ok s) = IsAt m m' s × All (FitsDrive drives) m.config.volumes
Resumes m drives m' (Err (Image g)) = ⊥
Resumes m drives m' (Err (VolumeSize v)) = IsMisfit m.config.volumes drives v
Resumes m drives m' (Err (DriveIn d)) = ⊥
Resumes m drives m' (Err NoMemory) = Unit {0}
