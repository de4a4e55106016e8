-- What bringing power up answers.
use Rattle.std.specs.Prelude.{ℕ, ◌≡◌, List}
use Rattle.std.specs.declared.option.Option.TheVariants.{None, Some}
use Rattle.std.specs.declared.result.Result.{Result}
use Rattle.std.specs.declared.result.Result.TheVariants.{Ok, Err}
use Rattle.vax_hw.specs.Machine.{Machine}
use Rattle.vv_io.specs.Blocks.{SeenDrive}
use Rattle.sys_devices.specs.Loads.{Loads}
use Rattle.sys_devices.specs.declared.loading.LoadFault.{LoadFault}
use Rattle.sys_devices.specs.declared.loading.LoadFault.TheVariants as loads
use Rattle.sys_guests.specs.Loads.{first_misfit}
use Rattle.sys_objects.specs.declared.records.Config.{Config}
use Rattle.sys_system.specs.Powers.{IsPowered}
use Rattle.sys_system.specs.System.{System}
use Rattle.sys_system.specs.declared.power.PowerFault.{PowerFault}
use Rattle.sys_system.specs.declared.power.PowerFault.TheVariants.{Image, VolumeSize, DriveIn, NoMemory}

abbrev pub power_fault : LoadFault → PowerFault
power_fault (loads.VolumeSize v) = VolumeSize v
power_fault (loads.DriveIn d) = DriveIn d
power_fault loads.NoMemory = NoMemory

-- the volumes were read, and the system has them
pub record HasPower (c : Config) (images : List (List ℕ)) (drives drives' : List SeenDrive) (m' : Machine) (s : System) : Type 0 where
  pub fits : first_misfit c.guests images ≡ None
  pub volumes : List (List (List ℕ))
  pub loaded : Loads c.volumes drives drives' (Ok volumes)
  pub powered : IsPowered c images volumes m' s

-- the first image that doesn't fit; or else the first volume whose drive has another size, or a drive that failed; or memory ran
-- out
abbrev pub Powers : Config → List (List ℕ) → List SeenDrive → List SeenDrive → Machine → Result System PowerFault → Type 0
Powers c images drives drives' m' (Ok s) = HasPower c images drives drives' m' s
Powers c images drives drives' m' (Err (Image g)) = (first_misfit c.guests images ≡ Some g) × (drives' ≡ drives)
Powers c images drives drives' m' (Err (VolumeSize v)) = (first_misfit c.guests images ≡ None) × Loads c.volumes drives drives' (Err (loads.VolumeSize v))
Powers c images drives drives' m' (Err (DriveIn d)) = (first_misfit c.guests images ≡ None) × Loads c.volumes drives drives' (Err (loads.DriveIn d))
Powers c images drives drives' m' (Err NoMemory) = drives' ≡ drives
