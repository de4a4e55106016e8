-- What bringing power up with given volumes answers.
use Rattle.std.specs.Prelude.{ℕ, ◌≡◌, ◌==◌, not, List, length, Bool}
use Rattle.std.specs.declared.option.Option.{Option}
use Rattle.std.specs.declared.option.Option.TheVariants.{None, Some}
use Rattle.std.specs.declared.result.Result.{Result}
use Rattle.std.specs.declared.result.Result.TheVariants.{Ok, Err}
use Rattle.vax_hw.specs.Machine.{Machine}
use Rattle.sys_devices.specs.Rows.{FitRows}
use Rattle.sys_guests.specs.Loads.{first_misfit}
use Rattle.sys_objects.specs.declared.records.Config.{Config}
use Rattle.sys_objects.specs.declared.records.VolumeRow.{VolumeRow}
use Rattle.sys_state.specs.Places.{beside_with, place_of}
use Rattle.sys_system.specs.Powers.{IsPowered}
use Rattle.sys_system.specs.System.{System}
use Rattle.sys_system.specs.declared.power.PowerFault.{PowerFault}
use Rattle.sys_system.specs.declared.power.PowerFault.TheVariants.{Image, VolumeSize, DriveIn, NoMemory}

-- whether there are more or fewer blocks than the row says
abbrev pub is_another_size : VolumeRow → List (List ℕ) → Bool
is_another_size row blocks = not (length blocks == row.blocks)

-- the first volume with more or fewer blocks than its row says
abbrev pub first_of_another_size : List VolumeRow → List (List (List ℕ)) → Option ℕ
first_of_another_size rows volumes = place_of (λ b. b) (beside_with is_another_size rows volumes)

-- the system has the given volumes
pub record HasPowerWith (c : Config) (images : List (List ℕ)) (volumes : List (List (List ℕ))) (m' : Machine) (s : System) : Type 0 where
  pub fits : first_misfit c.guests images ≡ None
  pub sizes : FitRows c.volumes volumes
  pub powered : IsPowered c images volumes m' s

-- the first image that doesn't fit; or else the first volume of another size; or memory ran out
abbrev pub PowersWith : Config → List (List ℕ) → List (List (List ℕ)) → Machine → Result System PowerFault → Type 0
PowersWith c images volumes m' (Ok s) = HasPowerWith c images volumes m' s
PowersWith c images volumes m' (Err (Image g)) = first_misfit c.guests images ≡ Some g
PowersWith c images volumes m' (Err (VolumeSize v)) = (first_misfit c.guests images ≡ None) × (first_of_another_size c.volumes volumes ≡ Some v)
PowersWith c images volumes m' (Err (DriveIn d)) = ⊥
PowersWith c images volumes m' (Err NoMemory) = Unit {0}
