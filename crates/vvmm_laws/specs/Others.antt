-- A command leaves the devices that it doesn't have.
use Rattle.std.specs.Prelude.{◌≡◌, Option}
use Rattle.sys_runs.specs.Besides.{MissesArePaid}
use Rattle.sys_live.specs.Operator.{Operator}
use Rattle.vvmm_call.specs.Answer.{Outside, Says}
use Rattle.vvmm_call.specs.Devices.{devices_needed}
use Rattle.vvmm_files.specs.Words.{Wanted}
use Rattle.vvmm_call.specs.declared.devices.Devices.{Devices}
use Rattle.vvmm_call.specs.declared.devices.Devices.TheVariants.{Nothing, Lines, LinesAndDrives}
use Rattle.vvmm_files.specs.declared.status.Status.{Status}

-- the devices that aren't among these are as before
abbrev pub LeavesAllBut : Devices → Outside → Type 0
LeavesAllBut Nothing o = (o.lines' ≡ o.lines) × (o.drives' ≡ o.drives)
LeavesAllBut Lines o = o.drives' ≡ o.drives
LeavesAllBut LinesAndDrives o = Unit {0}

abbrev pub LeavesOthers : Type 0
LeavesOthers = (words : Option Wanted) (status : Status) (o : Outside) (p : Operator) → (Says MissesArePaid) words status o p → LeavesAllBut (devices_needed words) o
