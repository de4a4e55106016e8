-- A run that wasn't made.
use Rattle.std.proofs.Common.{ℕ, List, refl, ap}
use Rattle.std.specs.declared.result.Result.TheVariants.{Err}
use Rattle.vax_hw.specs.Machine.{Machine}
use Rattle.vv_io.specs.Blocks.{SeenDrive}
use Rattle.vv_io.specs.Lines.{Seen}
use Rattle.sys_guests.specs.Loads.{MemoryAlone}
use Rattle.sys_objects.specs.declared.records.Config.{Config}
use Rattle.sys_runs.specs.Ran.{RunOutside, StaysDown, Unshown}
use Rattle.sys_system.specs.Faults.{Powers}
use Rattle.sys_system.specs.declared.power.PowerFault.{PowerFault}
use Rattle.sys_system.specs.declared.power.PowerFault.TheVariants.{Image, VolumeSize, DriveIn, NoMemory}

-- the outside of a run that shows nothing
abbrev pub outside : Machine → Machine → List Seen → List SeenDrive → List SeenDrive → RunOutside
outside m m' lines drives drives' = record { machine = m; machine' = m'; lines = lines; lines' = lines; drives = drives; drives' = drives' }

pub unshown : (m m' : Machine) (lines : List Seen) (drives drives' : List SeenDrive) → MemoryAlone m m' → Unshown (outside m m' lines drives drives')
unshown m m' lines drives drives' alone = record { lines = refl; retired = ap (λ (x : Machine). x.retired) alone.rest; trail = ap (λ (x : Machine). x.trail) alone.rest; misses = ap (λ (x : Machine). x.misses) alone.rest }

-- power stays down
pub stays_down : (c : Config) (images : List (List ℕ)) (m m' : Machine) (lines : List Seen) (drives drives' : List SeenDrive) (e : PowerFault) → Powers c images drives drives' m' (Err e) → MemoryAlone m m' → StaysDown c images e (outside m m' lines drives drives')
stays_down c images m m' lines drives drives' (Image g) (misfit, same) alone = (misfit, record { shown = unshown m m' lines drives drives' alone; drives = same })
stays_down c images m m' lines drives drives' (VolumeSize v) (fits, (misfit, same)) alone = (fits, misfit, record { shown = unshown m m' lines drives drives' alone; drives = same })
stays_down c images m m' lines drives drives' (DriveIn d) (fits, failed) alone = (fits, failed, unshown m m' lines drives drives' alone)
stays_down c images m m' lines drives drives' NoMemory same alone = record { shown = unshown m m' lines drives drives' alone; drives = same }
