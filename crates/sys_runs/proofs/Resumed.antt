-- A run that goes on from a moment.
use Rattle.std.proofs.Common.{List, refl}
use Rattle.std.specs.declared.result.Result.TheVariants.{Err}
use Rattle.vax_hw.specs.Machine.{Machine}
use Rattle.vv_io.specs.Blocks.{SeenDrive}
use Rattle.vv_io.specs.Lines.{Seen}
use Rattle.sys_guests.specs.Loads.{MemoryAlone}
use Rattle.sys_state.specs.Run.{Moment}
use Rattle.sys_runs.proofs.Faults.{outside, unshown}
use Rattle.sys_runs.specs.Saved.{StaysAt}
use Rattle.sys_system.specs.Snaps.{Resumes}
use Rattle.sys_system.specs.declared.power.PowerFault.{PowerFault}
use Rattle.sys_system.specs.declared.power.PowerFault.TheVariants.{Image, VolumeSize, DriveIn, NoMemory}

-- it doesn't go on
pub stays_at : (m : Moment) (m0 m1 : Machine) (lines : List Seen) (drives : List SeenDrive) (e : PowerFault) → Resumes m drives m1 (Err e) → MemoryAlone m0 m1 → StaysAt m e (outside m0 m1 lines drives drives)
stays_at m m0 m1 lines drives (Image g) never alone = absurd never
stays_at m m0 m1 lines drives (VolumeSize v) misfit alone = (misfit, record { shown = unshown m0 m1 lines drives drives alone; drives = refl })
stays_at m m0 m1 lines drives (DriveIn d) never alone = absurd never
stays_at m m0 m1 lines drives NoMemory free alone = record { shown = unshown m0 m1 lines drives drives alone; drives = refl }
