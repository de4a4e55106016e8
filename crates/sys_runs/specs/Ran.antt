-- A whole run: what is left of it, and what the outside gets of it.
use Rattle.std.specs.Prelude.{ℕ, ◌≡◌, ◌≢◌, ◌≤◌, ◌+◌, ◌*◌, List, [], length, Bool, false, All}
use Rattle.sys_runs.specs.Besides.{Besides}
use Rattle.std.specs.declared.option.Option.TheVariants.{None, Some}
use Rattle.std.specs.declared.result.Result.{Result}
use Rattle.std.specs.declared.result.Result.TheVariants.{Ok, Err}
use Rattle.vax_hw.specs.Machine.{Machine}
use Rattle.vv_io.specs.Blocks.{SeenDrive}
use Rattle.vv_io.specs.Lines.{Seen}
use Rattle.sys_devices.specs.Loads.{AreLoaded, HasFailed, IsMisfit}
use Rattle.sys_devices.specs.Rows.{FitsDrive, drive_at}
use Rattle.sys_devices.specs.Stores.{StoresToDrive, is_marked}
use Rattle.sys_guests.specs.Changes.{Retires}
use Rattle.sys_guests.specs.Loads.{first_misfit}
use Rattle.sys_devices.specs.Shows.{Shows}
use Rattle.sys_objects.specs.declared.records.Config.{Config}
use Rattle.sys_state.specs.Bytes.{drive_blocks_from, line_bytes_from}
use Rattle.sys_state.specs.Counts.{tally_from}
use Rattle.sys_state.specs.Run.{Input, Moment, opening}
use Rattle.sys_runs.specs.declared.running.Ran.{Ran}
use Rattle.sys_script.specs.declared.event.Event.{Event}
use Rattle.sys_system.specs.Devices.{first_failed}
use Rattle.sys_system.specs.declared.power.PowerFault.{PowerFault}
use Rattle.sys_system.specs.declared.power.PowerFault.TheVariants.{Image, VolumeSize, DriveIn, NoMemory}
use Rattle.vm_stepping.specs.Made.{steps_in, tally_of}

-- the outside of a run, before it and after it: the machine, the lines and the drives
pub record RunOutside : Type 0 where
  pub machine : Machine
  pub machine' : Machine
  pub lines : List Seen
  pub lines' : List Seen
  pub drives : List SeenDrive
  pub drives' : List SeenDrive

-- The lines are as before, and so are the machine's counts.
pub record Unshown (o : RunOutside) : Type 0 where
  pub lines : o.lines' ≡ o.lines
  pub retired : o.machine'.retired ≡ o.machine.retired
  pub trail : o.machine'.trail ≡ o.machine.trail
  pub misses : o.machine'.misses ≡ o.machine.misses

-- and every drive is as before
pub record Untouched (o : RunOutside) : Type 0 where
  pub shown : Unshown o
  pub drives : o.drives' ≡ o.drives

-- Each volume's drive has its last blocks after n rounds from a moment on; one that failed is marked, and cut. A drive that no
-- volume has is as before, and isn't marked.
pub record StoresFrom (m : Moment) (es : List Event) (n : ℕ) (marks : List Bool) (drives drives' : List SeenDrive) : Type 0 where
  pub stores : All (λ row. StoresToDrive (is_marked marks row.drive) (drive_at drives row.drive) (drive_at drives' row.drive) (drive_blocks_from m es n row.drive)) m.config.volumes
  pub others : (d : ℕ) → All (λ row. row.drive ≢ d) m.config.volumes → (is_marked marks d ≡ false) × (drive_at drives' d ≡ drive_at drives d)
  pub size : length drives' ≡ length drives

-- n rounds were made from a moment on, and then power went down. The drives have as many blocks as the volumes. Each line has its
-- bytes, or a front of them and a mark where it failed. The steps are those of these rounds: at most 100,000 of each of 16
-- guests, so 1,600,000, for each round since power-up. The machine retired the plain ones.
pub record MakesFrom (Also : Besides) (m : Moment) (es : List Event) (n : ℕ) (ran : Ran) (o : RunOutside) : Type 0 where
  pub fit : All (FitsDrive o.drives) m.config.volumes
  -- the lines and the drives that have failed
  pub marks : List Bool
  pub drive_marks : List Bool
  pub lines : Shows [] marks o.lines o.lines' (λ k. line_bytes_from m es n k)
  pub size : length o.lines' ≡ length o.lines
  pub drives : StoresFrom m es n drive_marks o.drives o.drives'
  pub counts : tally_of ran.counts ≡ tally_from m es n
  pub few : steps_in ran.counts ≤ 1600000 * (m.made + n)
  pub retires : Retires o.machine o.machine' (tally_from m es n)
  pub also : Also m es n o.machine o.machine'
  pub failed : ran.failed ≡ first_failed marks drive_marks

-- The run was made: the images fit, the volumes are those of the drives, and its rounds were made from power-up on.
pub record MakesRun (Also : Besides) (x : Input) (ran : Ran) (o : RunOutside) : Type 0 where
  pub fits : first_misfit x.config.guests x.images ≡ None
  pub loaded : AreLoaded x.config.volumes o.drives x.volumes
  pub makes : MakesFrom Also (opening x) x.events x.rounds ran o

-- Power doesn't come up: the first image that doesn't fit; or else the first volume whose drive has another size, or a drive that
-- failed; or memory ran out.
abbrev pub StaysDown : Config → List (List ℕ) → PowerFault → RunOutside → Type 0
StaysDown c images (Image g) o = (first_misfit c.guests images ≡ Some g) × Untouched o
StaysDown c images (VolumeSize v) o = (first_misfit c.guests images ≡ None) × IsMisfit c.volumes o.drives v × Untouched o
StaysDown c images (DriveIn d) o = (first_misfit c.guests images ≡ None) × HasFailed c.volumes o.drives o.drives' d × Unshown o
StaysDown c images NoMemory o = Untouched o

-- a run by its answer: it was made; or power doesn't come up
abbrev pub Runs : Besides → Config → List (List ℕ) → List Event → ℕ → Result Ran PowerFault → RunOutside → Type 0
Runs Also c images es n (Ok ran) o = (volumes : List (List (List ℕ))) × MakesRun Also (record { config = c; images = images; volumes = volumes; events = es; rounds = n }) ran o
Runs Also c images es n (Err fault) o = StaysDown c images fault o
