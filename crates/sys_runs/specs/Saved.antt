-- Runs whose last moment is shown as a snapshot, and runs that go on from one.
use Rattle.std.specs.Prelude.{ℕ, ◌≡◌, ◌≤◌, List, [], length, Bool, false, All}
use Rattle.sys_runs.specs.Besides.{Besides}
use Rattle.std.specs.declared.option.Option.TheVariants.{None}
use Rattle.std.specs.declared.result.Result.{Result}
use Rattle.std.specs.declared.result.Result.TheVariants.{Ok, Err}
use Rattle.vv_io.specs.Lines.{Seen}
use Rattle.sys_devices.specs.Loads.{AreLoaded, IsMisfit}
use Rattle.sys_devices.specs.Rows.{FitsDrive}
use Rattle.sys_guests.specs.Changes.{Retires}
use Rattle.sys_guests.specs.Loads.{first_misfit}
use Rattle.sys_devices.specs.ShownSince.{ShownSince}
use Rattle.sys_devices.specs.Shows.{Shows}
use Rattle.sys_objects.specs.declared.records.Config.{Config}
use Rattle.sys_state.specs.Bytes.{shown_from}
use Rattle.sys_state.specs.Counts.{tally_from}
use Rattle.sys_state.specs.Run.{Input, Moment, moment_after, opening}
use Rattle.sys_runs.specs.Ran.{MakesFrom, RunOutside, StaysDown, Untouched}
use Rattle.sys_runs.specs.declared.running.Ran.{Ran}
use Rattle.sys_runs.specs.declared.saving.Saved.{Saved}
use Rattle.sys_script.specs.declared.event.Event.{Event}
use Rattle.sys_snap.specs.Snap.{IsMoment}
use Rattle.sys_snap.specs.Written.{snap_bytes}
use Rattle.sys_system.specs.Devices.{first_failed}
use Rattle.sys_system.specs.declared.power.PowerFault.{PowerFault}
use Rattle.sys_system.specs.declared.power.PowerFault.TheVariants.{Image, VolumeSize, DriveIn, NoMemory}

-- the moment after a run's last round
abbrev pub last_moment : Input → Moment
last_moment x = moment_after (opening x) x.events x.rounds

-- n rounds were made from a moment on, and the moment after them was shown. The drives have as many blocks as the volumes, and
-- stay as they are. Each line has what these rounds show, or a front of it and a mark where it failed; no dump is shown. The
-- machine retired the plain steps of these rounds; it missed at most as many pages as they have first touches. Only a line can
-- have failed. `out` was shown the snapshot of that moment with this text, or a front of it where `out` failed; shown whole, it is
-- one.
pub record SavesFrom (Also : Besides) (m : Moment) (es : List Event) (n : ℕ) (text : List ℕ) (saved : Saved) (o : RunOutside) (out out' : Seen) : Type 0 where
  pub fit : All (FitsDrive o.drives) m.config.volumes
  -- the lines that have failed
  pub marks : List Bool
  pub lines : Shows [] marks o.lines o.lines' (λ k. shown_from m es n k)
  pub size : length o.lines' ≡ length o.lines
  pub drives : o.drives' ≡ o.drives
  pub retires : Retires o.machine o.machine' (tally_from m es n)
  pub also : Also m es n o.machine o.machine'
  pub failed : saved.failed ≡ first_failed marks []
  pub shown : ShownSince saved.is_cut out out' (snap_bytes text (moment_after m es n))
  pub moment : saved.is_cut ≡ false → IsMoment (moment_after m es n)

-- The run was saved: the images fit, the volumes are those of the drives, and its rounds were made from power-up on.
pub record Saves (Also : Besides) (x : Input) (text : List ℕ) (saved : Saved) (o : RunOutside) (out out' : Seen) : Type 0 where
  pub fits : first_misfit x.config.guests x.images ≡ None
  pub loaded : AreLoaded x.config.volumes o.drives x.volumes
  pub saves : SavesFrom Also (opening x) x.events x.rounds text saved o out out'

-- a run that is saved, by its answer: its rounds were made; or power doesn't come up, and nothing is shown
abbrev pub SavesRun : Besides → Config → List ℕ → List (List ℕ) → List Event → ℕ → Result Saved PowerFault → RunOutside → (out out' : Seen) → Type 0
SavesRun Also c text images es n (Ok saved) o out out' = (volumes : List (List (List ℕ))) × Saves Also (record { config = c; images = images; volumes = volumes; events = es; rounds = n }) text saved o out out'
SavesRun Also c text images es n (Err fault) o out out' = StaysDown c images fault o × (out' ≡ out)

-- No run goes on from a moment: a drive has another size than the first volume for which that is so; or memory ran out.
abbrev pub StaysAt : Moment → PowerFault → RunOutside → Type 0
StaysAt m (Image g) o = ⊥
StaysAt m (VolumeSize v) o = IsMisfit m.config.volumes o.drives v × Untouched o
StaysAt m (DriveIn d) o = ⊥
StaysAt m NoMemory o = Untouched o

-- a run that goes on from a moment, by its answer: its rounds were made from there on; or it doesn't go on
abbrev pub ContinuesRun : Besides → Moment → List Event → ℕ → Result Ran PowerFault → RunOutside → Type 0
ContinuesRun Also m es n (Ok ran) o = MakesFrom Also m es n ran o
ContinuesRun Also m es n (Err fault) o = StaysAt m fault o

-- .. and one that goes on and is saved
abbrev pub ExtendsRun : Besides → Moment → List ℕ → List Event → ℕ → Result Saved PowerFault → RunOutside → (out out' : Seen) → Type 0
ExtendsRun Also m text es n (Ok saved) o out out' = SavesFrom Also m es n text saved o out out'
ExtendsRun Also m text es n (Err fault) o out out' = StaysAt m fault o × (out' ≡ out)
