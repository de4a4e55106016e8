-- A run over given volumes, which take the place of the drives.
use Rattle.std.specs.Prelude.{ℕ, ◌≡◌, ◌≤◌, ◌*◌, List, [], length, Bool}
use Rattle.sys_runs.specs.Besides.{Besides}
use Rattle.std.specs.declared.option.Option.TheVariants.{None, Some}
use Rattle.std.specs.declared.result.Result.{Result}
use Rattle.std.specs.declared.result.Result.TheVariants.{Ok, Err}
use Rattle.sys_devices.specs.Rows.{FitRows}
use Rattle.sys_guests.specs.Changes.{Retires}
use Rattle.sys_guests.specs.Loads.{first_misfit}
use Rattle.sys_devices.specs.Shows.{Shows}
use Rattle.sys_objects.specs.declared.records.Config.{Config}
use Rattle.sys_state.specs.Bytes.{line_bytes}
use Rattle.sys_state.specs.Counts.{run_outcome}
use Rattle.sys_state.specs.Run.{Input, opening}
use Rattle.sys_runs.specs.Ran.{RunOutside, Untouched}
use Rattle.sys_runs.specs.declared.running.Ran.{Ran}
use Rattle.sys_script.specs.declared.event.Event.{Event}
use Rattle.sys_system.specs.Devices.{first_failed}
use Rattle.sys_system.specs.Given.{first_of_another_size}
use Rattle.sys_system.specs.declared.power.PowerFault.{PowerFault}
use Rattle.sys_system.specs.declared.power.PowerFault.TheVariants.{Image, VolumeSize, DriveIn, NoMemory}
use Rattle.vm_stepping.specs.Made.{steps_in, tally_of}

-- The run was made, over volumes of the right sizes; every drive is as before. All else is as in a run over drives: each
-- line has its bytes of the run, or a front of them and a mark where it failed. The steps are those of the run: at most
-- 100,000 of each of 16 guests, so 1,600,000, in a round. The machine retired the plain ones. Only a line can have failed.
pub record MakesWith (Also : Besides) (x : Input) (ran : Ran) (o : RunOutside) : Type 0 where
  pub fits : first_misfit x.config.guests x.images ≡ None
  pub sizes : FitRows x.config.volumes x.volumes
  -- the lines that have failed
  pub marks : List Bool
  pub lines : Shows [] marks o.lines o.lines' (λ k. line_bytes x k)
  pub size : length o.lines' ≡ length o.lines
  pub drives : o.drives' ≡ o.drives
  pub counts : tally_of ran.counts ≡ (run_outcome x).tally
  pub few : steps_in ran.counts ≤ 1600000 * x.rounds
  pub retires : Retires o.machine o.machine' (run_outcome x).tally
  pub also : Also (opening x) x.events x.rounds o.machine o.machine'
  pub failed : ran.failed ≡ first_failed marks []

-- a run over given volumes by its answer: it was made; or the first image doesn't fit; or else the first volume is of
-- another size; or memory ran out
abbrev pub RunsWith : Besides → Config → List (List ℕ) → List (List (List ℕ)) → List Event → ℕ → Result Ran PowerFault → RunOutside → Type 0
RunsWith Also c images volumes es n (Ok ran) o = MakesWith Also (record { config = c; images = images; volumes = volumes; events = es; rounds = n }) ran o
RunsWith Also c images volumes es n (Err (Image g)) o = (first_misfit c.guests images ≡ Some g) × Untouched o
RunsWith Also c images volumes es n (Err (VolumeSize v)) o = (first_misfit c.guests images ≡ None) × (first_of_another_size c.volumes volumes ≡ Some v) × Untouched o
RunsWith Also c images volumes es n (Err (DriveIn d)) o = ⊥
RunsWith Also c images volumes es n (Err NoMemory) o = Untouched o
