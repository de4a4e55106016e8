-- A law of runs.
use Rattle.std.specs.Prelude.{◌≡◌, []}
use Rattle.sys_runs.specs.Besides.{MissesArePaid}
use Rattle.sys_runs.specs.Ran.{MakesRun, RunOutside}
use Rattle.sys_runs.specs.declared.running.Ran.{Ran}
use Rattle.sys_state.specs.Run.{Input}

-- without volumes every drive is as before
abbrev pub TouchesNoDrive : Type 0
TouchesNoDrive = (x : Input) (ran : Ran) (o : RunOutside) → x.config.volumes ≡ [] → MakesRun MissesArePaid x ran o → o.drives' ≡ o.drives
