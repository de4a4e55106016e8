-- A run that was made takes few steps.
use Rattle.std.proofs.Common.{ℕ, ◌≤◌, List, arith, Result, Ok, Err, IfOk}
use Rattle.sys_runs.specs.Besides.{MissesArePaid}
use Rattle.vm_stepping.specs.Made.{steps_in}
use Rattle.sys_objects.specs.declared.records.Config.{Config}
use Rattle.sys_state.specs.Run.{Moment}
use Rattle.sys_runs.specs.Ran.{RunOutside, Runs}
use Rattle.sys_runs.specs.Saved.{ContinuesRun}
use Rattle.sys_runs.specs.declared.running.Ran.{Ran}
use Rattle.sys_script.specs.declared.event.Event.{Event}
use Rattle.sys_system.specs.declared.power.PowerFault.{PowerFault}

pub few_in_run : (c : Config) (images : List (List ℕ)) (es : List Event) (n : ℕ) (result : Result Ran PowerFault) (o : RunOutside) → n ≤ 1000000 → Runs MissesArePaid c images es n result o → IfOk result (λ ran. steps_in ran.counts ≤ 3200000000000)
few_in_run c images es n (Ok ran) o few (volumes, made) = omega (arith, few, made.makes.few)
few_in_run c images es n (Err fault) o few runs = tt

pub few_from : (m : Moment) (es : List Event) (n : ℕ) (result : Result Ran PowerFault) (o : RunOutside) → m.made ≤ 1000000 → n ≤ 1000000 → ContinuesRun MissesArePaid m es n result o → IfOk result (λ ran. steps_in ran.counts ≤ 3200000000000)
few_from m es n (Ok ran) o few_before few made = omega (arith, few_before, few, made.few)
few_from m es n (Err fault) o few_before few goes_on = tt
