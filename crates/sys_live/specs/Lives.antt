-- A run whose events are typed while it goes on.
use Rattle.std.specs.Prelude.{ℕ, ◌≡◌, ◌≤◌, List, All, Bool, false, slice_index_or, Result, Ok, Err}
use Rattle.sys_runs.specs.Besides.{Besides}
use Rattle.vv_io.specs.Lines.{Seen, unseen}
use Rattle.sys_devices.specs.Rounds.{echo_rounds}
use Rattle.sys_devices.specs.Screens.{IsLineKnown, more_on}
use Rattle.sys_devices.specs.ShownSince.{ShownSince}
use Rattle.sys_objects.specs.declared.records.Config.{Config}
use Rattle.sys_objects.specs.declared.records.Terminal.{Terminal}
use Rattle.sys_state.specs.Run.{Input, opening}
use Rattle.sys_runs.specs.Ran.{MakesRun, RunOutside, StaysDown}
use Rattle.sys_script.specs.Script.{script_of}
use Rattle.sys_script.specs.Typed.{events_typed, refusal_messages, rounds_typed, script_typed}
use Rattle.sys_system.specs.declared.power.PowerFault.{PowerFault}
use Rattle.sys_live.specs.Operator.{Operator, Untyped}
use Rattle.sys_live.specs.Order.{AsksInOrder, HasShown}
use Rattle.sys_live.specs.Typing.{EndsTypedRun}
use Rattle.sys_live.specs.declared.session.Lived.{Lived}

-- what the terminals' lines have shown is known, and 64 bits count its bytes
abbrev pub AreSeen : List Terminal → List Seen → Type 0
AreSeen terminals lines = All (λ t. IsLineKnown (slice_index_or lines t.line unseen)) terminals

-- The run was made whose script stands for the lines that were typed, of as many rounds as they make: `MakesRun` says so of it,
-- as of a run with that script. The reports say why lines say no event, whole or cut. After each round, before the next line is
-- asked for, is shown what its terminals' lines took in it, where that is known, whole or cut.
pub record Lives (Also : Besides) (x : Input) (most : ℕ) (lived : Lived) (o : RunOutside) (p : Operator) (out out' : Seen) : Type 0 where
  pub makes : MakesRun Also x lived.ran o
  -- the lines that were taken
  pub typed : List (List ℕ)
  pub ends : EndsTypedRun lived.typing most typed p.keys p.keys'
  pub events : x.events ≡ events_typed 1 typed
  pub means : script_of (script_typed 1 typed) ≡ Ok x.events
  pub rounds : x.rounds ≡ rounds_typed false typed
  pub few : x.rounds ≤ most
  pub made : lived.rounds ≡ x.rounds
  -- whether the sink for reports failed
  pub cut : Bool
  pub told : ShownSince cut p.errors p.errors' (refusal_messages 1 typed)
  -- what was shown of all rounds, and when each line was asked for
  pub shown : HasShown lived.is_cut (AreSeen x.config.terminals o.lines') (echo_rounds (more_on o.lines o.lines') (opening x) x.events x.rounds) out out'
  pub asked : AsksInOrder (AreSeen x.config.terminals o.lines') (echo_rounds (more_on o.lines o.lines') (opening x) x.events) out lived.typing typed p.keys p.keys'

-- such a run by its answer: it was made; or power doesn't come up, and nothing is taken, reported or shown
abbrev pub LivesRun : Besides → Config → List (List ℕ) → ℕ → Result Lived PowerFault → RunOutside → Operator → Seen → Seen → Type 0
LivesRun Also c images most (Ok lived) o p out out' = (x : Input) × (x.config ≡ c) × (x.images ≡ images) × Lives Also x most lived o p out out'
LivesRun Also c images most (Err fault) o p out out' = StaysDown c images fault o × Untyped p × (out' ≡ out)
