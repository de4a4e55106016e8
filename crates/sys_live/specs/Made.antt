-- Rounds of a system that are made as their lines are typed.
use Rattle.std.specs.Prelude.{ℕ, ◌≡◌, ◌≤◌, List, [], All, Bool, true, false, slice_index_or}
use Rattle.vax_hw.specs.Machine.{Machine}
use Rattle.vv_io.specs.Lines.{Seen, unseen}
use Rattle.sys_devices.specs.Rounds.{echo_rounds}
use Rattle.sys_devices.specs.Screens.{AreSameScreens, AreWithin, Echoes, IsLineKnown, more_on, new_on}
use Rattle.sys_devices.specs.declared.screen.Screen.{Screen}
use Rattle.sys_devices.specs.ShownSince.{ShownSince}
use Rattle.sys_runs.specs.Rounds.{MakesRounds}
use Rattle.sys_script.specs.Typed.{events_typed, refusal_messages, rounds_typed}
use Rattle.sys_system.specs.System.{System, moment_of}
use Rattle.sys_live.specs.Lives.{AreSeen}
use Rattle.sys_live.specs.Operator.{Operator}
use Rattle.sys_live.specs.Order.{AsksInOrder, HasShown}
use Rattle.sys_live.specs.Typing.{EndsTypedRun}
use Rattle.sys_live.specs.declared.session.Went.{Went}

-- The news of the screens was put on the sink, whole or cut. Where it is whole, the screens are at the end of what known lines
-- have shown.
pub record ShowsNews (cut : Bool) (lines : List Seen) (screens screens' : List Screen) (out out' : Seen) : Type 0 where
  pub echoes : Echoes cut lines screens out out'
  pub same : AreSameScreens screens screens'
  pub seen : cut ≡ false → All (λ screen. IsLineKnown (slice_index_or lines screen.line unseen) → new_on lines screen ≡ []) screens'
  pub within : AreWithin lines screens → AreWithin lines screens'

-- where nothing was cut before; and else nothing is put
abbrev pub GoesOnShowing : (cut cut' : Bool) → List Seen → (screens screens' : List Screen) → (out out' : Seen) → Type 0
GoesOnShowing true cut' lines screens screens' out out' = (cut' ≡ true) × (screens' ≡ screens) × (out' ≡ out)
GoesOnShowing false cut' lines screens screens' out out' = ShowsNews cut' lines screens screens' out out'

-- Lines were typed, and the rounds that they make were made with their events. Why lines say no event was reported, and what the
-- terminals were shown, where that is known, was shown to the operator; both are whole or cut. Each line was asked for when the
-- rounds before it were shown.
pub record MakesTyped (most : ℕ) (went : Went) (p : Operator) (out out' : Seen) (m : Machine) (s : System) (lines : List Seen) (m' : Machine) (s' : System) (lines' : List Seen) : Type 0 where
  pub typed : List (List ℕ)
  pub ends : EndsTypedRun went.typing most typed p.keys p.keys'
  pub few : rounds_typed false typed ≤ most
  pub makes : MakesRounds (rounds_typed false typed) (events_typed 1 typed) m s lines m' s' lines'
  pub cut : Bool
  pub told : ShownSince cut p.errors p.errors' (refusal_messages 1 typed)
  pub shown : HasShown went.is_cut (AreSeen s.config.terminals lines') (echo_rounds (more_on lines lines') (moment_of m.memory s) (events_typed 1 typed) (rounds_typed false typed)) out out'
  pub asked : AsksInOrder (AreSeen s.config.terminals lines') (echo_rounds (more_on lines lines') (moment_of m.memory s) (events_typed 1 typed)) out went.typing typed p.keys p.keys'
