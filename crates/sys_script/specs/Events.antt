-- What is true of the events of each script.
use Rattle.std.specs.List.{All}
use Rattle.std.specs.Prelude.{◌≡◌, ℕ, ◌≤◌, List, [], ◌∷◌, true}
use Rattle.vv_base.specs.Names.{is_object_name}
use Rattle.sys_script.specs.EventLine.{is_allowed}
use Rattle.sys_script.specs.declared.event.Event.{Event}

pub record IsEvent (event : Event) : Type 0 where
  pub from : 1 ≤ event.round
  pub to : event.round ≤ 1000000
  pub terminal : is_object_name event.terminal ≡ true
  pub what : is_allowed event.what ≡ true

-- no round is lower than the one before, nor than `last`
abbrev pub NeverFalls : ℕ → List Event → Type 0
NeverFalls last [] = Unit {0}
NeverFalls last (event ∷ more) = (last ≤ event.round) × NeverFalls event.round more

pub record AreEvents (events : List Event) : Type 0 where
  pub each : All IsEvent events
  pub order : NeverFalls 0 events
