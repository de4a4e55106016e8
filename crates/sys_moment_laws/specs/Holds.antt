-- What every state of a run keeps: no guest is at two terminals, and each runs or has stopped with a stop code.
use Rattle.std.specs.Prelude.{ℕ, ◌≡◌, List, [], ◌∷◌, Bool, false, Option}
use Rattle.sys_objects.specs.Rules.{same_place}
use Rattle.sys_objects.specs.declared.records.Config.{Config}
use Rattle.sys_state.specs.Run.{Input, rounds, run}
use Rattle.sys_state.specs.State.{SystemState}
use Rattle.sys_script.specs.declared.event.Event.{Event}
use Rattle.vm_state.specs.Stops.{IsHalt}
use Rattle.vm_state.specs.State.{Guest}

-- none passes the test
abbrev pub NoneIs : (Option ℕ → Bool) → List (Option ℕ) → Type 0
NoneIs test [] = Unit {0}
NoneIs test (o ∷ os) = (test o ≡ false) × NoneIs test os

abbrev pub OccurOnce : List (Option ℕ) → Type 0
OccurOnce [] = Unit {0}
OccurOnce (o ∷ os) = NoneIs (same_place o) os × OccurOnce os

abbrev pub AllHalt : List Guest → Type 0
AllHalt [] = Unit {0}
AllHalt (g ∷ gs) = IsHalt g.state.halt × AllHalt gs

pub record IsSoundSystem (s : SystemState) : Type 0 where
  pub once : OccurOnce s.connected
  pub halts : AllHalt s.guests

abbrev pub RoundsKeep : Type 0
RoundsKeep = (c : Config) (i n : ℕ) (es : List Event) (s : SystemState) → IsSoundSystem s → IsSoundSystem (rounds c i n es s).now

abbrev pub RunsKeep : Type 0
RunsKeep = (x : Input) → IsSoundSystem (run x).now
