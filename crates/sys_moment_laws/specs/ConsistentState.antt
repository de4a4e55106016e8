-- What of a moment the rounds themselves keep: which guest each terminal has, what is mounted, and whether each guest runs.
use Rattle.std.specs.Prelude.{ℕ, ◌≡◌, List, All, true}
use Rattle.std.specs.List.{AllZip}
use Rattle.sys_objects.specs.Condition.{IsConfig}
use Rattle.sys_objects.specs.declared.records.Config.{Config}
use Rattle.sys_state.specs.Run.{Input, Moment, moment_after, opening, run}
use Rattle.sys_state.specs.State.{SystemState}
use Rattle.sys_script.specs.declared.event.Event.{Event}
use Rattle.sys_snap.specs.Conditions.{may_all_sit}
use Rattle.sys_snap.specs.Snap.{AreUnitsOf, IsMoment}
use Rattle.vm_state.specs.Stops.{IsHalt}

-- each terminal has no guest or one of its class, and no guest is at two terminals; each guest has four units, with mounts
-- that it may have; each guest runs, or has stopped with a stop code
pub record IsConsistentState (c : Config) (s : SystemState) : Type 0 where
  pub seated : may_all_sit c.guests c.terminals s.connected ≡ true
  pub mounted : AllZip (AreUnitsOf c.volumes) c.guests s.mounts
  pub halts : All (λ g. IsHalt g.state.halt) s.guests

-- rounds keep it, whatever moment they begin at and whatever happens
abbrev pub RoundsKeepConsistency : Type 0
RoundsKeepConsistency = (m : Moment) (es : List Event) (n : ℕ) → IsConsistentState m.config m.state → IsConsistentState m.config (moment_after m es n).state

-- a moment that can be written out has it
abbrev pub MomentsAreConsistent : Type 0
MomentsAreConsistent = (m : Moment) → IsMoment m → IsConsistentState m.config m.state

-- power-up of an accepted configuration makes it so
abbrev pub OpeningIsConsistent : Type 0
OpeningIsConsistent = (x : Input) → IsConfig x.config → IsConsistentState x.config (opening x).state

-- so it holds after every run
abbrev pub RunsAreConsistent : Type 0
RunsAreConsistent = (x : Input) → IsConfig x.config → IsConsistentState x.config (run x).now
