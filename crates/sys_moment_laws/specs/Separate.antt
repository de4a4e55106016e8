-- What may not flow to an observer might never have been there, from any moment on that rounds can lead to.
use Rattle.std.specs.Prelude.{ℕ, ◌≡◌, List}
use Rattle.vv_class.specs.declared.class.AccessClass.{AccessClass}
use Rattle.sys_moment_laws.specs.ConsistentState.{IsConsistentState}
use Rattle.sys_objects.specs.Condition.{IsConfig}
use Rattle.sys_purge.specs.Events.{purge_events}
use Rattle.sys_purge.specs.Laws.{IsSeparateFrom}
use Rattle.sys_purge.specs.Moments.{purged_moment}
use Rattle.sys_script.specs.declared.event.Event.{Event}
use Rattle.sys_state.specs.Run.{Moment, moment_after}

-- each device and each volume gets the same
abbrev pub MomentsAreSeparate : Type 0
MomentsAreSeparate = (m : Moment) (es : List Event) (n : ℕ) → IsConfig m.config → IsConsistentState m.config m.state → IsSeparateFrom m es n

-- the rounds of a purged moment, with the events that are kept, lead to the purge of the moment after the rounds
abbrev pub RoundsKeepPurges : Type 0
RoundsKeepPurges = (m : Moment) (es : List Event) (n : ℕ) (to : AccessClass) → IsConsistentState m.config m.state → moment_after (purged_moment m to) (purge_events m.config es to) n ≡ purged_moment (moment_after m es n) to
