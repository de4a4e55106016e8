-- How many steps of each kind all guests take.
use Rattle.std.specs.Prelude.{zero, suc, ◌+◌, ◌%◌, ◌^◌, List, [], ◌∷◌, ℕ, Option, None, Some}
use Rattle.std.specs.List.{slice_get}
use Rattle.sys_objects.specs.declared.records.Config.{Config}
use Rattle.sys_objects.specs.declared.records.GuestRow.{GuestRow}
use Rattle.sys_state.specs.Places.{changed}
use Rattle.sys_state.specs.Guests.{alone}
use Rattle.sys_state.specs.Events.{events}
use Rattle.sys_state.specs.Run.{Input, Moment, events_of, opening, round, run}
use Rattle.sys_state.specs.State.{SystemState, Went}
use Rattle.sys_script.specs.declared.event.Event.{Event}
use Rattle.sys_state.specs.Slices.{Slice}
use Rattle.vm_state.specs.State.{Guest}
use Rattle.vm_state.specs.Run.{Tally, no_steps}

-- the sum of two, the trail modulo 2^64
abbrev pub added : Tally → Tally → Tally
added t u = record {
  plain = t.plain + u.plain;
  sensitive = t.sensitive + u.sensitive;
  faults = t.faults + u.faults;
  interrupts = t.interrupts + u.interrupts;
  modify = t.modify + u.modify;
  idle = t.idle + u.idle;
  stopped = t.stopped + u.stopped;
  trail = (t.trail + u.trail) % 2 ^ 64;
}

-- in a round
abbrev pub round_tally : List GuestRow → List Guest → Tally
round_tally (row ∷ rows) (g ∷ gs) = added (alone row.quantum g).tally (round_tally rows gs)
round_tally _ _ = no_steps

-- in slices
abbrev pub tally_by : ℕ → Option Guest → Tally
tally_by n None = no_steps
tally_by n (Some g) = (alone n g).tally

abbrev pub slices_tally : List Slice → List Guest → Tally
slices_tally [] gs = no_steps
slices_tally (x ∷ xs) gs = added (tally_by x.steps (slice_get gs x.guest)) (slices_tally xs (changed (λ g. (alone x.steps g).guest) gs x.guest))

-- in n rounds from the i-th on: each round's guests are those after its events
abbrev pub rounds_tally : Config → ℕ → ℕ → List Event → SystemState → Tally
rounds_tally c i zero es s = no_steps
rounds_tally c i (suc n) es s =
    added (round_tally c.guests (events c i s (events_of i es)).now.guests) (rounds_tally c (suc i) n es (round c i es s).now)

-- in n rounds from a moment on
abbrev pub tally_from : Moment → List Event → ℕ → Tally
tally_from m es n = rounds_tally m.config (m.made + 1) n es m.state

-- the outcome of a run: where it led, what was shown, and the steps of all its rounds
pub record RunOutcome : Type 0 where
  pub went : Went SystemState
  pub tally : Tally

abbrev pub run_outcome : Input → RunOutcome
run_outcome x = record { went = run x; tally = tally_from (opening x) x.events x.rounds }
