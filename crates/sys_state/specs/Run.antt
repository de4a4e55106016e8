-- Rounds and runs: a round is its events, then the guests' turns, then the transfers.
use Rattle.std.specs.Prelude.{ℕ, zero, suc, ◌+◌, ◌==◌, List, [], ◌∷◌, ◌++◌, Option, filter, map}
use Rattle.sys_objects.specs.declared.records.Config.{Config}
use Rattle.sys_objects.specs.declared.records.GuestRow.{GuestRow}
use Rattle.sys_objects.specs.declared.records.Terminal.{Terminal}
use Rattle.sys_script.specs.declared.event.Event.{Event}
use Rattle.sys_state.specs.Events.{events}
use Rattle.sys_state.specs.Guests.{powered}
use Rattle.sys_state.specs.Places.{beside_with, place_of}
use Rattle.sys_objects.specs.Places.{is_at}
use Rattle.sys_state.specs.State.{SystemState, Went}
use Rattle.sys_state.specs.Transfers.{transfers}
use Rattle.sys_state.specs.Turns.{turns}

-- What a run is given: a configuration, by guest its image, by volume its blocks, the events, the number of rounds.
pub record Input : Type 0 where
  pub config : Config
  pub images : List (List ℕ)
  pub volumes : List (List (List ℕ))
  pub events : List Event
  pub rounds : ℕ

-- the events of a round
abbrev pub events_of : ℕ → List Event → List Event
events_of i es = filter (λ e. e.round == i) es

-- the i-th round
abbrev pub round : Config → ℕ → List Event → SystemState → Went SystemState
round c i es s =
    let begun = events c i s (events_of i es) in
    let turned = turns c begun.now in
    let ended = transfers c turned.now in
    record { now = ended.now; puts = begun.puts ++ turned.puts ++ ended.puts }

-- n rounds, from the i-th on
abbrev pub rounds : Config → ℕ → ℕ → List Event → SystemState → Went SystemState
rounds c i zero es s = record { now = s; puts = [] }
rounds c i (suc n) es s =
    let first = round c i es s in
    let rest = rounds c (suc i) n es first.now in
    record { now = rest.now; puts = first.puts ++ rest.puts }

-- A moment between two rounds: the configuration, how many rounds were made before, and the state that they left.
pub record Moment : Type 0 where
  pub config : Config
  pub made : ℕ
  pub state : SystemState

-- n rounds from a moment on, each with its own of these events; rounds are numbered from 1
abbrev pub rounds_from : Moment → List Event → ℕ → Went SystemState
rounds_from m es n = rounds m.config (m.made + 1) n es m.state

-- the moment after n rounds more
abbrev pub moment_after : Moment → List Event → ℕ → Moment
moment_after m es n = record m { made = m.made + n; state = (rounds_from m es n).now }

-- at power-up each console is connected to its terminal, and each mount of the configuration is made
abbrev pub connections : List GuestRow → ℕ → List Terminal → List (Option ℕ)
connections rows i [] = []
connections rows i (k ∷ ks) = place_of (λ row. is_at i row.console) rows ∷ connections rows (suc i) ks

abbrev pub first_state : Config → List (List ℕ) → List (List (List ℕ)) → SystemState
first_state c images volumes = record {
  connected = connections c.guests 0 c.terminals;
  mounts = map (λ row. row.mounts) c.guests;
  guests = beside_with powered c.guests images;
  volumes = volumes;
}

-- power-up with these images and volumes
abbrev pub first_moment : Config → List (List ℕ) → List (List (List ℕ)) → Moment
first_moment c images volumes = record { config = c; made = 0; state = first_state c images volumes }

-- and that of a run
abbrev pub opening : Input → Moment
opening x = first_moment x.config x.images x.volumes

-- a run
abbrev pub run : Input → Went SystemState
run x = rounds_from (opening x) x.events x.rounds
