-- A whole round as the one machine makes it: its events, the guests' turns cut into slices in any order, its transfers.
use Rattle.std.specs.Prelude.{ℕ, ◌≡◌, List, ◌++◌, length}
use Rattle.sys_objects.specs.Condition.{IsConfig}
use Rattle.sys_objects.specs.declared.records.Config.{Config}
use Rattle.sys_script.specs.declared.event.Event.{Event}
use Rattle.sys_state.specs.Counts.{round_tally, slices_tally}
use Rattle.sys_state.specs.Events.{events}
use Rattle.sys_state.specs.Run.{events_of, round}
use Rattle.sys_state.specs.Slices.{AreQuanta, Slice, slices}
use Rattle.sys_state.specs.State.{SystemState, Went, bytes_on}
use Rattle.sys_state.specs.Transfers.{transfers}

abbrev pub sliced_round : Config → ℕ → List Event → List Slice → SystemState → Went SystemState
sliced_round c i es xs s =
    let begun = events c i s (events_of i es) in
    let turned = slices c.terminals begun.now.connected xs begun.now.guests in
    let ended = transfers c (record begun.now { guests = turned.now }) in
    record { now = ended.now; puts = begun.puts ++ turned.puts ++ ended.puts }

-- What a schedule leaves is what the round does: the guests, the server's state, the volumes, each line's bytes, the
-- counts of steps.
pub record IsTheRound (c : Config) (i : ℕ) (es : List Event) (xs : List Slice) (s : SystemState) : Type 0 where
  pub now : (sliced_round c i es xs s).now ≡ (round c i es s).now
  pub bytes : (line : ℕ) → bytes_on line (sliced_round c i es xs s).puts ≡ bytes_on line (round c i es s).puts
  pub counts : slices_tally xs (events c i s (events_of i es)).now.guests ≡ round_tally c.guests (events c i s (events_of i es)).now.guests

abbrev pub AnyRound : Type 0
AnyRound = (c : Config) (i : ℕ) (es : List Event) (xs : List Slice) (s : SystemState) → IsConfig c → length s.guests ≡ length c.guests → AreQuanta xs 0 c.guests → IsTheRound c i es xs s
