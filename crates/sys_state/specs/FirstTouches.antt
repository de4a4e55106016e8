-- The first touches of a run: of each guest's pages, how often one is touched that it hasn't touched since its translation
-- could have changed, summed over the guests. Beside the guests' own steps, transfers write and START resets (profile).
use Rattle.std.specs.Prelude.{ℕ, zero, suc, ◌+◌, List, [], ◌∷◌, Option, Some, None, map, length, slice_get, slice_index_or}
use Rattle.std.specs.List.{sum_by}
use Rattle.sys_objects.specs.declared.records.Config.{Config}
use Rattle.sys_objects.specs.declared.records.GuestRow.{GuestRow}
use Rattle.sys_objects.specs.declared.records.Mount.{Mount}
use Rattle.sys_state.specs.Events.{events, happened, is_named}
use Rattle.sys_state.specs.Guests.{with_no_queue}
use Rattle.sys_state.specs.Places.{changed, place_of}
use Rattle.sys_state.specs.Run.{Input, Moment, events_of, opening, round}
use Rattle.sys_state.specs.State.{SystemState, server_of}
use Rattle.sys_state.specs.Transfers.{Move, Packet, Prints, Reads, Refused, Writes, move_of, packet_at, served, served_one}
use Rattle.sys_state.specs.Turns.{turns}
use Rattle.sys_script.specs.declared.event.Event.{Event}
use Rattle.sys_script.specs.declared.event.Typed.{Typed}
use Rattle.sys_script.specs.declared.event.Typed.TheVariants.{Break, Line}
use Rattle.sys_server.specs.Verdict.{verdict_of}
use Rattle.sys_server.specs.declared.command.Command.TheVariants.{Start}
use Rattle.sys_server.specs.declared.command.Verdict.{Verdict}
use Rattle.sys_server.specs.declared.command.Verdict.TheVariants.{Granted}
use Rattle.vm_state.specs.Packets.{status_place}
use Rattle.vm_state.specs.State.{Guest}
use Rattle.vm_state.specs.Touches.{Touching, at_first, touching_reset, touching_steps, touching_write}
use Rattle.vm_state.specs.Translation.{frame_at}

-- the guest that an event starts
abbrev pub started_by : Verdict → Option ℕ
started_by (Granted (Start g)) = Some g
started_by verdict = None

abbrev pub line_starts : Config → SystemState → ℕ → List ℕ → Option ℕ → Option ℕ
line_starts c s n text (Some g) = None
line_starts c s n text None = started_by (verdict_of c (server_of s) n text)

abbrev pub typing_starts : Config → SystemState → ℕ → Typed → Option ℕ
typing_starts c s n Break = None
typing_starts c s n (Line text) = line_starts c s n text (slice_index_or s.connected n None)

abbrev pub starts_at : Config → SystemState → Option ℕ → Typed → Option ℕ
starts_at c s None what = None
starts_at c s (Some n) what = typing_starts c s n what

abbrev pub event_starts : Config → SystemState → Event → Option ℕ
event_starts c s e = starts_at c s (place_of (is_named e.terminal) c.terminals) e.what

-- the touches after a reset, where `guests` are those after it
abbrev pub touching_after_reset : Option Guest → Touching → Touching
touching_after_reset None t = t
touching_after_reset (Some g) t = record t { present = touching_reset g t.present }

abbrev pub with_reset : Option ℕ → List Guest → List Touching → List Touching
with_reset None guests ts = ts
with_reset (Some g) guests ts = changed (touching_after_reset (slice_get guests g)) ts g

abbrev pub touches_of_events : Config → ℕ → SystemState → List Event → List Touching → List Touching
touches_of_events c i s [] ts = ts
touches_of_events c i s (e ∷ es) ts =
    let after = (happened c i s e).now in
    touches_of_events c i after es (with_reset (event_starts c s e) after.guests ts)

-- each guest's steps
abbrev pub touches_of_turns : List GuestRow → List Guest → List Touching → List Touching
touches_of_turns [] gs ts = []
touches_of_turns (row ∷ rows) [] ts = []
touches_of_turns (row ∷ rows) (g ∷ gs) [] = []
touches_of_turns (row ∷ rows) (g ∷ gs) (t ∷ ts) = touching_steps row.quantum g t ∷ touches_of_turns rows gs ts

-- the frames that a packet's transfer writes: those of a block that is read, and the status'
abbrev pub frames_by : ℕ → Packet → Move → List ℕ
frames_by at p (Refused status) = frame_at (status_place at) ∷ []
frames_by at p (Reads v) = frame_at p.buffer ∷ frame_at (p.buffer + 511) ∷ frame_at (status_place at) ∷ []
frames_by at p (Writes v) = frame_at (status_place at) ∷ []
frames_by at p Prints = frame_at (status_place at) ∷ []

abbrev pub touches_of_queue : Config → GuestRow → List (Option Mount) → Guest → List ℕ → List (List (List ℕ)) → Touching → Touching
touches_of_queue c row mounts g [] volumes t = t
touches_of_queue c row mounts g (at ∷ queue) volumes t =
    let p = packet_at g.memory at in
    let one = served_one c row mounts g at volumes in
    let written = frames_by at p (move_of (length g.memory) volumes mounts p) in
    touches_of_queue c row mounts one.guest queue one.volumes (record t { present = touching_write g written t.present })

abbrev pub touches_of_transfers : Config → List GuestRow → List (List (Option Mount)) → List Guest → List (List (List ℕ)) → List Touching → List Touching
touches_of_transfers c [] mounts gs volumes ts = []
touches_of_transfers c (row ∷ rows) [] gs volumes ts = []
touches_of_transfers c (row ∷ rows) (ms ∷ mounts) [] volumes ts = []
touches_of_transfers c (row ∷ rows) (ms ∷ mounts) (g ∷ gs) volumes [] = []
touches_of_transfers c (row ∷ rows) (ms ∷ mounts) (g ∷ gs) volumes (t ∷ ts) =
    let one = served c row ms (with_no_queue g) g.state.queue volumes in
    touches_of_queue c row ms (with_no_queue g) g.state.queue volumes t ∷ touches_of_transfers c rows mounts gs one.volumes ts

-- a round, and n rounds from the i-th on
abbrev pub touches_of_round : Config → ℕ → List Event → SystemState → List Touching → List Touching
touches_of_round c i es s ts =
    let begun = (events c i s (events_of i es)).now in
    let turned = (turns c begun).now in
    touches_of_transfers c c.guests turned.mounts turned.guests turned.volumes
    (touches_of_turns c.guests begun.guests (touches_of_events c i s (events_of i es) ts))

abbrev pub touches_of_rounds : Config → ℕ → ℕ → List Event → SystemState → List Touching → List Touching
touches_of_rounds c i zero es s ts = ts
touches_of_rounds c i (suc n) es s ts = touches_of_rounds c (suc i) n es (round c i es s).now (touches_of_round c i es s ts)

-- at power-up nothing is present
abbrev pub none_touched : Guest → Touching
none_touched g = record { present = at_first g; count = 0 }

-- of n rounds from a moment on, where nothing is present at their beginning
abbrev pub first_touches_from : Moment → List Event → ℕ → ℕ
first_touches_from m es n = sum_by (λ t. t.count) (touches_of_rounds m.config (m.made + 1) n es m.state (map none_touched m.state.guests))

-- of a run
abbrev pub first_touches : Input → ℕ
first_touches x = first_touches_from (opening x) x.events x.rounds
