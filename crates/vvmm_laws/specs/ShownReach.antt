-- Worked examples, by computation: a guest of level 1, and terminals below it, of its level and above it. What is done at
-- the terminal of its level shows above, by SHOW, and not below.
use Rattle.std.specs.Prelude.{◌≡◌, zero, suc, slice_get, Bool, [], ◌∷◌, codes, false, true, refl, None}
use Rattle.vv_class.specs.Class.{does_flow, is_subset}
use Rattle.sys_flow.specs.Reach.{IsGuestAt, IsTerminalAt, ObjectPlace, leads}
use Rattle.vvmm_laws.specs.Reach.{events_without, is_far_event, line_of_guest}
use Rattle.sys_objects.specs.declared.records.Config.{Config}
use Rattle.sys_state.specs.Bytes.{line_bytes}
use Rattle.sys_state.specs.Run.{Input}
use Rattle.sys_state.specs.ShownSetup.{config, guest, line_at, terminal, whole_run}
use Rattle.sys_script.specs.declared.event.Event.{Event}

-- LOW, OWN and HIGH on lines 0, 1 and 2, and the guest A
abbrev pub three : Config
three =
    let terminals = terminal (codes "LOW") 0 0 ∷ terminal (codes "OWN") 1 1 ∷ terminal (codes "HIGH") 2 2 ∷ [] in
    config None terminals [] [] (guest (codes "A") 1 2 1 true None ∷ [])

abbrev pub halts : Event
halts = line_at 1 (codes "OWN") (codes "HALT A")

abbrev pub low_shows : Event
low_shows = line_at 1 (codes "LOW") (codes "SHOW")

abbrev pub high_shows : Event
high_shows = line_at 1 (codes "HIGH") (codes "SHOW")

-- the two differ in the events of OWN alone
abbrev pub halted : Input
halted = record {
  config = three;
  images = (0x11 ∷ 0xfe ∷ []) ∷ [];
  volumes = [];
  events = halts ∷ low_shows ∷ high_shows ∷ [];
  rounds = 1;
}

abbrev pub untouched : Input
untouched = record halted { events = low_shows ∷ high_shows ∷ [] }

pub without_own : events_without three (IsTerminalAt 1) halted.events ≡ untouched.events
without_own = refl

pub of_another_all : events_without three (IsGuestAt 0) halted.events ≡ halted.events
of_another_all = refl

-- a set that holds LOW alone
abbrev pub only_low : ObjectPlace → Bool
only_low (IsTerminalAt zero) = true
only_low (IsTerminalAt (suc t)) = false
only_low p = false

pub far_events :
    (is_far_event three only_low low_shows ≡ true)
    × (is_far_event three only_low high_shows ≡ false)
    × (is_far_event three only_low (line_at 1 (codes "NONE") []) ≡ false)
far_events = (refl, refl, refl)

pub no_dump : line_of_guest (slice_get three.guests 0) ≡ None
no_dump = refl

-- OWN is number 1, HIGH 2, A 3: HIGH is reached through A, and LOW, number 0, has no edge from A
pub reached : (leads three 1 (3 ∷ []) 2 ≡ true) × (leads three 1 (3 ∷ []) 0 ≡ false)
unfolding does_flow is_subset
reached = (refl, refl)

pub high_sees :
    (line_bytes halted 2 ≡ codes "VM A 1{};0{} STOPPED\r\nOK\r\n")
    × (line_bytes untouched 2 ≡ codes "VM A 1{};0{} RUNNING\r\nOK\r\n")
unfolding whole_run
high_sees = (refl, refl)

pub low_sees : (line_bytes halted 0 ≡ codes "OK\r\n") × (line_bytes untouched 0 ≡ codes "OK\r\n")
unfolding whole_run
low_sees = (refl, refl)
