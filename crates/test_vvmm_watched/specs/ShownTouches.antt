-- First touches of runs, by the definition itself, computed. The first three are the numbers that a machine's misses are
-- compared with in `src/touches.rt`, over the same configuration, image and scripts.
use Rattle.std.specs.Prelude.{ℕ, ◌≡◌, List, [], ◌∷◌, ◌++◌, codes, drop, false, true, length, map, refl, replicate, take, Some, None}
use Rattle.vv_class.specs.Class.{does_flow, is_subset}
use Rattle.vax_arch.specs.Walk.{lookup, mapped_entry, process_entry, system_entry}
use Rattle.sys_objects.specs.declared.records.GuestRow.{GuestRow}
use Rattle.sys_state.specs.FirstTouches.{event_starts, first_touches, frames_by, started_by, touches_of_queue, with_reset}
use Rattle.sys_state.specs.Run.{Input, first_state}
use Rattle.sys_state.specs.ShownSetup.{break_at, config, guest, line_at, mounted, terminal, volume, whole_run}
use Rattle.sys_state.specs.State.{SystemState}
use Rattle.sys_state.specs.Transfers.{Packet, Prints, Reads, Refused, Writes}
use Rattle.sys_script.specs.declared.event.Event.{Event}
use Rattle.sys_server.specs.CommandLine.{asked_in}
use Rattle.sys_server.specs.Verdict.{judged}
use Rattle.sys_server.specs.declared.command.Command.TheVariants.{Connect, Start, Halt, MountAt, Dismount, Show}
use Rattle.sys_server.specs.declared.command.Rule.TheVariants.{Equal, Write}
use Rattle.sys_server.specs.declared.command.Verdict.TheVariants.{Granted, BadCommand, NoSuchObject, Denied}
use Rattle.vm_state.specs.ShownSetup.{guest_m, with_longs}
use Rattle.vm_state.specs.State.{Guest}
use Rattle.vm_state.specs.Touches.{Touching, at_first, found_all}

-- A guest that branches to itself at 200 hexadecimal, two steps in each of two rounds, and a terminal at the server.
abbrev looping : List Event → Input
looping events = record {
  config = config None (terminal (codes "T") 4 0 ∷ []) [] [] (guest (codes "A") 0 64 2 true None ∷ []);
  images = (0x11 ∷ 0xfe ∷ []) ∷ [];
  volumes = [];
  events = events;
  rounds = 2;
}

pub starts_are_touched_anew :
    -- the page of its code, once
    (first_touches (looping []) ≡ 1)
    -- it is started anew in the second round: once in each
    × (first_touches (looping (line_at 2 (codes "T") (codes "START A") ∷ [])) ≡ 2)
    -- what isn't granted starts nothing
    × (first_touches (looping (line_at 2 (codes "T") (codes "START B") ∷ [])) ≡ 1)
unfolding whole_run
starts_are_touched_anew = (refl, refl, refl)

-- Two guests of one step a round: the first branches to itself, the second to 600 hexadecimal, and there to itself.
abbrev walking : ℕ → Input
walking rounds = record {
  config = config None [] [] [] (guest (codes "A") 0 64 1 true None ∷ guest (codes "B") 0 64 1 true None ∷ []);
  images = (0x11 ∷ 0xfe ∷ []) ∷ (0x31 ∷ 0xfd ∷ 0x03 ∷ replicate 0x3fd 0 ++ 0x11 ∷ 0xfe ∷ []) ∷ [];
  volumes = [];
  events = [];
  rounds = rounds;
}

pub rounds_go_on :
    -- each guest touches its first page, and in the second round the second one another
    (first_touches (walking 1) ≡ 2)
    × (first_touches (walking 2) ≡ 3)
    × (first_touches (walking 3) ≡ 3)
unfolding whole_run
rounds_go_on = (refl, refl, refl)

-- Of all verdicts a START that is granted starts a guest.
pub start_alone :
    (started_by (Granted (Start 3)) ≡ Some 3)
    × (started_by (Granted (Connect 3)) ≡ None)
    × (started_by (Granted (Halt 3)) ≡ None)
    × (started_by (Granted (MountAt 3 1 (record { volume = 0; write = true }))) ≡ None)
    × (started_by (Granted (Dismount 3 1)) ≡ None)
    × (started_by (Granted Show) ≡ None)
    × (started_by BadCommand ≡ None)
    × (started_by NoSuchObject ≡ None)
    × (started_by (Denied Equal) ≡ None)
    × (started_by (Denied Write) ≡ None)
start_alone = (refl, refl, refl, refl, refl, refl, refl, refl, refl, refl)

-- with the terminal at the server, and with it at the guest's console
abbrev at_the_server : SystemState
at_the_server = first_state (looping []).config (looping []).images []

abbrev at_the_guest : SystemState
at_the_guest = record at_the_server { connected = Some 0 ∷ [] }

-- A line starts a guest at the server alone; a break and an unknown terminal start none.
pub at_the_server_alone :
    (event_starts (looping []).config at_the_server (line_at 1 (codes "T") (codes "START A")) ≡ Some 0)
    × (event_starts (looping []).config at_the_guest (line_at 1 (codes "T") (codes "START A")) ≡ None)
    × (event_starts (looping []).config at_the_server (break_at 1 (codes "T")) ≡ None)
    × (event_starts (looping []).config at_the_server (line_at 1 (codes "U") (codes "START A")) ≡ None)
unfolding asked_in judged does_flow is_subset
at_the_server_alone = (refl, refl, refl, refl)

-- a guest with mapping on, of which these pages are present
abbrev mapped : Guest
mapped = guest_m [] []

abbrev with_pages : List ℕ → Touching
with_pages pages = found_all pages (record { present = at_first mapped; count = 0 })

-- how many pages of the guest's own and of the system are present
abbrev how_many : Touching → List ℕ
how_many t = length t.present.system ∷ map (λ q. length q.pages) t.present.processes

-- A reset empties the sets of the guest that is started, and leaves the other's; the count stays.
abbrev both_touched : List Touching
both_touched = with_pages (1 ∷ 0x400001 ∷ []) ∷ with_pages (1 ∷ 2 ∷ 0x400001 ∷ []) ∷ []

pub one_is_reset :
    (map how_many (with_reset (Some 1) (mapped ∷ mapped ∷ []) both_touched) ≡ (1 ∷ 1 ∷ []) ∷ (0 ∷ 0 ∷ []) ∷ [])
    × (map (λ (t : Touching). t.count) (with_reset (Some 1) (mapped ∷ mapped ∷ []) both_touched) ≡ 2 ∷ 3 ∷ [])
    × (map how_many (with_reset None (mapped ∷ mapped ∷ []) both_touched) ≡ (1 ∷ 1 ∷ []) ∷ (1 ∷ 2 ∷ []) ∷ [])
one_is_reset = (refl, refl, refl)

-- a packet with a buffer at 300 hexadecimal; its own place is 7f0, so that its status lies in the next frame
abbrev asks : Packet
asks = record { function = 1; unit = 0; block = 0; buffer = 0x300; size = 0 }

-- The frames that a transfer writes: both of a block that is read, and the status'; else the status' alone.
pub frames_written :
    (frames_by 0x7f0 asks (Reads 0) ≡ 1 ∷ 2 ∷ 4 ∷ [])
    × (frames_by 0x7f0 asks (Writes 0) ≡ 4 ∷ [])
    × (frames_by 0x7f0 asks Prints ≡ 4 ∷ [])
    × (frames_by 0x7f0 asks (Refused 3) ≡ 4 ∷ [])
frames_written = (refl, refl, refl, refl)

-- Two packets in turn: the first reads a block over the second, which by that reads a block over the frame of the tables.
abbrev packet_in : ℕ → List (ℕ × ℕ) → List (ℕ × ℕ)
packet_in buffer longs = (0x340, 1) ∷ (0x344, 2) ∷ (0x348, 1) ∷ (0x34c, buffer) ∷ (0x350, 0) ∷ (0x354, 0) ∷ longs

abbrev asking : Guest
asking = guest_m [] ((0x300, 1) ∷ (0x304, 2) ∷ (0x308, 0) ∷ (0x30c, 0x200) ∷ (0x310, 0) ∷ (0x314, 0) ∷ (0x340, 7) ∷ [])

-- the second block is the frame of the tables as it is
abbrev blocks : List (List (List ℕ))
blocks = (take 512 (drop 512 (with_longs (packet_in 0 []) mapped.memory)) ∷ take 512 mapped.memory ∷ []) ∷ []

abbrev reader : GuestRow
reader = record (guest (codes "A") 0 8 1 true None) { mounts = None ∷ None ∷ mounted 0 false ∷ None ∷ [] }

abbrev after_packets : List ℕ → Touching
after_packets queue =
    let c = config None [] (volume (codes "V") 0 0 ∷ []) [] (reader ∷ []) in
    touches_of_queue c reader reader.mounts asking queue blocks (with_pages (1 ∷ 0x400001 ∷ []))

pub in_the_order_of_the_queue :
    (how_many (after_packets (0x300 ∷ 0x340 ∷ [])) ≡ 0 ∷ 0 ∷ [])
    × (how_many (after_packets (0x300 ∷ [])) ≡ 1 ∷ 1 ∷ [])
    × (how_many (after_packets (0x340 ∷ [])) ≡ 1 ∷ 1 ∷ [])
unfolding lookup mapped_entry process_entry system_entry
in_the_order_of_the_queue = (refl, refl, refl)
