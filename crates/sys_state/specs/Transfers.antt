-- The transfers at the end of a round (profile): by guest in the configuration's order, by packet in the order of its
-- queue. A packet is read when its turn comes, so what moved before may have changed it. Statuses: 1 moved, 2 the queue
-- was full, 3 nothing is at the unit, 4 it is mounted for reading, 5 no such block, 6 not in memory, 7 no such function.
use Rattle.std.specs.Prelude.{ℕ, ◌+◌, Bool, true, false, ◌&&◌, ◌==◌, not, nat_le, nat_lt, if◌then◌else◌, List, [], ◌∷◌, ◌++◌, length, Option, Some, None, slice_get, slice_index_or}
use Rattle.vv_base.specs.Bytes.{long_at}
use Rattle.sys_objects.specs.declared.records.Config.{Config}
use Rattle.sys_objects.specs.declared.records.GuestRow.{GuestRow}
use Rattle.sys_objects.specs.declared.records.Mount.{Mount}
use Rattle.sys_objects.specs.declared.records.PrinterRow.{PrinterRow}
use Rattle.sys_state.specs.Guests.{answered, with_no_queue}
use Rattle.sys_state.specs.State.{Put, SystemState, Went}
use Rattle.sys_store.specs.Blocks.{blocks_of, with_block}
use Rattle.sys_store.specs.Job.{job_text}
use Rattle.vax_arch.specs.Walk.{is_past}
use Rattle.vm_state.specs.Outside.{bytes_at, with_bytes}
use Rattle.vm_state.specs.State.{Guest}

-- a packet's longwords but for the last, which is the status
pub record Packet : Type 0 where
  pub function : ℕ
  pub unit : ℕ
  pub block : ℕ
  pub buffer : ℕ
  pub size : ℕ

abbrev pub packet_at : List ℕ → ℕ → Packet
packet_at memory at = record {
  function = long_at memory at;
  unit = long_at memory (at + 4);
  block = long_at memory (at + 8);
  buffer = long_at memory (at + 12);
  size = long_at memory (at + 16);
}

-- What a packet leads to: a status alone; a block of the volume at a place is read or written; a text is printed.
pub data Move : Type 0 where
  Refused : (status : ℕ) → Move
  Reads Writes : (volume : ℕ) → Move
  Prints : Move

-- the status of a move that is made
abbrev pub done_status : ℕ
done_status = 1

-- Reading and writing: nothing is at the unit; the mount is not for writing; the volume has no such block; the
-- buffer isn't all in memory. The first that applies.
abbrev pub refused_block : ℕ → List (List (List ℕ)) → Mount → (writes : Bool) → Packet → Option ℕ
refused_block space volumes m writes p =
    if writes && not m.write then Some 4 else
    if nat_le (length (blocks_of volumes m.volume)) p.block then Some 5 else
    if is_past space p.buffer 512 then Some 6 else None

abbrev pub unless_refused : Option ℕ → Move → Move
unless_refused None move = move
unless_refused (Some status) move = Refused status

abbrev pub to_read : ℕ → List (List (List ℕ)) → Option Mount → Packet → Move
to_read space volumes None p = Refused 3
to_read space volumes (Some m) p = unless_refused (refused_block space volumes m false p) (Reads m.volume)

abbrev pub to_write : ℕ → List (List (List ℕ)) → Option Mount → Packet → Move
to_write space volumes None p = Refused 3
to_write space volumes (Some m) p = unless_refused (refused_block space volumes m true p) (Writes m.volume)

-- printing: a text of more than 132 bytes, or one that isn't all in memory
abbrev pub to_print : ℕ → Packet → Move
to_print space p = if nat_lt 132 p.size then Refused 6 else if is_past space p.buffer p.size then Refused 6 else Prints

-- by the packet's function, where the mounts are listed by their units
abbrev pub move_of : ℕ → List (List (List ℕ)) → List (Option Mount) → Packet → Move
move_of space volumes mounts p =
    if p.function == 1 then to_read space volumes (slice_index_or mounts p.unit None) p else
    if p.function == 2 then to_write space volumes (slice_index_or mounts p.unit None) p else
    if p.function == 3 then to_print space p else Refused 7

-- the guest's printer
abbrev pub printer_of : Config → Option ℕ → Option PrinterRow
printer_of c None = None
printer_of c (Some k) = slice_get c.printers k

-- without a printer nothing is printed
abbrev pub printed : Option PrinterRow → List ℕ → List Put
printed None job = []
printed (Some q) job = record { line = q.line; bytes = job } ∷ []

-- a guest's transfers, with what they leave of the volumes and what they show
pub record Served : Type 0 where
  pub guest : Guest
  pub volumes : List (List (List ℕ))
  pub puts : List Put

-- a move is made, and the packet is answered last
abbrev pub moved : Config → GuestRow → Guest → ℕ → Packet → List (List (List ℕ)) → Move → Served
moved c row g at p volumes (Refused status) = record { guest = answered at status g; volumes = volumes; puts = [] }
moved c row g at p volumes (Reads v) = record { guest = answered at done_status (with_bytes p.buffer (slice_index_or (blocks_of volumes v) p.block []) g); volumes = volumes; puts = [] }
moved c row g at p volumes (Writes v) = record { guest = answered at done_status g; volumes = with_block volumes v p.block (bytes_at g p.buffer 512); puts = [] }
moved c row g at p volumes Prints = record {
  guest = answered at done_status g;
  volumes = volumes;
  puts = printed (printer_of c row.printer) (job_text row.class row.name (bytes_at g p.buffer p.size));
}

-- the packet at an address
abbrev pub served_one : Config → GuestRow → List (Option Mount) → Guest → ℕ → List (List (List ℕ)) → Served
served_one c row mounts g at volumes =
    let p = packet_at g.memory at in
    moved c row g at p volumes (move_of (length g.memory) volumes mounts p)

-- the packets of a queue
abbrev pub served : Config → GuestRow → List (Option Mount) → Guest → List ℕ → List (List (List ℕ)) → Served
served c row mounts g [] volumes = record { guest = g; volumes = volumes; puts = [] }
served c row mounts g (at ∷ queue) volumes =
    let one = served_one c row mounts g at volumes in
    let more = served c row mounts one.guest queue one.volumes in
    record { guest = more.guest; volumes = more.volumes; puts = one.puts ++ more.puts }

-- all guests' transfers
pub record AllServed : Type 0 where
  pub guests : List Guest
  pub volumes : List (List (List ℕ))
  pub puts : List Put

-- guest by guest, whether it runs or has stopped; no packet waits afterwards
abbrev pub all_served : Config → List GuestRow → List (List (Option Mount)) → List Guest → List (List (List ℕ)) → AllServed
all_served c (row ∷ rows) (ms ∷ mounts) (g ∷ guests) volumes =
    let one = served c row ms (with_no_queue g) g.state.queue volumes in
    let more = all_served c rows mounts guests one.volumes in
    record { guests = one.guest ∷ more.guests; volumes = more.volumes; puts = one.puts ++ more.puts }
all_served c _ _ _ volumes = record { guests = []; volumes = volumes; puts = [] }

abbrev pub transfers : Config → SystemState → Went SystemState
transfers c s =
    let all = all_served c c.guests s.mounts s.guests s.volumes in
    record { now = record s { guests = all.guests; volumes = all.volumes }; puts = all.puts }
