-- A packet of a guest's queue is served, over the guest in the machine: the outcome is that of the definition of a transfer.
use Rattle.std.specs.Prelude.{◌≡◌, ℕ, ◌<◌, ◌+◌, ◌*◌, ◌%◌, List, [], ◌∷◌, Option, Some, None, length, slice_index_or, IfSome, All}
use Rattle.vax_hw.specs.Machine.{Machine}
use Rattle.sys_objects.specs.declared.records.Config.{Config}
use Rattle.sys_objects.specs.declared.records.GuestRow.{GuestRow}
use Rattle.sys_objects.specs.declared.records.Mount.{Mount}
use Rattle.sys_objects.specs.declared.records.PrinterRow.{PrinterRow}
use Rattle.sys_state.specs.FirstTouches.{frames_by}
use Rattle.sys_state.specs.State.{Put}
use Rattle.sys_state.specs.Transfers.{Move, Packet, Prints, Reads, Refused, Served, Writes, done_status, move_of, packet_at, printed, printer_of, served_one}
use Rattle.sys_store.specs.Blocks.{blocks_of, with_block}
use Rattle.sys_store.specs.Job.{job_text}
use Rattle.sys_transfers.specs.declared.packets.Request.{Request}
use Rattle.vm_simulation_laws.specs.Moves.{Drops}
use Rattle.vm_guest.specs.Kept.{Becomes, Kept, guest_in}
use Rattle.vm_state.specs.Outside.{bytes_at, with_bytes}
use Rattle.vm_state.specs.State.{Guest}
use Rattle.vm_state.specs.Translation.{frame_at}

-- each mount names a volume
abbrev pub MountsNameVolumes : List (Option Mount) → List (List (List ℕ)) → Type 0
MountsNameVolumes mounts volumes = All (λ m. IfSome m (λ (x : Mount). x.volume < length volumes)) mounts

-- what a move leaves of the guest's memory, before the packet is answered
abbrev pub carried : Move → Packet → List (List (List ℕ)) → Guest → Guest
carried (Refused status) p volumes g = g
carried (Reads v) p volumes g = with_bytes p.buffer (slice_index_or (blocks_of volumes v) p.block []) g
carried (Writes v) p volumes g = g
carried Prints p volumes g = g

abbrev pub carried_volumes : Move → Packet → List (List (List ℕ)) → Guest → List (List (List ℕ))
carried_volumes (Refused status) p volumes g = volumes
carried_volumes (Reads v) p volumes g = volumes
carried_volumes (Writes v) p volumes g = with_block volumes v p.block (bytes_at g p.buffer 512)
carried_volumes Prints p volumes g = volumes

abbrev pub move_status : Move → ℕ
move_status (Refused status) = status
move_status (Reads v) = done_status
move_status (Writes v) = done_status
move_status Prints = done_status

-- the frames that a move writes, before the packet is answered
abbrev pub frames_carried : Move → Packet → List ℕ
frames_carried (Refused status) p = []
frames_carried (Reads v) p = frame_at p.buffer ∷ frame_at (p.buffer + 511) ∷ []
frames_carried (Writes v) p = []
frames_carried Prints p = []

-- where a guest's packets are served: the volumes, the machine, and the guest in it
pub record GuestScene : Type 0 where
  pub volumes : List (List (List ℕ))
  pub machine : Machine
  pub guest : Kept

abbrev pub guest_scene : List (List (List ℕ)) → Machine → Kept → GuestScene
guest_scene volumes m k = record { volumes = volumes; machine = m; guest = k }

-- the guest as it stands there
abbrev pub guest_there : GuestScene → Guest
guest_there s = guest_in s.machine.memory s.guest

-- A move is made, but for the answer. What is dropped was read from a frame that it writes.
pub record Carries (move : Move) (p : Packet) (before : GuestScene) (status : ℕ) (after : GuestScene) : Type 0 where
  pub status_is : status ≡ move_status move
  pub becomes : Becomes (carried move p before.volumes (guest_there before)) before.machine before.guest after.machine after.guest
  pub volumes_are : after.volumes ≡ carried_volumes move p before.volumes (guest_there before)
  pub drops : Drops (frames_carried move p) before.guest.shadow after.guest.shadow

-- what a printer gets of a job, if there is one
abbrev pub job_on : Option PrinterRow → Option (List ℕ) → List Put
job_on printer None = []
job_on printer (Some job) = printed printer job

-- the job that a move prints
abbrev pub job_by : GuestRow → Packet → Guest → Move → Option (List ℕ)
job_by row p g (Refused status) = None
job_by row p g (Reads v) = None
job_by row p g (Writes v) = None
job_by row p g Prints = Some (job_text row.class row.name (bytes_at g p.buffer p.size))

-- a text is printed, or refused
pub record PrintsOf (row : GuestRow) (p : Packet) (g : Guest) (move : Move) (status : ℕ) (job : Option (List ℕ)) : Type 0 where
  pub status_is : status ≡ move_status move
  pub job_is : job ≡ job_by row p g move

-- the move that a packet asks for
abbrev pub move_there : List (Option Mount) → Packet → GuestScene → Move
move_there mounts p s = move_of (512 * s.guest.state.pages) s.volumes mounts p

-- it is made, with its status and the job that is printed
pub record CarriesAll (row : GuestRow) (mounts : List (Option Mount)) (p : Packet) (before : GuestScene) (answer : ℕ × Option (List ℕ)) (after : GuestScene) : Type 0 where
  pub carries : Carries (move_there mounts p before) p before answer.0 after
  pub job_is : answer.1 ≡ job_by row p (guest_there before) (move_there mounts p before)

-- the packet at an address, served
unfoldable pub one_packet : Config → GuestRow → List (Option Mount) → Guest → ℕ → List (List (List ℕ)) → Served
one_packet c row mounts g at volumes = served_one c row mounts g at volumes

-- the frames that are written for the packet at an address
unfoldable pub frames_served : List (Option Mount) → Guest → ℕ → List (List (List ℕ)) → List ℕ
frames_served mounts g at volumes =
    let p = packet_at g.memory at in
    frames_by at p (move_of (length g.memory) volumes mounts p)

-- The packet at an address is served, and its text is what the guest's printer gets. A packet's address is a multiple of 4:
-- then what is dropped was read from a frame that is written for it.
pub record ServesOne (row : GuestRow) (mounts : List (Option Mount)) (at : ℕ) (before : GuestScene) (job : Option (List ℕ)) (after : GuestScene) : Type 0 where
  pub becomes : (c : Config) → Becomes (one_packet c row mounts (guest_there before) at before.volumes).guest before.machine before.guest after.machine after.guest
  pub volumes_are : (c : Config) → after.volumes ≡ (one_packet c row mounts (guest_there before) at before.volumes).volumes
  pub shows : (c : Config) → (one_packet c row mounts (guest_there before) at before.volumes).puts ≡ job_on (printer_of c row.printer) job
  pub drops : at % 4 ≡ 0 → Drops (frames_served mounts (guest_there before) at before.volumes) before.guest.shadow after.guest.shadow

-- the packet that the code has read
abbrev pub packet_of : Request → Packet
packet_of r = record { function = r.function; unit = r.unit; block = r.block; buffer = r.buffer; size = r.size }
