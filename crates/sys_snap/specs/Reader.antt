-- What bytes are a snapshot of, as a reading that computes: field by field, each with what it allows after those before it.
use Rattle.std.specs.Prelude.{ℕ, zero, suc, ◌*◌, ◌==◌, ◌&&◌, ◌||◌, nat_le, nat_lt, not, Bool, true, false, bytes_eq, if◌then◌else◌, List, [], ◌∷◌, length, map, take, drop, slice_index, Option, Some, None, Result, Ok, Err}
use Rattle.std.specs.List.{list_all}
use Rattle.vv_base.specs.Bits.{is_set}
use Rattle.vm_clock.specs.Clock.{ClockState}
use Rattle.vm_clock.specs.Parts as clocks
use Rattle.vm_console.specs.Console.{ConsoleState}
use Rattle.vv_class.specs.declared.class.AccessClass.{AccessClass}
use Rattle.sys_config.specs.Config.{config_of}
use Rattle.sys_objects.specs.Rules.{may_mount}
use Rattle.sys_objects.specs.declared.errors.ConfigFault.{ConfigFault}
use Rattle.sys_objects.specs.declared.records.Config.{Config}
use Rattle.sys_objects.specs.declared.records.GuestRow.{GuestRow}
use Rattle.sys_objects.specs.declared.records.Mount.{Mount}
use Rattle.sys_objects.specs.declared.records.VolumeRow.{VolumeRow}
use Rattle.sys_state.specs.State.{SystemState}
use Rattle.sys_snap.specs.Conditions.{any, is_iccs, is_p0br, is_packet, is_psl, may_all_sit, needs}
use Rattle.sys_state.specs.Run.{Moment}
use Rattle.sys_snap.specs.Reading.{Got, Reading, ◌>>=◌, done, each, fault_at, field, flag, four, one, times, two}
use Rattle.sys_snap.specs.Written.{snap_head}
use Rattle.sys_snap.specs.declared.fault.SnapFault.{SnapFault}
use Rattle.vm_state.specs.Registers.{allows}
use Rattle.vm_state.specs.State.{Guest, State}
use Rattle.vm_state.specs.Stops.{is_stop_code}
use Rattle.vm_state.specs.declared.register.Register.TheVariants.{Astlvl, P0lr, P1br, P1lr, Pcbb, Sbr, Scbb, Sisr, Slr}

pub record Registers : Type 0 where
  pub r : List ℕ
  pub psl : ℕ
  pub stacks : List ℕ

-- n longwords of any value
unfoldable pub longs_in : ℕ → Reading (List ℕ)
longs_in n = times n (four any)

abbrev pub registers_in : Reading Registers
registers_in =
    longs_in 16 >>= λ r.
    four is_psl >>= λ psl.
    longs_in 5 >>= λ stacks.
    done (record { r = r; psl = psl; stacks = stacks })

pub record Bases : Type 0 where
  pub p0br : ℕ
  pub p0lr : ℕ
  pub p1br : ℕ
  pub p1lr : ℕ
  pub sbr : ℕ
  pub slr : ℕ
  pub pcbb : ℕ
  pub scbb : ℕ

abbrev pub bases_in : Reading Bases
bases_in =
    four is_p0br >>= λ p0br.
    four (allows P0lr) >>= λ p0lr.
    four (allows P1br) >>= λ p1br.
    four (allows P1lr) >>= λ p1lr.
    four (allows Sbr) >>= λ sbr.
    four (allows Slr) >>= λ slr.
    four (allows Pcbb) >>= λ pcbb.
    four (allows Scbb) >>= λ scbb.
    done (record { p0br = p0br; p0lr = p0lr; p1br = p1br; p1lr = p1lr; sbr = sbr; slr = slr; pcbb = pcbb; scbb = scbb })

pub record Levels : Type 0 where
  pub astlvl : ℕ
  pub sisr : ℕ
  pub mapped : Bool

abbrev pub either : Bool → Bool
either flag = true

abbrev pub levels_in : Reading Levels
levels_in =
    one (allows Astlvl) >>= λ astlvl.
    two (allows Sisr) >>= λ sisr.
    flag either >>= λ mapped.
    done (record { astlvl = astlvl; sisr = sisr; mapped = mapped })

-- the request needs bit 6 of ICCS
abbrev pub clock_in : Reading ClockState
clock_in =
    four is_iccs >>= λ iccs.
    four any >>= λ nicr.
    four any >>= λ icr.
    flag (needs (is_set iccs 6)) >>= λ request.
    done (clocks.clock_of_parts (record { iccs = iccs; nicr = nicr; icr = icr; request = request }))

-- a receive request needs a byte that waits; it comes before their count, so the count is refused
abbrev pub is_count : Bool → ℕ → Bool
is_count request n = nat_le n 256 && (not request || nat_lt 0 n)

-- of 256 places those that no byte has are 0
abbrev pub waiting_in : ℕ → List ℕ → Option (List ℕ)
waiting_in n bytes = if list_all (λ b. b == 0) (drop n bytes) then Some (take n bytes) else None

abbrev pub console_reading : Reading ConsoleState
console_reading =
    flag either >>= λ rx_enable.
    flag either >>= λ tx_enable.
    flag (needs rx_enable) >>= λ rx_request.
    flag (needs tx_enable) >>= λ tx_request.
    two (is_count rx_request) >>= λ n.
    field 256 (waiting_in n) >>= λ waiting.
    done (record { waiting = waiting; rx_enable = rx_enable; rx_request = rx_request; tx_enable = tx_enable; tx_request = tx_request })

-- `count` packets, in `places` places; a place without a packet is 0
abbrev pub packets_in : (size count places : ℕ) → Reading (List ℕ)
packets_in size count zero = done []
packets_in size zero (suc places) = four (λ v. v == 0) >>= λ none. packets_in size zero places
packets_in size (suc count) (suc places) = four (is_packet size) >>= λ p. packets_in size count places >>= λ ps. done (p ∷ ps)

pub record Queue : Type 0 where
  pub due : Bool
  pub packets : List ℕ

abbrev pub queue_in : ℕ → Reading Queue
queue_in size =
    flag either >>= λ due.
    one (λ n. nat_le n 8) >>= λ n.
    packets_in size n 8 >>= λ packets.
    done (record { due = due; packets = packets })

-- a stop code, or FF for one that runs
abbrev pub halt_in : List ℕ → Option (Option ℕ)
halt_in b = if slice_index b 0 == 255 then Some None else if is_stop_code (slice_index b 0) then Some (Some (slice_index b 0)) else None

pub record End : Type 0 where
  pub waiting : Bool
  pub halt : Option ℕ
  pub steps : ℕ

abbrev pub end_in : Reading End
end_in =
    flag either >>= λ waiting.
    field 1 halt_in >>= λ halt.
    four any >>= λ steps.
    done (record { waiting = waiting; halt = halt; steps = steps })

abbrev pub made_of : Bool → Registers → Bases → Levels → ClockState → ConsoleState → Queue → End → State
made_of modify_faults a b l clock console q e = record {
  r = a.r;
  psl = a.psl;
  stacks = a.stacks;
  tables = record { mapped = l.mapped; p0br = b.p0br; p0lr = b.p0lr; p1br = b.p1br; p1lr = b.p1lr; sbr = b.sbr; slr = b.slr };
  pcbb = b.pcbb;
  scbb = b.scbb;
  astlvl = l.astlvl;
  sisr = l.sisr;
  clock = clock;
  console = console;
  kcall_due = q.due;
  queue = q.packets;
  waiting = e.waiting;
  halt = e.halt;
  steps = e.steps;
  modify_faults = modify_faults;
}

-- a record, of a guest with a memory of `size` bytes
unfoldable pub record_in : (size : ℕ) → (modify_faults : Bool) → Reading State
record_in size modify_faults =
    registers_in >>= λ a.
    bases_in >>= λ b.
    levels_in >>= λ l.
    clock_in >>= λ clock.
    console_reading >>= λ console.
    queue_in size >>= λ q.
    end_in >>= λ e.
    done (made_of modify_faults a b l clock console q e)

-- bytes of any kind
abbrev pub all_bytes : List ℕ → Option (List ℕ)
all_bytes bytes = Some bytes

unfoldable pub guest_reading : GuestRow → Reading Guest
guest_reading row =
    record_in (512 * row.pages) row.modify_faults >>= λ state.
    field (512 * row.pages) all_bytes >>= λ memory.
    done (record { memory = memory; state = state })

-- a mount's pair
abbrev pub mount_if : List VolumeRow → AccessClass → Option Mount → Option (Option Mount)
mount_if volumes class mount = if may_mount volumes class mount then Some mount else None

abbrev pub pair_in : List VolumeRow → AccessClass → List ℕ → Option (Option Mount)
pair_in volumes class (v ∷ w ∷ []) =
    if v == 255 then (if w == 0 then Some None else None) else
    if w == 0 then mount_if volumes class (Some (record { volume = v; write = false })) else
    if w == 1 then mount_if volumes class (Some (record { volume = v; write = true })) else None
pair_in volumes class bytes = None

abbrev pub units_in : List VolumeRow → GuestRow → Reading (List (Option Mount))
units_in volumes row = times 4 (field 2 (pair_in volumes row.class))

abbrev pub seated_guest : ℕ → Option ℕ
seated_guest b = if b == 255 then None else Some b

-- the 32 places
abbrev pub seats_in : Config → List ℕ → Option (List (Option ℕ))
seats_in c bytes =
    let seats = map seated_guest (take (length c.terminals) bytes) in
    if may_all_sit c.guests c.terminals seats && list_all (λ b. b == 255) (drop (length c.terminals) bytes) then Some seats else None

-- 512 bytes each
abbrev pub cut_blocks : ℕ → List ℕ → List (List ℕ)
cut_blocks zero bytes = []
cut_blocks (suc n) bytes = take 512 bytes ∷ cut_blocks n (drop 512 bytes)

abbrev pub volume_in : VolumeRow → Reading (List (List ℕ))
volume_in row = field (512 * row.blocks) (λ bytes. Some (cut_blocks row.blocks bytes))

unfoldable pub state_in : Config → Reading SystemState
state_in c =
    field 32 (seats_in c) >>= λ connected.
    each (units_in c.volumes) c.guests >>= λ mounts.
    each guest_reading c.guests >>= λ guests.
    each volume_in c.volumes >>= λ volumes.
    done (record { connected = connected; mounts = mounts; guests = guests; volumes = volumes })

-- nothing is left
abbrev pub nothing : List ℕ → ℕ → Result (Got (Unit {0})) SnapFault
nothing [] at = Ok (record { value = tt; rest = record { at = at; bytes = [] } })
nothing (b ∷ bytes) at = fault_at at

abbrev pub at_end : Reading (Unit {0})
at_end = λ r. nothing r.bytes r.at

abbrev pub accepted_config : Result Config ConfigFault → Option Config
accepted_config (Ok c) = Some c
accepted_config (Err fault) = None

abbrev pub head_in : List ℕ → Option (Unit {0})
head_in bytes = if bytes_eq bytes snap_head then Some tt else None

unfoldable pub moment_in : Reading Moment
moment_in =
    field 8 head_in >>= λ head.
    four (λ n. nat_le n 262144) >>= λ n.
    field n (λ text. accepted_config (config_of text)) >>= λ c.
    four (λ n. nat_le n 1000000) >>= λ made.
    state_in c >>= λ state.
    at_end >>= λ end.
    done (record { config = c; made = made; state = state })

abbrev pub moment_got : Result (Got Moment) SnapFault → Result Moment SnapFault
moment_got (Ok got) = Ok got.value
moment_got (Err fault) = Err fault

-- `Snap`
unfoldable pub snap_in : List ℕ → Result Moment SnapFault
snap_in bytes = moment_got (moment_in (record { at = 0; bytes = bytes }))
