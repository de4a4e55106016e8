-- What happens to a guest from outside: a line is typed, a command starts or stops it, a transfer is made.
use Rattle.std.specs.Prelude.{ℕ, ◌*◌, true, List, [], if◌then◌else◌}
use Rattle.vv_base.specs.Bytes.{long_bytes, overwritten}
use Rattle.sys_objects.specs.declared.records.GuestRow.{GuestRow}
use Rattle.vm_state.specs.Outside.{commanded_to_stop, with_line}
use Rattle.vm_state.specs.Packets.{status_place}
use Rattle.vm_state.specs.Run.{Run, after_steps, no_steps}
use Rattle.vm_state.specs.Start.{memory_with_image, started, stopped_at_first}
use Rattle.vm_state.specs.State.{Guest}

-- n steps of a guest alone
abbrev pub alone : ℕ → Guest → Run
alone n g = after_steps n (record { guest = g; shown = []; tally = no_steps })

-- a guest at power-up: its image lies in zero memory; it runs where its row says so, and else it is stopped with code 00
abbrev pub powered : GuestRow → List ℕ → Guest
powered row image = record {
  memory = memory_with_image (512 * row.pages) row.load image;
  state = if row.autostart then started row.start row.modify_faults else stopped_at_first row.start row.modify_faults;
}

-- a line is typed
abbrev pub typed : List ℕ → Guest → Guest
typed text g = record g { state = with_line text g.state }

-- START: it runs as one that starts, and its memory stays. Packets that wait are dropped.
abbrev pub reset : GuestRow → Guest → Guest
reset row g = record g { state = started row.start row.modify_faults }

-- HALT
abbrev pub stopped_by_command : Guest → Guest
stopped_by_command g = record g { state = commanded_to_stop g.state }

-- no packet waits any more
abbrev pub with_no_queue : Guest → Guest
with_no_queue g = record g { state = record g.state { queue = [] } }

-- a packet is answered: its status is stored, and the interrupt of transfers is requested
abbrev pub answered : (packet status : ℕ) → Guest → Guest
answered packet status g = record { memory = overwritten g.memory (status_place packet) (long_bytes status); state = record g.state { kcall_due = true } }
