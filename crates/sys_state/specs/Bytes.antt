-- What each device gets of a run: a line's bytes, a volume's blocks.
use Rattle.std.specs.Prelude.{ℕ, Bool, ◌==◌, List, [], ◌∷◌, ◌++◌, map, Option, Some, None, option_map, if◌then◌else◌}
use Rattle.std.specs.List.{filter_map}
use Rattle.vv_class.specs.declared.class.AccessClass.{AccessClass}
use Rattle.sys_objects.specs.declared.records.Audit.{Audit}
use Rattle.sys_objects.specs.declared.records.Config.{Config}
use Rattle.sys_objects.specs.declared.records.GuestRow.{GuestRow}
use Rattle.sys_objects.specs.declared.records.PrinterRow.{PrinterRow}
use Rattle.sys_objects.specs.declared.records.Terminal.{Terminal}
use Rattle.sys_objects.specs.declared.records.VolumeRow.{VolumeRow}
use Rattle.sys_state.specs.Dump.{dump_of}
use Rattle.sys_state.specs.Places.{place_of}
use Rattle.sys_objects.specs.Places.{is_at}
use Rattle.sys_state.specs.Run.{Input, Moment, opening, rounds_from}
use Rattle.sys_state.specs.State.{bytes_on}
use Rattle.sys_script.specs.declared.event.Event.{Event}
use Rattle.sys_store.specs.Blocks.{blocks_of}
use Rattle.vm_state.specs.State.{Guest}

-- the dump of the guest whose dump goes to a line
abbrev pub dump_on : ℕ → List GuestRow → List Guest → List ℕ
dump_on line (row ∷ rows) (g ∷ gs) = if is_at line row.dump then dump_of row.name g else dump_on line rows gs
dump_on line _ _ = []

-- what a line is shown in n rounds from a moment on
abbrev pub shown_from : Moment → List Event → ℕ → ℕ → List ℕ
shown_from m es n line = bytes_on line (rounds_from m es n).puts

-- a line gets what it is shown, and the dump in the last state
abbrev pub line_bytes_from : Moment → List Event → ℕ → ℕ → List ℕ
line_bytes_from m es n line = shown_from m es n line ++ dump_on line m.config.guests (rounds_from m es n).now.guests

-- of a run
abbrev pub line_bytes : Input → ℕ → List ℕ
line_bytes x line = line_bytes_from (opening x) x.events x.rounds line

-- a drive gets the last blocks of its volume
abbrev pub blocks_at : List (List (List ℕ)) → Option ℕ → List (List ℕ)
blocks_at volumes None = []
blocks_at volumes (Some v) = blocks_of volumes v

abbrev pub is_on_drive : ℕ → VolumeRow → Bool
is_on_drive drive v = v.drive == drive

abbrev pub drive_blocks_from : Moment → List Event → ℕ → ℕ → List (List ℕ)
drive_blocks_from m es n drive = blocks_at (rounds_from m es n).now.volumes (place_of (is_on_drive drive) m.config.volumes)

abbrev pub drive_blocks : Input → ℕ → List (List ℕ)
drive_blocks x drive = drive_blocks_from (opening x) x.events x.rounds drive

-- a device on a line, with its class
pub record LineDevice : Type 0 where
  pub line : ℕ
  pub class : AccessClass

abbrev pub terminal_device : Terminal → LineDevice
terminal_device t = record { line = t.line; class = t.class }

abbrev pub printer_device : PrinterRow → LineDevice
printer_device p = record { line = p.line; class = p.class }

-- a guest's dump has the guest's class
abbrev pub dump_device : GuestRow → Option LineDevice
dump_device g = option_map (λ line. record { line = line; class = g.class }) g.dump

abbrev pub audit_device : Option Audit → List LineDevice
audit_device None = []
audit_device (Some a) = record { line = a.line; class = a.class } ∷ []

-- the devices of a configuration that are on lines, in the order in which lines are compared
abbrev pub devices_of : Config → List LineDevice
devices_of c = map terminal_device c.terminals ++ map printer_device c.printers ++ filter_map dump_device c.guests ++ audit_device c.audit
