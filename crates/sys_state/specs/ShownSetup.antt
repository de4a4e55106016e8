-- Configurations for the worked examples: guests of a few pages whose code lies at 200 hexadecimal.
use Rattle.std.specs.Prelude.{ℕ, ◌-◌, List, [], ◌∷◌, ◌++◌, codes, Bool, false, length, replicate, Option, Some, None}
use Rattle.std.specs.Fmt.{digits}
use Rattle.vv_base.specs.Bytes.{long_bytes}
use Rattle.vv_class.specs.Class.{does_flow, is_subset}
use Rattle.vv_class.specs.Text.{categories_below, class_text}
use Rattle.vv_class.specs.declared.class.AccessClass.{AccessClass}
use Rattle.sys_objects.specs.declared.records.Audit.{Audit}
use Rattle.sys_objects.specs.declared.records.Config.{Config}
use Rattle.sys_objects.specs.declared.records.GuestRow.{GuestRow}
use Rattle.sys_objects.specs.declared.records.Mount.{Mount}
use Rattle.sys_objects.specs.declared.records.PrinterRow.{PrinterRow}
use Rattle.sys_objects.specs.declared.records.Terminal.{Terminal}
use Rattle.sys_objects.specs.declared.records.VolumeRow.{VolumeRow}
use Rattle.sys_script.specs.declared.event.Event.{Event}
use Rattle.sys_script.specs.declared.event.Typed.TheVariants.{Break, Line}
use Rattle.sys_audit.specs.Audit.{audit_record}
use Rattle.sys_state.specs.Run.{Input, run}
use Rattle.sys_state.specs.State.{SystemState, Went}
use Rattle.sys_server.specs.Apply.{applied, taken}
use Rattle.sys_server.specs.CommandLine.{asked_in}
use Rattle.sys_server.specs.Verdict.{judged}
use Rattle.sys_store.specs.Job.{job_text}
use Rattle.vm_state.specs.ShownSetup.{whole_step}
use Rattle.vm_state.specs.Start.{memory_with_image}

-- A run with all that it computes with: an example of runs unfolds this one name.
unfoldable pub whole_run : Input → Went SystemState
unfolding
    whole_step memory_with_image asked_in judged does_flow is_subset applied taken audit_record job_text class_text categories_below digits
whole_run input = run input

abbrev pub level : ℕ → AccessClass
level n = record { secrecy = n; secrecy_cats = 0; integrity = 0; integrity_cats = 0 }

abbrev pub terminal : List ℕ → ℕ → ℕ → Terminal
terminal name line n = record { name = name; line = line; class = level n }

abbrev pub volume : List ℕ → ℕ → ℕ → VolumeRow
volume name drive n = record { name = name; drive = drive; blocks = 1; class = level n }

abbrev pub printer : List ℕ → ℕ → ℕ → PrinterRow
printer name line n = record { name = name; line = line; class = level n }

abbrev pub audit : ℕ → ℕ → Option Audit
audit line n = Some (record { line = line; class = level n })

abbrev pub mounted : ℕ → Bool → Option Mount
mounted place write = Some (record { volume = place; write = write })

abbrev pub nothing_mounted : List (Option Mount)
nothing_mounted = None ∷ None ∷ None ∷ None ∷ []

-- a guest with a number of pages, and of steps in a round
abbrev pub guest : List ℕ → ℕ → ℕ → ℕ → Bool → Option ℕ → GuestRow
guest name n pages quantum autostart console = record {
  name = name;
  class = level n;
  pages = pages;
  image = codes "x";
  load = 0x200;
  start = 0x200;
  autostart = autostart;
  console = console;
  printer = None;
  dump = None;
  mounts = nothing_mounted;
  modify_faults = false;
  quantum = quantum;
}

abbrev pub config : Option Audit → List Terminal → List VolumeRow → List PrinterRow → List GuestRow → Config
config a ts vs ps gs = record { slice = 1; audit = a; terminals = ts; volumes = vs; printers = ps; guests = gs }

abbrev pub line_at : ℕ → List ℕ → List ℕ → Event
line_at round name text = record { round = round; terminal = name; what = Line text }

abbrev pub break_at : ℕ → List ℕ → Event
break_at round name = record { round = round; terminal = name; what = Break }

-- MTPR of a packet's address to KCALL
abbrev pub kcall : ℕ → List ℕ
kcall packet = 0xda ∷ 0x8f ∷ long_bytes packet ++ 0x8f ∷ 0xc8 ∷ 0 ∷ 0 ∷ 0 ∷ []

-- a packet: function, unit, block, buffer, length, status
abbrev pub packet : ℕ → ℕ → ℕ → ℕ → ℕ → List ℕ
packet function unit block buffer size =
    long_bytes function ++ long_bytes unit ++ long_bytes block ++ long_bytes buffer ++ long_bytes size ++ long_bytes 0

-- bytes and zeros after them, n in all
abbrev pub filled : ℕ → List ℕ → List ℕ
filled n bytes = bytes ++ replicate (n - length bytes) 0
