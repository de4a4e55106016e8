-- The configuration: what each guest has, and a volume that all of them read.
use Rattle.std.specs.List.{range_with_len}
use Rattle.std.specs.Prelude.{ℕ, ◌+◌, ◌%◌, ◌^◌, List, [], ◌∷◌, ◌++◌, codes, map, true, false, None, Some}
use Rattle.vv_class.specs.declared.class.AccessClass.{AccessClass}
use Rattle.sys_objects.specs.declared.records.Config.{Config}
use Rattle.sys_objects.specs.declared.records.GuestRow.{GuestRow}
use Rattle.sys_objects.specs.declared.records.PrinterRow.{PrinterRow}
use Rattle.sys_objects.specs.declared.records.Terminal.{Terminal}
use Rattle.sys_objects.specs.declared.records.VolumeRow.{VolumeRow}

-- 0 to 7
unfoldable pub all_guests : List ℕ
all_guests = range_with_len 0 8

-- a name with a digit after it
abbrev pub with_digit : List ℕ → ℕ → List ℕ
with_digit name digit = name ++ (48 + digit) ∷ []

-- one of four secrecy levels, one of three secrecy categories, and no integrity
abbrev pub generated_class : ℕ → AccessClass
generated_class g = record { secrecy = g % 4; secrecy_cats = 2 ^ (g % 3); integrity = 0; integrity_cats = 0 }

-- `15{0,1,2};0{}`, into which the class of every guest flows
abbrev pub top_class : AccessClass
top_class = record { secrecy = 15; secrecy_cats = 7; integrity = 0; integrity_cats = 0 }

abbrev pub generated_terminal : ℕ → Terminal
generated_terminal g = record { name = with_digit (codes "T") g; line = g; class = generated_class g }

-- its class, `0{};0{}`, flows into that of every guest
abbrev pub shared_volume : VolumeRow
shared_volume = record { name = codes "V0"; drive = 0; blocks = 8; class = record { secrecy = 0; secrecy_cats = 0; integrity = 0; integrity_cats = 0 } }

abbrev pub generated_volume : ℕ → VolumeRow
generated_volume g = record { name = with_digit (codes "W") g; drive = 1 + g; blocks = 8; class = generated_class g }

abbrev pub generated_printer : ℕ → PrinterRow
generated_printer g = record { name = with_digit (codes "P") g; line = 8 + g; class = generated_class g }

-- it reads the shared volume at unit 0, and writes its own at unit 1
abbrev pub generated_guest : ℕ → GuestRow
generated_guest g = record {
  name = with_digit (codes "G") g;
  class = generated_class g;
  pages = 128;
  image = with_digit (codes "IMAGE") g;
  load = 0x200;
  start = 0x200;
  autostart = true;
  console = Some g;
  printer = Some g;
  dump = Some (16 + g);
  mounts = Some (record { volume = 0; write = false }) ∷ Some (record { volume = 1 + g; write = true }) ∷ None ∷ None ∷ [];
  modify_faults = false;
  quantum = 5000;
}

unfoldable pub generated_config : ℕ → Config
generated_config slice = record {
  slice = slice;
  audit = Some (record { line = 24; class = top_class });
  terminals = map generated_terminal all_guests;
  volumes = shared_volume ∷ map generated_volume all_guests;
  printers = map generated_printer all_guests;
  guests = map generated_guest all_guests;
}
