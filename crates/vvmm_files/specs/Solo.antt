-- The command `solo IMAGE STEPS`: its configuration.
use Rattle.std.specs.Prelude.{ℕ, [], ◌∷◌, true, false, codes, Some, None}
use Rattle.vv_class.specs.declared.class.AccessClass.{AccessClass}
use Rattle.sys_objects.specs.declared.records.Config.{Config}
use Rattle.sys_objects.specs.declared.records.GuestRow.{GuestRow}
use Rattle.vvmm_files.specs.Words.{SoloWords}

-- the class that flows into every other of its integrity
abbrev pub lowest : AccessClass
lowest = record { secrecy = 0; secrecy_cats = 0; integrity = 0; integrity_cats = 0 }

-- 128 pages of 512 bytes; loaded and started at 200 hex
abbrev pub memory_size : ℕ
memory_size = 65536

abbrev pub load_address : ℕ
load_address = 512

-- the guest A, of the file's image; its console is the first terminal, its dump goes to line 1
abbrev pub solo_guest : SoloWords → GuestRow
solo_guest a = record {
  name = codes "A";
  class = lowest;
  pages = 128;
  image = a.image;
  load = load_address;
  start = load_address;
  autostart = true;
  console = Some 0;
  printer = None;
  dump = Some 1;
  mounts = None ∷ None ∷ None ∷ None ∷ [];
  modify_faults = false;
  quantum = a.steps;
}

-- that guest alone, and the terminal T on line 0
abbrev pub solo_config : SoloWords → Config
solo_config a = record {
  slice = a.steps;
  audit = None;
  terminals = record { name = codes "T"; line = 0; class = lowest } ∷ [];
  volumes = [];
  printers = [];
  guests = solo_guest a ∷ [];
}
