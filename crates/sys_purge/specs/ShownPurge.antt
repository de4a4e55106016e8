-- Worked examples of a purge, checked by computation: a configuration with objects of levels 0 and 2.
use Rattle.std.specs.Prelude.{◌≡◌, ℕ, List, [], ◌∷◌, codes, true, false, Option, Some, None, refl}
use Rattle.vv_class.specs.declared.class.AccessClass.{AccessClass}
use Rattle.vv_class.specs.Class.{does_flow, is_subset}
use Rattle.sys_objects.specs.declared.records.Config.{Config}
use Rattle.sys_objects.specs.declared.records.GuestRow.{GuestRow}
use Rattle.sys_objects.specs.declared.records.Mount.{Mount}
use Rattle.sys_objects.specs.declared.records.Terminal.{Terminal}
use Rattle.sys_objects.specs.declared.records.VolumeRow.{VolumeRow}
use Rattle.sys_objects.specs.declared.records.PrinterRow.{PrinterRow}
use Rattle.sys_purge.specs.Purge.{rank, printer_place, purge_config}

abbrev level : ℕ → AccessClass
level n = record { secrecy = n; secrecy_cats = 0; integrity = 0; integrity_cats = 0 }

abbrev terminal : ℕ → ℕ → Terminal
terminal line n = record { name = codes "T"; line = line; class = level n }

abbrev volume : ℕ → ℕ → VolumeRow
volume drive n = record { name = codes "V"; drive = drive; blocks = 8; class = level n }

abbrev printer : ℕ → ℕ → PrinterRow
printer line n = record { name = codes "P"; line = line; class = level n }

abbrev mount : ℕ → Option Mount
mount place = Some (record { volume = place; write = false })

abbrev guest : ℕ → Option ℕ → Option ℕ → List (Option Mount) → GuestRow
guest n console printer mounts = record {
  name = codes "A";
  class = level n;
  pages = 64;
  image = codes "a";
  load = 512;
  start = 512;
  autostart = true;
  console = console;
  printer = printer;
  dump = Some 9;
  mounts = mounts;
  modify_faults = false;
  quantum = 10;
}

abbrev whole : Config
whole = record {
  slice = 3;
  audit = Some (record { line = 31; class = level 2 });
  terminals = terminal 0 0 ∷ terminal 1 2 ∷ terminal 2 0 ∷ [];
  volumes = volume 0 2 ∷ volume 1 0 ∷ volume 2 0 ∷ [];
  printers = printer 3 2 ∷ printer 4 0 ∷ [];
  guests =
      guest 2 (Some 1) (Some 0) (mount 0 ∷ mount 2 ∷ None ∷ None ∷ []) ∷
      guest 0 (Some 2) (Some 0) (mount 2 ∷ None ∷ mount 1 ∷ None ∷ []) ∷
      guest 0 None (Some 1) (None ∷ None ∷ None ∷ None ∷ []) ∷ [];
}

-- at level 0 the second terminal, the first volume, the first printer, the first guest and the audit aren't kept; the
-- second guest prints on nothing then
low : purge_config whole (level 0) ≡ record {
  slice = 3;
  audit = None;
  terminals = terminal 0 0 ∷ terminal 2 0 ∷ [];
  volumes = volume 1 0 ∷ volume 2 0 ∷ [];
  printers = printer 4 0 ∷ [];
  guests =
      guest 0 (Some 1) None (mount 1 ∷ None ∷ mount 0 ∷ None ∷ []) ∷
      guest 0 None (Some 0) (None ∷ None ∷ None ∷ None ∷ []) ∷ [];
}
unfolding does_flow is_subset
low = refl

-- at level 2 all is kept as it is
high : purge_config whole (level 2) ≡ whole
unfolding does_flow is_subset
high = refl

-- a class into which nothing flows leaves the slice alone
abbrev trusted : AccessClass
trusted = record { secrecy = 0; secrecy_cats = 0; integrity = 1; integrity_cats = 0 }

nothing : purge_config whole trusted ≡ record { slice = 3; audit = None; terminals = []; volumes = []; printers = []; guests = [] }
unfolding does_flow is_subset
nothing = refl

-- a place of none is that after the kept
none_there : rank (λ (t : Terminal). does_flow t.class (level 0)) whole.terminals 7 ≡ 2
unfolding does_flow is_subset
none_there = refl

no_printer : printer_place (level 2) whole.printers (Some 7) ≡ None
no_printer = refl
