-- The purge of a configuration to a class: the input without what may not flow to an observer of that class, after
-- Goguen and Meseguer ("Security policies and security models", 1982). What is kept keeps its order, and places are
-- those among what is kept.
use Rattle.std.specs.Prelude.{ℕ, zero, suc, List, [], ◌∷◌, map, filter, Bool, if◌then◌else◌, Option, Some, None, option_map, slice_get}
use Rattle.vv_class.specs.declared.class.AccessClass.{AccessClass}
use Rattle.vv_class.specs.Class.{does_flow}
use Rattle.sys_objects.specs.declared.records.Config.{Config}
use Rattle.sys_objects.specs.declared.records.Audit.{Audit}
use Rattle.sys_objects.specs.declared.records.GuestRow.{GuestRow}
use Rattle.sys_objects.specs.declared.records.Mount.{Mount}
use Rattle.sys_objects.specs.declared.records.Terminal.{Terminal}
use Rattle.sys_objects.specs.declared.records.VolumeRow.{VolumeRow}
use Rattle.sys_objects.specs.declared.records.PrinterRow.{PrinterRow}

-- how many before a place are kept: its place among the kept
abbrev pub rank : {A : Type 0} → (A → Bool) → List A → ℕ → ℕ
rank test [] k = 0
rank test (x ∷ xs) zero = 0
rank test (x ∷ xs) (suc k) = if test x then suc (rank test xs k) else rank test xs k

-- the place of a console among the terminals that are kept
abbrev pub console_place : AccessClass → List Terminal → Option ℕ → Option ℕ
console_place to terminals place = option_map (rank (λ t. does_flow t.class to) terminals) place

-- of a printer among those that are kept, where it is one of them
abbrev pub place_if_kept : AccessClass → ℕ → Option PrinterRow → Option ℕ
place_if_kept to place None = None
place_if_kept to place (Some p) = if does_flow p.class to then Some place else None

abbrev pub printer_place : AccessClass → List PrinterRow → Option ℕ → Option ℕ
printer_place to printers None = None
printer_place to printers (Some k) = place_if_kept to (rank (λ p. does_flow p.class to) printers k) (slice_get printers k)

-- of a mounted volume among those that are kept
abbrev pub renumbered_mount : AccessClass → List VolumeRow → Mount → Mount
renumbered_mount to volumes m = record { volume = rank (λ v. does_flow v.class to) volumes m.volume; write = m.write }

abbrev pub mount_place : AccessClass → List VolumeRow → Option Mount → Option Mount
mount_place to volumes mount = option_map (renumbered_mount to volumes) mount

-- a guest with the places of what is kept
abbrev pub renumbered : AccessClass → Config → GuestRow → GuestRow
renumbered to c g = record g {
  console = console_place to c.terminals g.console;
  printer = printer_place to c.printers g.printer;
  mounts = map (mount_place to c.volumes) g.mounts;
}

abbrev pub kept_audit : AccessClass → Option Audit → Option Audit
kept_audit to None = None
kept_audit to (Some a) = if does_flow a.class to then Some a else None

-- all that flows into the class
abbrev pub purge_config : Config → AccessClass → Config
purge_config c to = record {
  slice = c.slice;
  audit = kept_audit to c.audit;
  terminals = filter (λ t. does_flow t.class to) c.terminals;
  volumes = filter (λ v. does_flow v.class to) c.volumes;
  printers = filter (λ p. does_flow p.class to) c.printers;
  guests = map (renumbered to c) (filter (λ g. does_flow g.class to) c.guests);
}
