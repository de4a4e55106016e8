-- A configuration as it is accepted: its rows by themselves, and what the rules say of several. The rules are those of
-- version 2.
use Rattle.std.specs.Prelude.{◌≡◌, ◌≢◌, ◌<◌, ◌≤◌, ◌^◌, length, true, false, IfSome, All}
use Rattle.std.specs.List.{AllPairs, sum_by}
use Rattle.vv_base.specs.Names.{is_object_name, is_file_name}
use Rattle.vv_class.specs.Class.{IsClass, does_flow}
use Rattle.sys_objects.specs.declared.records.Config.{Config}
use Rattle.sys_objects.specs.declared.records.Audit.{Audit}
use Rattle.sys_objects.specs.declared.records.GuestRow.{GuestRow}
use Rattle.sys_objects.specs.declared.records.Terminal.{Terminal}
use Rattle.sys_objects.specs.declared.records.VolumeRow.{VolumeRow}
use Rattle.sys_objects.specs.declared.records.PrinterRow.{PrinterRow}
use Rattle.sys_objects.specs.Rules.{objects_of, lines_of, may_print, may_connect, same_place, may_mount}

pub record IsTerminal (t : Terminal) : Type 0 where
  pub named : is_object_name t.name ≡ true
  pub line : t.line ≤ 31
  pub class : IsClass t.class

pub record IsVolume (v : VolumeRow) : Type 0 where
  pub named : is_object_name v.name ≡ true
  pub drive : v.drive ≤ 15
  pub some_blocks : 1 ≤ v.blocks
  pub few_blocks : v.blocks ≤ 2048
  pub class : IsClass v.class

pub record IsPrinter (p : PrinterRow) : Type 0 where
  pub named : is_object_name p.name ≡ true
  pub line : p.line ≤ 31
  pub class : IsClass p.class

pub record IsAudit (a : Audit) : Type 0 where
  pub line : a.line ≤ 31
  pub class : IsClass a.class

pub record IsGuest (g : GuestRow) : Type 0 where
  pub named : is_object_name g.name ≡ true
  pub class : IsClass g.class
  pub some_pages : 64 ≤ g.pages
  pub few_pages : g.pages ≤ 2048
  pub image : is_file_name g.image ≡ true
  pub load : g.load < 2 ^ 32
  pub start : g.start < 2 ^ 32
  pub dump : IfSome g.dump (λ line. line ≤ 31)
  pub units : length g.mounts ≡ 4
  pub some_steps : 1 ≤ g.quantum
  pub few_steps : g.quantum ≤ 100000

-- the numbers of a guest are those of objects
pub record NamesObjects (c : Config) (g : GuestRow) : Type 0 where
  pub console : IfSome g.console (λ k. k < length c.terminals)
  pub printer : IfSome g.printer (λ k. k < length c.printers)
  pub mounts : All (λ m. IfSome m (λ n. n.volume < length c.volumes)) g.mounts

-- what a guest has is of a class that goes with its own
pub record MayHave (c : Config) (g : GuestRow) : Type 0 where
  pub printer : may_print c.printers g.class g.printer ≡ true
  pub console : may_connect c.terminals g.class g.console ≡ true
  pub mounts : All (λ m. may_mount c.volumes g.class m ≡ true) g.mounts

pub record IsConfig (c : Config) : Type 0 where
  pub some_slice : 1 ≤ c.slice
  pub few_slice : c.slice ≤ 100000
  -- the rows
  pub few_terminals : length c.terminals ≤ 32
  pub few_volumes : length c.volumes ≤ 16
  pub few_printers : length c.printers ≤ 32
  pub few_guests : length c.guests ≤ 16
  pub terminals : All IsTerminal c.terminals
  pub volumes : All IsVolume c.volumes
  pub printers : All IsPrinter c.printers
  pub guests : All IsGuest c.guests
  pub audit : IfSome c.audit IsAudit
  -- what occurs once
  pub names : AllPairs (λ x y. x.name ≢ y.name) (objects_of c)
  pub lines : AllPairs (λ x y. x ≢ y) (lines_of c)
  pub drives : AllPairs (λ v w. v.drive ≢ w.drive) c.volumes
  pub consoles : AllPairs (λ g h. same_place h.console g.console ≡ false) c.guests
  -- what goes with what
  pub held : All (MayHave c) c.guests
  pub numbers : All (NamesObjects c) c.guests
  pub audited : IfSome c.audit (λ a. All (λ x. does_flow x.class a.class ≡ true) (objects_of c))
  pub pages : sum_by (λ g. g.pages) c.guests ≤ 16384
