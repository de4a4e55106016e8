-- Worked examples of answers and commands, checked by computation: a terminal and a guest `A` of `1{};0{}`, a guest
-- `LOW` and a volume `PUB` of `0{};0{}`, a volume `SEC` of `2{};0{}`.
use Rattle.std.specs.Prelude.{◌≡◌, ℕ, List, [], ◌∷◌, codes, true, false, Option, None, Some, refl}
use Rattle.vv_class.specs.declared.class.AccessClass.{AccessClass}
use Rattle.vv_class.specs.Class.{does_flow, is_subset}
use Rattle.vv_class.specs.Text.{class_text, categories_below}
use Rattle.std.specs.Fmt.{digits}
use Rattle.sys_objects.specs.declared.records.Config.{Config}
use Rattle.sys_objects.specs.declared.records.GuestRow.{GuestRow}
use Rattle.sys_objects.specs.declared.records.Mount.{Mount}
use Rattle.sys_server.specs.Apply.{applied, taken}
use Rattle.sys_server.specs.CommandLine.{asked_in}
use Rattle.sys_server.specs.Replies.{shown_lines}
use Rattle.sys_server.specs.Verdict.{judged, verdict_of}
use Rattle.sys_server.specs.declared.command.Command.TheVariants.{Connect, MountAt, Dismount}
use Rattle.sys_server.specs.declared.command.Rule.TheVariants.{Equal, Write}
use Rattle.sys_server.specs.declared.command.ServerState.{ServerState}
use Rattle.sys_server.specs.declared.command.Verdict.TheVariants.{Granted, BadCommand, NoSuchObject, Denied}

abbrev level : ℕ → AccessClass
level n = record { secrecy = n; secrecy_cats = 0; integrity = 0; integrity_cats = 0 }

abbrev guest : List ℕ → ℕ → GuestRow
guest name n = record {
  name = name;
  class = level n;
  pages = 64;
  image = codes "a";
  load = 512;
  start = 512;
  autostart = false;
  console = None;
  printer = None;
  dump = None;
  mounts = None ∷ None ∷ None ∷ None ∷ [];
  modify_faults = false;
  quantum = 10;
}

abbrev c : Config
c = record {
  slice = 10;
  audit = None;
  terminals = record { name = codes "T1"; line = 0; class = level 1 } ∷ [];
  volumes = record { name = codes "SEC"; drive = 0; blocks = 8; class = level 2 } ∷ record { name = codes "PUB"; drive = 1; blocks = 8; class = level 0 } ∷ [];
  printers = record { name = codes "P"; line = 1; class = level 0 } ∷ [];
  guests = guest (codes "LOW") 0 ∷ guest (codes "A") 1 ∷ [];
}

abbrev reads : ℕ → Option Mount
reads volume = Some (record { volume = volume; write = false })

-- three terminals; `A` has nothing at unit 2
abbrev s : ServerState
s = record {
  at = Some 0 ∷ Some 1 ∷ None ∷ [];
  mounts = (None ∷ None ∷ None ∷ None ∷ []) ∷ (None ∷ reads 1 ∷ None ∷ None ∷ []) ∷ [];
  running = true ∷ false ∷ [];
}

pub an_invisible_volume : verdict_of c s 0 (codes "MOUNT A 0 SEC READ") ≡ NoSuchObject
unfolding asked_in judged does_flow is_subset
an_invisible_volume = refl

pub an_invisible_volume_to_write : verdict_of c s 0 (codes "MOUNT A 0 SEC WRITE") ≡ NoSuchObject
unfolding asked_in judged does_flow is_subset
an_invisible_volume_to_write = refl

pub a_lower_volume_to_write : verdict_of c s 0 (codes "MOUNT A 0 PUB WRITE") ≡ Denied Write
unfolding asked_in judged does_flow is_subset
a_lower_volume_to_write = refl

pub a_lower_volume_to_read : verdict_of c s 0 (codes "MOUNT A 0 PUB READ") ≡ Granted (MountAt 1 0 (record { volume = 1; write = false }))
unfolding asked_in judged does_flow is_subset
a_lower_volume_to_read = refl

pub a_lower_guest : verdict_of c s 0 (codes "CONNECT LOW") ≡ Denied Equal
unfolding asked_in judged does_flow is_subset
a_lower_guest = refl

pub no_guest : verdict_of c s 0 (codes "HALT X") ≡ NoSuchObject
unfolding asked_in judged does_flow is_subset
no_guest = refl

pub an_empty_unit : verdict_of c s 0 (codes "DISMOUNT A 2") ≡ NoSuchObject
unfolding asked_in judged does_flow is_subset
an_empty_unit = refl

pub a_full_unit : verdict_of c s 0 (codes "DISMOUNT A 1") ≡ Granted (Dismount 1 1)
unfolding asked_in judged does_flow is_subset
a_full_unit = refl

-- the class is tested before the unit
pub an_empty_unit_of_another : verdict_of c s 0 (codes "DISMOUNT LOW 0") ≡ Denied Equal
unfolding asked_in judged does_flow is_subset
an_empty_unit_of_another = refl

pub another_form : verdict_of c s 0 (codes "MOUNT A 4 PUB READ") ≡ BadCommand
unfolding asked_in judged
another_form = refl

-- the console moves from terminal 1 to terminal 2, and 1 gets a notice; a terminal doesn't take its own
pub moves : applied s 2 (Connect 1) ≡ record s { at = Some 0 ∷ None ∷ Some 1 ∷ [] }
unfolding applied
moves = refl

pub is_taken : taken s 2 (Connect 1) ≡ Some 1
unfolding taken
is_taken = refl

pub keeps_its_own : taken s 1 (Connect 1) ≡ None
unfolding taken
keeps_its_own = refl

pub dismounts : applied s 0 (Dismount 1 1) ≡ record s { mounts = (None ∷ None ∷ None ∷ None ∷ []) ∷ (None ∷ None ∷ None ∷ None ∷ []) ∷ [] }
unfolding applied
dismounts = refl

-- what a class sees, and whether the guests run
pub seen : shown_lines c s (level 1) ≡ codes "VM LOW 0{};0{} RUNNING\r\n" ∷ codes "VM A 1{};0{} STOPPED\r\n" ∷ codes "VOLUME PUB 0{};0{}\r\n" ∷ codes "PRINTER P 0{};0{}\r\n" ∷ []
unfolding does_flow is_subset class_text categories_below digits
seen = refl
