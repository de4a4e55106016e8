-- The table of version 2 that a configuration is printed as.
use Rattle.std.specs.Prelude.{ℕ, suc, ℤ, pos, List, [], ◌∷◌, codes, Bool, if◌then◌else◌, Option, Some, None, option_map, slice_get}
use Rattle.std.specs.Ordering.{nat_cmp, match_ordering}
use Rattle.std.specs.Cmp.Lexicographic.{slice_cmp}
use Rattle.toml.specs.Data.{Data, string, integer, boolean, array, table, Items, no_items, item, Members, no_members, member}
use Rattle.vv_class.specs.declared.class.AccessClass.{AccessClass}
use Rattle.vv_class.specs.Text.{class_text}
use Rattle.sys_config.specs.Reads.{◌>>=◌, integer_at}
use Rattle.sys_config.specs.Config.{document_of}
use Rattle.sys_objects.specs.declared.records.Config.{Config}
use Rattle.sys_objects.specs.declared.records.Audit.{Audit}
use Rattle.sys_objects.specs.declared.records.GuestRow.{GuestRow}
use Rattle.sys_objects.specs.declared.records.Mount.{Mount}
use Rattle.sys_objects.specs.declared.records.Terminal.{Terminal}
use Rattle.sys_objects.specs.declared.records.VolumeRow.{VolumeRow}
use Rattle.sys_objects.specs.declared.records.PrinterRow.{PrinterRow}

-- the version that a text names
abbrev pub version_of : List ℕ → Option ℤ
version_of bytes = document_of bytes >>= integer_at (codes "version")

-- a key and its value among others, in the order of the keys
abbrev pub with_member : List ℕ → Data → Members → Members
with_member k d no_members = member k d no_members
with_member k d (member l e ms) = match_ordering (slice_cmp nat_cmp k l) (member k d (member l e ms)) (member l d ms) (member l e (with_member k d ms))

-- a key that is only where there is a value
abbrev pub with_any : List ℕ → Option Data → Members → Members
with_any k None ms = ms
with_any k (Some d) ms = with_member k d ms

abbrev pub number : ℕ → Data
number n = integer (pos n)

unfoldable pub written_line : List ℕ → ℕ → AccessClass → Members
written_line name line class = member (codes "class") (string (class_text class)) (member (codes "line") (number line) (member (codes "name") (string name) no_members))

abbrev pub written_terminal : Terminal → Members
written_terminal t = written_line t.name t.line t.class

abbrev pub written_printer : PrinterRow → Members
written_printer p = written_line p.name p.line p.class

unfoldable pub written_volume : VolumeRow → Members
written_volume v =
    member (codes "blocks") (number v.blocks) (member (codes "class") (string (class_text v.class)) (member (codes "drive") (number v.drive)
    (member (codes "name") (string v.name) no_members)))

unfoldable pub written_audit : Audit → Members
written_audit a = member (codes "class") (string (class_text a.class)) (member (codes "line") (number a.line) no_members)

-- the name of the object at a place
abbrev pub name_there : {A : Type 0} → (A → List ℕ) → Option A → List ℕ
name_there name_of None = []
name_there name_of (Some x) = name_of x

unfoldable pub written_mount : List VolumeRow → ℕ → Mount → Members
written_mount volumes unit m =
    member (codes "unit") (number unit) (member (codes "volume") (string (name_there (λ (v : VolumeRow). v.name) (slice_get volumes m.volume))) (member (codes "write") (boolean m.write) no_members))

-- the mounts at the units from one on
abbrev pub mount_items : List VolumeRow → ℕ → List (Option Mount) → Items
mount_items volumes unit [] = no_items
mount_items volumes unit (None ∷ ms) = mount_items volumes (suc unit) ms
mount_items volumes unit (Some m ∷ ms) = item (table (written_mount volumes unit m)) (mount_items volumes (suc unit) ms)

abbrev pub modify_text : Bool → List ℕ
modify_text b = if b then codes "fault" else codes "set"

-- the keys that every guest is printed with
abbrev pub fixed_keys : Config → GuestRow → Members
fixed_keys c g =
    member (codes "autostart") (boolean g.autostart) (member (codes "class") (string (class_text g.class)) (member (codes "image") (string g.image)
    (member (codes "load") (number g.load) (member (codes "modify") (string (modify_text g.modify_faults)) (member (codes "mount") (array (mount_items c.volumes 0 g.mounts))
    (member (codes "name") (string g.name) (member (codes "pages") (number g.pages) (member (codes "quantum") (number g.quantum)
    (member (codes "start") (number g.start) no_members)))))))))

abbrev pub object_value : {A : Type 0} → (A → List ℕ) → List A → Option ℕ → Option Data
object_value name_of rows place = option_map (λ k. string (name_there name_of (slice_get rows k))) place

abbrev pub console_value : List Terminal → Option ℕ → Option Data
console_value = object_value (λ (t : Terminal). t.name)

abbrev pub printer_value : List PrinterRow → Option ℕ → Option Data
printer_value = object_value (λ (p : PrinterRow). p.name)

abbrev pub dump_value : Option ℕ → Option Data
dump_value line = option_map number line

unfoldable pub written_guest : Config → GuestRow → Members
written_guest c g =
    with_any (codes "printer") (printer_value c.printers g.printer)
    (with_any (codes "dump") (dump_value g.dump) (with_any (codes "console") (console_value c.terminals g.console) (fixed_keys c g)))

abbrev pub items_by : {A : Type 0} → (A → Members) → List A → Items
items_by f [] = no_items
items_by f (x ∷ xs) = item (table (f x)) (items_by f xs)

abbrev pub audit_value : Option Audit → Option Data
audit_value a = option_map (λ a. table (written_audit a)) a

-- all but the audit
unfoldable pub lists : Config → Members
lists c =
    member (codes "guest") (array (items_by (written_guest c) c.guests)) (member (codes "printer") (array (items_by written_printer c.printers))
    (member (codes "slice") (number c.slice) (member (codes "terminal") (array (items_by written_terminal c.terminals)) (member (codes "version") (number 2)
    (member (codes "volume") (array (items_by written_volume c.volumes)) no_members)))))

unfoldable pub written_config : Config → Members
written_config c = with_any (codes "audit") (audit_value c.audit) (lists c)
