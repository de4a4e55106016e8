-- What the rules on several entries compare and ask.
use Rattle.std.specs.Prelude.{ℕ, List, [], ◌∷◌, ◌++◌, length, map, Bool, true, false, not, ◌&&◌, ◌==◌, ◌≤◌, if◌then◌else◌, Option, Some, None, slice_get}
use Rattle.std.specs.List.{list_any, filter_map}
use Rattle.vv_class.specs.declared.class.AccessClass.{AccessClass}
use Rattle.vv_class.specs.Class.{does_flow}
use Rattle.sys_objects.specs.declared.rules.Object.{Object}
use Rattle.sys_objects.specs.declared.records.Config.{Config}
use Rattle.sys_objects.specs.declared.records.Audit.{Audit}
use Rattle.sys_objects.specs.declared.records.GuestRow.{GuestRow}
use Rattle.sys_objects.specs.declared.records.Mount.{Mount}
use Rattle.sys_objects.specs.declared.records.Terminal.{Terminal}
use Rattle.sys_objects.specs.declared.records.VolumeRow.{VolumeRow}
use Rattle.sys_objects.specs.declared.records.PrinterRow.{PrinterRow}

-- the place of the first for which a test fails, after those that were seen
abbrev pub first_broken : {A : Type 0} → (List A → A → Bool) → List A → List A → Option ℕ
first_broken holds seen [] = None
first_broken holds seen (x ∷ xs) = if holds seen x then first_broken holds (seen ++ x ∷ []) xs else Some (length seen)

-- what no element before it has
abbrev pub is_new : {A : Type 0} → (A → A → Bool) → List A → A → Bool
is_new same seen x = not (list_any (same x) seen)

-- the objects in the order in which names and classes are compared
abbrev pub terminal_object : Terminal → Object
terminal_object t = record { name = t.name; class = t.class }

abbrev pub volume_object : VolumeRow → Object
volume_object v = record { name = v.name; class = v.class }

abbrev pub printer_object : PrinterRow → Object
printer_object p = record { name = p.name; class = p.class }

abbrev pub guest_object : GuestRow → Object
guest_object g = record { name = g.name; class = g.class }

abbrev pub objects_of : Config → List Object
objects_of c = map terminal_object c.terminals ++ map volume_object c.volumes ++ map printer_object c.printers ++ map guest_object c.guests

-- the lines in the order in which they are compared
abbrev pub audit_line : Option Audit → List ℕ
audit_line None = []
audit_line (Some a) = a.line ∷ []

abbrev pub lines_of : Config → List ℕ
lines_of c = map (λ t. t.line) c.terminals ++ map (λ p. p.line) c.printers ++ filter_map (λ g. g.dump) c.guests ++ audit_line c.audit

abbrev pub same_class : AccessClass → AccessClass → Bool
same_class a b = a.secrecy == b.secrecy && a.secrecy_cats == b.secrecy_cats && a.integrity == b.integrity && a.integrity_cats == b.integrity_cats

-- a guest of a class prints on a printer into which it flows
abbrev pub flows_into : AccessClass → Option PrinterRow → Bool
flows_into class None = false
flows_into class (Some p) = does_flow class p.class

abbrev pub may_print : List PrinterRow → AccessClass → Option ℕ → Bool
may_print printers class None = true
may_print printers class (Some k) = flows_into class (slice_get printers k)

-- its console is a terminal of its class
abbrev pub is_of_class : AccessClass → Option Terminal → Bool
is_of_class class None = false
is_of_class class (Some t) = same_class t.class class

abbrev pub may_connect : List Terminal → AccessClass → Option ℕ → Bool
may_connect terminals class None = true
may_connect terminals class (Some k) = is_of_class class (slice_get terminals k)

-- whether both are there, and are one
abbrev pub same_place : Option ℕ → Option ℕ → Bool
same_place (Some j) (Some k) = j == k
same_place _ _ = false

-- a volume that it mounts flows into it, and one that it writes is of its class
abbrev pub is_mountable : AccessClass → Bool → Option VolumeRow → Bool
is_mountable class write None = false
is_mountable class write (Some v) = does_flow v.class class && (if write then same_class v.class class else true)

abbrev pub may_mount : List VolumeRow → AccessClass → Option Mount → Bool
may_mount volumes class None = true
may_mount volumes class (Some m) = is_mountable class m.write (slice_get volumes m.volume)

-- the lists are no longer than they may be
pub record IsFew (c : Config) : Type 0 where
  pub terminals : length c.terminals ≤ 32
  pub volumes : length c.volumes ≤ 16
  pub printers : length c.printers ≤ 32
  pub guests : length c.guests ≤ 16
