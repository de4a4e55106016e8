-- The rules that speak of several entries, in the order of their numbers. Each is a test of an element, given those before it.
use Rattle.std.specs.Prelude.{ℕ, List, [], Bool, true, ◌&&◌, ◌==◌, ◌+◌, nat_le, bytes_eq, Result}
use Rattle.std.specs.List.{list_all, sum_by}
use Rattle.std.specs.Option.{option_map_or}
use Rattle.vv_class.specs.Class.{does_flow}
use Rattle.sys_objects.specs.Faults.{◌>>=◌, unless_at}
use Rattle.sys_objects.specs.Rules.{first_broken, is_new, objects_of, lines_of, may_print, may_connect, same_place, may_mount}
use Rattle.sys_objects.specs.declared.errors.ConfigFault.{ConfigFault}
use Rattle.sys_objects.specs.declared.records.Config.{Config}
use Rattle.sys_objects.specs.declared.records.GuestRow.{GuestRow}
use Rattle.sys_objects.specs.declared.records.VolumeRow.{VolumeRow}
use Rattle.sys_objects.specs.declared.rules.Object.{Object}

-- A name, a line and a drive occur once. A guest prints, is connected and mounts as it may, and has a console that no guest
-- before it has. With an audit all objects flow into its class. The guests together have at most 16,384 pages.
unfoldable pub validated : Config → Result (Unit {0}) ConfigFault
validated c =
    unless_at 11 (first_broken (is_new (λ (x y : Object). bytes_eq x.name y.name)) [] (objects_of c)) >>= λ _.
    unless_at 12 (first_broken (is_new (λ (x y : ℕ). x == y)) [] (lines_of c)) >>= λ _.
    unless_at 13 (first_broken (is_new (λ (x y : VolumeRow). x.drive == y.drive)) [] c.volumes) >>= λ _.
    unless_at 14 (first_broken (λ (seen : List GuestRow) (g : GuestRow). may_print c.printers g.class g.printer) [] c.guests) >>= λ _.
    unless_at 15 (first_broken (λ (seen : List GuestRow) (g : GuestRow). may_connect c.terminals g.class g.console && is_new (λ (x y : GuestRow). same_place x.console y.console) seen g) [] c.guests) >>= λ _.
    unless_at 16 (first_broken (λ (seen : List GuestRow) (g : GuestRow). list_all (may_mount c.volumes g.class) g.mounts) [] c.guests) >>= λ _.
    unless_at 17 (first_broken (λ (seen : List Object) (x : Object). option_map_or (λ a. does_flow x.class a.class) c.audit true) [] (objects_of c)) >>= λ _.
    unless_at 18 (first_broken (λ (seen : List GuestRow) (g : GuestRow). nat_le (sum_by (λ (h : GuestRow). h.pages) seen + g.pages) 16384) [] c.guests)
