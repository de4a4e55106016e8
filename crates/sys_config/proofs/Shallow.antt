-- A printed configuration is not deep, and has no dates.
use Rattle.std.proofs.Common.{◌≡◌, ◌≤◌, ◌+◌, ℕ, suc, Bool, true, false, ◌&&◌, List, [], ◌∷◌, codes, Option, Some, None, option_map, Ordering, Less, Equal, Greater, IfSome, refl, arith}
use Rattle.std.specs.Ordering.{nat_cmp, match_ordering}
use Rattle.std.specs.Cmp.Lexicographic.{slice_cmp}
use Rattle.toml.specs.Data.{Data, array, table, Members, no_members, member, depth, members_depth, has_valid_dates, members_have_valid_dates}
use Rattle.vv_class.specs.declared.class.AccessClass.{AccessClass}
use Rattle.sys_objects.specs.declared.records.Config.{Config}
use Rattle.sys_objects.specs.declared.records.Audit.{Audit}
use Rattle.sys_objects.specs.declared.records.GuestRow.{GuestRow}
use Rattle.sys_objects.specs.declared.records.Mount.{Mount}
use Rattle.sys_objects.specs.declared.records.VolumeRow.{VolumeRow}
use Rattle.sys_config.specs.Written.{with_member, with_any, number, written_line, written_terminal, written_volume, written_printer, written_audit, written_mount, mount_items, console_value, printer_value, dump_value, audit_value, written_guest, items_by, lists, written_config}

-- no deeper than so much, and without dates
record IsPlain (n : ℕ) (ms : Members) : Type 0 where
  shallow : members_depth ms ≤ n
  dateless : members_have_valid_dates ms ≡ true

record IsPlainData (n : ℕ) (d : Data) : Type 0 where
  shallow : depth d ≤ n
  dateless : has_valid_dates d ≡ true

first : (x y : Bool) → (x && y) ≡ true → x ≡ true
first true y e = refl
first false y e = cc

second : (x y : Bool) → (x && y) ≡ true → y ≡ true
second true y e = e
second false y e = cc

placed : (n : ℕ) (k l : List ℕ) (d e : Data) (ms more : Members) → IsPlainData n d → IsPlain n (member l e ms) → IsPlain n more → (o : Ordering)
    → IsPlain n (match_ordering o (member k d (member l e ms)) (member l d ms) (member l e more))
placed n k l d e ms more is all rest Less = record { shallow = omega (arith, is.shallow, all.shallow); dateless = rw is.dateless all.dateless }
placed n k l d e ms more is all rest Equal = record { shallow = omega (arith, is.shallow, all.shallow); dateless = rw is.dateless (second (has_valid_dates e) (members_have_valid_dates ms) all.dateless) }
placed n k l d e ms more is all rest Greater = record { shallow = omega (arith, rest.shallow, all.shallow); dateless = rw (first (has_valid_dates e) (members_have_valid_dates ms) all.dateless) rest.dateless }

with_member-plain : (n : ℕ) (k : List ℕ) (d : Data) (ms : Members) → IsPlainData n d → IsPlain n ms → IsPlain n (with_member k d ms)
with_member-plain n k d no_members is all = record { shallow = omega (arith, is.shallow); dateless = rw is.dateless }
with_member-plain n k d (member l e ms) is all =
    placed n k l d e ms (with_member k d ms) is all (with_member-plain n k d ms is (record { shallow = omega (arith, all.shallow); dateless = second (has_valid_dates e) (members_have_valid_dates ms) all.dateless })) (slice_cmp nat_cmp k l)

with_any-plain : (n : ℕ) (k : List ℕ) (o : Option Data) (ms : Members) → IfSome o (IsPlainData n) → IsPlain n ms → IsPlain n (with_any k o ms)
with_any-plain n k None ms is all = all
with_any-plain n k (Some d) ms is all = with_member-plain n k d ms is all

items_by-plain : {A : Type 0} (n : ℕ) (f : A → Members) → ((x : A) → IsPlain n (f x)) → (xs : List A) → IsPlainData (2 + n) (array (items_by f xs))
items_by-plain n f is [] = record { shallow = omega arith; dateless = refl }
items_by-plain n f is (x ∷ xs) =
    let rest = items_by-plain n f is xs in
    record { shallow = omega (arith, (is x).shallow, rest.shallow); dateless = rw ((is x).dateless, rest.dateless) }

mounts-plain : (volumes : List VolumeRow) (unit : ℕ) (ms : List (Option Mount)) → IsPlainData 2 (array (mount_items volumes unit ms))
unfolding written_mount
mounts-plain volumes unit [] = record { shallow = omega arith; dateless = refl }
mounts-plain volumes unit (None ∷ ms) = mounts-plain volumes (suc unit) ms
mounts-plain volumes unit (Some m ∷ ms) =
    let rest = mounts-plain volumes (suc unit) ms in record { shallow = omega (arith, rest.shallow); dateless = rest.dateless }

mapped-plain : {A : Type 0} (n : ℕ) (f : A → Data) (o : Option A) → ((x : A) → IsPlainData n (f x)) → IfSome (option_map f o) (IsPlainData n)
mapped-plain n f None is = tt
mapped-plain n f (Some x) is = is x

guest-plain : (c : Config) (g : GuestRow) → IsPlain 2 (written_guest c g)
unfolding written_guest
guest-plain c g =
    let mounts = mounts-plain c.volumes 0 g.mounts in
    with_any-plain 2 (codes "printer") (printer_value c.printers g.printer) _ (mapped-plain 2 _ g.printer (λ k. record { shallow = omega arith; dateless = refl }))
    (with_any-plain 2 (codes "dump") (dump_value g.dump) _ (mapped-plain 2 number g.dump (λ k. record { shallow = omega arith; dateless = refl }))
    (with_any-plain 2 (codes "console") (console_value c.terminals g.console) _ (mapped-plain 2 _ g.console (λ k. record { shallow = omega arith; dateless = refl }))
    (record { shallow = omega (arith, mounts.shallow); dateless = rw mounts.dateless })))

line-plain : (name : List ℕ) (line : ℕ) (class : AccessClass) → IsPlain 0 (written_line name line class)
unfolding written_line
line-plain name line class = record { shallow = omega arith; dateless = refl }

volume-plain : (v : VolumeRow) → IsPlain 0 (written_volume v)
unfolding written_volume
volume-plain v = record { shallow = omega arith; dateless = refl }

audit-plain : (a : Audit) → IsPlainData 4 (table (written_audit a))
unfolding written_audit
audit-plain a = record { shallow = omega arith; dateless = refl }

plain : (c : Config) → IsPlain 4 (written_config c)
unfolding written_config lists
plain c =
    let guests = items_by-plain 2 (written_guest c) (guest-plain c) c.guests in
    let printers = items_by-plain 0 written_printer (λ p. line-plain p.name p.line p.class) c.printers in
    let terminals = items_by-plain 0 written_terminal (λ t. line-plain t.name t.line t.class) c.terminals in
    let volumes = items_by-plain 0 written_volume volume-plain c.volumes in
    with_any-plain 4 (codes "audit") (audit_value c.audit) _ (mapped-plain 4 _ c.audit audit-plain)
    (record { shallow = omega (arith, guests.shallow, printers.shallow, terminals.shallow, volumes.shallow); dateless = rw (guests.dateless, printers.dateless, terminals.dateless, volumes.dateless) })

pub is_shallow : (c : Config) → members_depth (written_config c) ≤ 80
is_shallow c = omega (arith, (plain c).shallow)

pub is_dateless : (c : Config) → members_have_valid_dates (written_config c) ≡ true
is_dateless c = (plain c).dateless
