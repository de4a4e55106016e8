-- What holds of each row that is read.
use Rattle.std.proofs.Common.{◌≡◌, ◌≤◌, ℕ, ℤ, pos, negsuc, Bool, true, false, ◌&&◌, nat_le, List, [], ◌∷◌, length, codes, if◌then◌else◌, Option, Some, None, Result, Ok, Err, unwrap_or, is_some, slice_index_or, slice_set, IfSome, refl, arith, ◌∙◌}
use Rattle.std.proofs.Math.ListN.{length-set}
use Rattle.std.proofs.lemmas.Bool.{leb-true}
use Rattle.toml.specs.Data.{Data, Items, no_items, item, Members, get_member, as_array, as_integer}
use Rattle.vv_base.specs.Names.{is_object_name, is_file_name, tested}
use Rattle.vv_class.specs.Class.{IsClass}
use Rattle.vv_class.specs.Text.{class_in}
use Rattle.vv_class.specs.declared.class.AccessClass.{AccessClass}
use Rattle.vv_class.proofs.Numbers.{given}
use Rattle.sys_config.specs.Reads.{◌>>=◌, in_range, integer_in, bounded_integer_at, text_at, flag_at, if_any, are_known}
use Rattle.sys_config.specs.Answers.{entry_from_table}
use Rattle.sys_config.specs.Entries.{name_in, name_at, low_enough, class_at, line_number_at, named_line_of, terminal_row_in, volume_row_in, printer_row_in, audit_row_in}
use Rattle.sys_config.specs.Guests.{mount_of, mounted_at_unit, mounts_from, no_mounts, mounts_in, object_in, modify_of, own_quantum, keys_of_guest, image_at, bare_guest_of, guest_row_in, Units}
use Rattle.sys_objects.specs.Condition.{IsTerminal, IsVolume, IsPrinter, IsAudit, IsGuest}
use Rattle.sys_config.specs.declared.entries.NamedLine.{NamedLine}
use Rattle.sys_config.specs.declared.mounts.UnitMount.{UnitMount}
use Rattle.sys_objects.specs.declared.records.Terminal.{Terminal}
use Rattle.sys_objects.specs.declared.records.VolumeRow.{VolumeRow}
use Rattle.sys_objects.specs.declared.records.PrinterRow.{PrinterRow}
use Rattle.sys_config.proofs.Each.{each, guarded, anything, maybe}

abbrev pub Within : ℕ → ℕ → ℕ → Type 0
Within low high n = (low ≤ n) × (n ≤ high)

tested_range : (low high m : ℕ) (x y : Bool) → nat_le low m ≡ x → nat_le m high ≡ y → IfSome (if x && y then Some m else None) (Within low high)
tested_range low high m true true e f = (leb-true low m e, leb-true m high f)
tested_range low high m true false e f = tt
tested_range low high m false y e f = tt

pub in_range_is : (low high : ℕ) (z : ℤ) → IfSome (in_range low high z) (Within low high)
in_range_is low high (pos m) = tested_range low high m _ _ refl refl
in_range_is low high (negsuc m) = tt

number_in_is : (low high : ℕ) (d : Data) → IfSome (integer_in low high d) (Within low high)
number_in_is low high d = each (λ _. Unit {0}) (Within low high) (as_integer d) (in_range low high) (anything (as_integer d)) (λ z _. in_range_is low high z)

number_is : (key : List ℕ) (low high : ℕ) (t : Members) → IfSome (bounded_integer_at key low high t) (Within low high)
number_is key low high t = each (λ _. Unit {0}) (Within low high) (get_member key t) (integer_in low high) (anything (get_member key t)) (λ d _. number_in_is low high d)

tested_is : (test : List ℕ → Bool) (text : List ℕ) → IfSome (tested test text) (λ name. test name ≡ true)
tested_is test text = by_test (test text) refl
  where
    by_test : (b : Bool) → test text ≡ b → IfSome (if b then Some text else None) (λ name. test name ≡ true)
    by_test true e = e
    by_test false e = tt

name_is : (key : List ℕ) (t : Members) → IfSome (name_at key t) (λ name. is_object_name name ≡ true)
name_is key t = each (λ _. Unit {0}) (λ name. is_object_name name ≡ true) (text_at key t) name_in (anything (text_at key t)) (λ text _. tested_is is_object_name text)

class_is : (top : ℕ) (t : Members) → IfSome (class_at top t) IsClass
class_is top t =
    let text : Option (List ℕ) = text_at (codes "class") t in
    each IsClass IsClass (text >>= class_in) (low_enough top) (each (λ _. Unit {0}) IsClass text class_in (anything text) (λ text _. is_one text (class_in text) refl))
    (λ c is. guarded IsClass (nat_le c.secrecy top && nat_le c.integrity top) (Some c) is)
  where
    is_one : (text : List ℕ) (o : Option AccessClass) → class_in text ≡ o → IfSome o IsClass
    is_one text None e = tt
    is_one text (Some c) e = (given text c e).0

record IsNamedLine (e : NamedLine) : Type 0 where
  named : is_object_name e.name ≡ true
  line : e.line ≤ 31
  class : IsClass e.class

named_line_is : (top : ℕ) (t : Members) → IfSome (named_line_of top t) IsNamedLine
unfolding named_line_of
named_line_is top t =
    guarded IsNamedLine (are_known (codes "name" ∷ codes "line" ∷ codes "class" ∷ []) t) _
    (each (λ name. is_object_name name ≡ true) IsNamedLine (name_at (codes "name") t) _ (name_is (codes "name") t) (λ name named.
    each (Within 0 31) IsNamedLine (line_number_at (codes "line") t) _ (number_is (codes "line") 0 31 t) (λ line low.
    each IsClass IsNamedLine (class_at top t) _ (class_is top t) (λ class is. record { named = named; line = low.1; class = is }))))

pub terminal_is : (top : ℕ) (t : Members) → IfSome (terminal_row_in top t) IsTerminal
terminal_is top t = each IsNamedLine IsTerminal (named_line_of top t) _ (named_line_is top t) (λ e is. record { named = is.named; line = is.line; class = is.class })

pub printer_is : (top : ℕ) (t : Members) → IfSome (printer_row_in top t) IsPrinter
printer_is top t = each IsNamedLine IsPrinter (named_line_of top t) _ (named_line_is top t) (λ e is. record { named = is.named; line = is.line; class = is.class })

pub volume_is : (top : ℕ) (t : Members) → IfSome (volume_row_in top t) IsVolume
unfolding volume_row_in
volume_is top t =
    guarded IsVolume (are_known (codes "name" ∷ codes "drive" ∷ codes "blocks" ∷ codes "class" ∷ []) t) _
    (each (λ name. is_object_name name ≡ true) IsVolume (name_at (codes "name") t) _ (name_is (codes "name") t) (λ name named.
    each (Within 0 15) IsVolume (bounded_integer_at (codes "drive") 0 15 t) _ (number_is (codes "drive") 0 15 t) (λ drive low.
    each (Within 1 2048) IsVolume (bounded_integer_at (codes "blocks") 1 2048 t) _ (number_is (codes "blocks") 1 2048 t) (λ blocks some.
    each IsClass IsVolume (class_at top t) _ (class_is top t) (λ class is.
    record { named = named; drive = low.1; some_blocks = some.0; few_blocks = some.1; class = is })))))

pub audit_is : (top : ℕ) (t : Members) → IfSome (audit_row_in top t) IsAudit
unfolding audit_row_in
audit_is top t =
    guarded IsAudit (are_known (codes "line" ∷ codes "class" ∷ []) t) _
    (each (Within 0 31) IsAudit (line_number_at (codes "line") t) _ (number_is (codes "line") 0 31 t) (λ line low.
    each IsClass IsAudit (class_at top t) _ (class_is top t) (λ class is. record { line = low.1; class = is })))

placed_is : (units : Units) (m : UnitMount) → length units ≡ 4 → IfSome (mounted_at_unit units m) (λ next. length next ≡ 4)
placed_is units m four = by_test (is_some (slice_index_or units m.unit None))
  where
    by_test : (b : Bool) → IfSome (if b then None else Some (slice_set units m.unit (Some m.mount))) (λ next. length next ≡ 4)
    by_test true = tt
    by_test false = length-set units m.unit (Some m.mount) ∙ four

mounts_are : (volumes : List VolumeRow) (ds : Items) (units : Units) → length units ≡ 4 → IfSome (mounts_from volumes units ds) (λ next. length next ≡ 4)
mounts_are volumes no_items units four = four
mounts_are volumes (item d ds) units four =
    each (λ (next : Units). length next ≡ 4) (λ (next : Units). length next ≡ 4) (entry_from_table (mount_of volumes) d >>= mounted_at_unit units) (λ next. mounts_from volumes next ds)
    (each (λ (m : UnitMount). Unit {0}) (λ (next : Units). length next ≡ 4) (entry_from_table (mount_of volumes) d) (mounted_at_unit units) (anything (entry_from_table (mount_of volumes) d)) (λ m _. placed_is units m four))
    (λ next is. mounts_are volumes ds next is)

mounts_in_is : (volumes : List VolumeRow) (d : Data) → IfSome (mounts_in volumes d) (λ units. length units ≡ 4)
mounts_in_is volumes d = each (λ (ds : Items). Unit {0}) (λ (units : Units). length units ≡ 4) (as_array d) (mounts_from volumes no_mounts) (anything (as_array d)) (λ ds _. mounts_are volumes ds no_mounts refl)

-- the quantum of a version 1 text is in its range
abbrev pub IsQuantum : Option ℕ → Type 0
IsQuantum quantum = IfSome quantum (Within 1 100000)

quantum_is : (quantum : Option ℕ) (t : Members) → IsQuantum quantum → IfSome (own_quantum quantum t) (Within 1 100000)
quantum_is (Some q) t is = is
quantum_is None t is = number_is (codes "quantum") 1 100000 t

image_is : (t : Members) → IfSome (image_at t) (λ name. is_file_name name ≡ true)
image_is t = each (λ _. Unit {0}) (λ name. is_file_name name ≡ true) (text_at (codes "image") t) (tested is_file_name) (anything (text_at (codes "image") t)) (λ text _. tested_is is_file_name text)

bare_guest_is : (top : ℕ) (quantum : Option ℕ) (t : Members) → IsQuantum quantum → IfSome (bare_guest_of top quantum t) IsGuest
unfolding bare_guest_of
bare_guest_is top quantum t is =
    each (λ name. is_object_name name ≡ true) IsGuest (name_at (codes "name") t) _ (name_is (codes "name") t) (λ name named.
    each IsClass IsGuest (class_at top t) _ (class_is top t) (λ class is_class.
    each (Within 64 2048) IsGuest (bounded_integer_at (codes "pages") 64 2048 t) _ (number_is (codes "pages") 64 2048 t) (λ pages some.
    each (λ name. is_file_name name ≡ true) IsGuest (image_at t) _ (image_is t) (λ image is_image.
    each (Within 0 4294967295) IsGuest (bounded_integer_at (codes "load") 0 4294967295 t) _ (number_is (codes "load") 0 4294967295 t) (λ load low.
    each (Within 0 4294967295) IsGuest (bounded_integer_at (codes "start") 0 4294967295 t) _ (number_is (codes "start") 0 4294967295 t) (λ start low_start.
    each (λ (b : Bool). Unit {0}) IsGuest (flag_at (codes "autostart") t) _ (anything (flag_at (codes "autostart") t)) (λ autostart _.
    each (Within 1 100000) IsGuest (own_quantum quantum t) _ (quantum_is quantum t is) (λ own in_range.
    record {
      named = named;
      class = is_class;
      some_pages = some.0;
      few_pages = some.1;
      image = is_image;
      load = omega (arith, low.1);
      start = omega (arith, low_start.1);
      dump = tt;
      units = refl;
      some_steps = in_range.0;
      few_steps = in_range.1;
    }))))))))

at_most_31 : (dump : Option ℕ) → IfSome dump (Within 0 31) → IfSome dump (λ line. line ≤ 31)
at_most_31 None h = tt
at_most_31 (Some line) h = h.1

four_units : (mounts : Option Units) → IfSome mounts (λ units. length units ≡ 4) → length (unwrap_or mounts no_mounts) ≡ 4
four_units None h = refl
four_units (Some units) h = h

pub guest_is : (top : ℕ) (quantum : Option ℕ) (terminals : List Terminal) (volumes : List VolumeRow) (printers : List PrinterRow) (t : Members) → IsQuantum quantum
    → IfSome (guest_row_in top quantum terminals volumes printers t) IsGuest
unfolding guest_row_in
guest_is top quantum terminals volumes printers t is =
    guarded IsGuest (are_known (keys_of_guest quantum) t) _
    (each IsGuest IsGuest (bare_guest_of top quantum t) _ (bare_guest_is top quantum t is) (λ guest bare.
    each (λ (o : Option ℕ). Unit {0}) IsGuest (if_any (object_in (λ (t : Terminal). t.name) terminals) (codes "console") t) _ (anything (if_any (object_in (λ (t : Terminal). t.name) terminals) (codes "console") t)) (λ console _.
    each (λ (o : Option ℕ). Unit {0}) IsGuest (if_any (object_in (λ (p : PrinterRow). p.name) printers) (codes "printer") t) _ (anything (if_any (object_in (λ (p : PrinterRow). p.name) printers) (codes "printer") t)) (λ printer _.
    each (λ o. IfSome o (Within 0 31)) IsGuest (if_any (integer_in 0 31) (codes "dump") t) _ (maybe (Within 0 31) (integer_in 0 31) (number_in_is 0 31) (get_member (codes "dump") t)) (λ dump low.
    each (λ (o : Option Bool). Unit {0}) IsGuest (if_any modify_of (codes "modify") t) _ (anything (if_any modify_of (codes "modify") t)) (λ modify _.
    each (λ o. IfSome o (λ (units : Units). length units ≡ 4)) IsGuest (if_any (mounts_in volumes) (codes "mount") t) _
    (maybe (λ (units : Units). length units ≡ 4) (mounts_in volumes) (mounts_in_is volumes) (get_member (codes "mount") t)) (λ mounts four.
    record {
      named = bare.named;
      class = bare.class;
      some_pages = bare.some_pages;
      few_pages = bare.few_pages;
      image = bare.image;
      load = bare.load;
      start = bare.start;
      dump = at_most_31 dump low;
      units = four_units mounts four;
      some_steps = bare.some_steps;
      few_steps = bare.few_steps;
    })))))))
