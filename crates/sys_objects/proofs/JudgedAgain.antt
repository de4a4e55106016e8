-- No rule on several entries refuses a configuration that satisfies the condition.
use Rattle.std.proofs.Common.{◌≡◌, ◌≢◌, ◌+◌, ℕ, Bool, true, false, ◌&&◌, ◌==◌, List, [], ◌++◌, length, get_or, map, bytes_eq, Option, Some, None, Ok, IfSome, All, refl, sym, arith, length-append}
use Rattle.std.specs.List.{AllPairs}
use Rattle.std.proofs.lemmas.Bool.{eqb-true}
use Rattle.std.proofs.lemmas.List.{get_or-map, get_or-append-add, get_or_append_left}
use Rattle.std.proofs.lemmas.List.Sums.{list_all-from_AllPass}
use Rattle.std.proofs.lemmas.Slice.Eq.{bytes_eq-Decides}
use Rattle.vv_class.specs.Class.{does_flow}
use Rattle.sys_objects.specs.declared.records.Config.{Config}
use Rattle.sys_objects.specs.declared.records.Audit.{Audit}
use Rattle.sys_objects.specs.declared.records.Terminal.{Terminal}
use Rattle.sys_objects.specs.declared.records.VolumeRow.{VolumeRow}
use Rattle.sys_objects.specs.declared.records.PrinterRow.{PrinterRow}
use Rattle.sys_objects.specs.declared.rules.Object.{Object}
use Rattle.sys_objects.specs.Rules.{objects_of, lines_of, terminal_object, volume_object, printer_object, guest_object, first_broken, is_new, may_mount}
use Rattle.sys_objects.specs.Condition.{IsConfig}
use Rattle.sys_objects.specs.Judged.{validated}
use Rattle.sys_objects.proofs.FewLaws.{length-mapped}
use Rattle.sys_objects.proofs.Firsts.{holds_at, none_broken, none_twice, pages_hold, pages_pass}
use Rattle.sys_objects.proofs.Judged.{same_name, same_line, same_drive, same_console, printer_holds, console_holds, mounts_hold, audit_holds}

pub texts_differ : (a b : List ℕ) → a ≢ b → bytes_eq b a ≡ false
texts_differ a b apart = by_test (bytes_eq b a) refl
  where
    by_test : (x : Bool) → bytes_eq b a ≡ x → bytes_eq b a ≡ false
    by_test false e = e
    by_test true e = absurd (apart (sym ((bytes_eq-Decides b a).0 e)))

-- no two objects of a kind have one name
pub record AreApart (c : Config) : Type 0 where
  pub terminals : AllPairs (λ (x y : Terminal). x.name ≢ y.name) c.terminals
  pub volumes : AllPairs (λ (x y : VolumeRow). x.name ≢ y.name) c.volumes
  pub printers : AllPairs (λ (x y : PrinterRow). x.name ≢ y.name) c.printers

numbers_differ : (a b : ℕ) → a ≢ b → (b == a) ≡ false
numbers_differ a b apart = by_test (b == a) refl
  where
    by_test : (x : Bool) → (b == a) ≡ x → (b == a) ≡ false
    by_test false e = e
    by_test true e = absurd (apart (sym (eqb-true b a e)))

and_true : (a b : Bool) → a ≡ true → b ≡ true → (a && b) ≡ true
and_true a b e f = rw (e, f)

module _ (c : Config) (met : IsConfig c) where
  name_passes : first_broken (is_new same_name) [] (objects_of c) ≡ None
  name_passes = none_twice same_name (objects_of c) (λ i j d before within. texts_differ (get_or (objects_of c) i d).name (get_or (objects_of c) j d).name (met.names i j d before within))

  line_passes : first_broken (is_new same_line) [] (lines_of c) ≡ None
  line_passes = none_twice same_line (lines_of c) (λ i j d before within. numbers_differ (get_or (lines_of c) i d) (get_or (lines_of c) j d) (met.lines i j d before within))

  drive_passes : first_broken (is_new same_drive) [] c.volumes ≡ None
  drive_passes = none_twice same_drive c.volumes (λ i j d before within. numbers_differ (get_or c.volumes i d).drive (get_or c.volumes j d).drive (met.drives i j d before within))

  printer_passes : first_broken (printer_holds c.printers) [] c.guests ≡ None
  printer_passes = none_broken (printer_holds c.printers) c.guests [] (λ k d within. (met.held k d within).printer)

  console_passes : first_broken (console_holds c.terminals) [] c.guests ≡ None
  console_passes = none_broken (console_holds c.terminals) c.guests [] (λ k d within.
      and_true _ _ (met.held k d within).console (holds_at (is_new same_console) c.guests [] (none_twice same_console c.guests met.consoles) k d within))

  mount_passes : first_broken (mounts_hold c.volumes) [] c.guests ≡ None
  mount_passes = none_broken (mounts_hold c.volumes) c.guests [] (λ k d within. list_all-from_AllPass (may_mount c.volumes (get_or c.guests k d).class) (get_or c.guests k d).mounts (met.held k d within).mounts)

  audited_passes : (a : Option Audit) → IfSome a (λ a. All (λ (x : Object). does_flow x.class a.class ≡ true) (objects_of c)) → first_broken (audit_holds a) [] (objects_of c) ≡ None
  audited_passes None h = none_broken (audit_holds None) (objects_of c) [] (λ k d within. refl)
  audited_passes (Some a) h = none_broken (audit_holds (Some a)) (objects_of c) [] h

  pages_passes : first_broken pages_hold [] c.guests ≡ None
  pages_passes = pages_pass c.guests [] met.pages

  pub judged_back : validated c ≡ Ok tt
  unfolding validated
  judged_back = rw (name_passes, line_passes, drive_passes, printer_passes, console_passes, mount_passes, audited_passes c.audit met.audited, pages_passes)

-- elements of a part
module _ {A : Type 0} (R : A → A → Type 0) where
  left_apart : (xs ys : List A) → AllPairs R (xs ++ ys) → AllPairs R xs
  left_apart xs ys apart i j d before within =
      rw (get_or_append_left xs ys d i (omega arith), get_or_append_left xs ys d j within) at (apart i j d before (omega (arith, length-append xs ys)))

  right_apart : (xs ys : List A) → AllPairs R (xs ++ ys) → AllPairs R ys
  right_apart xs ys apart i j d before within =
      rw (get_or-append-add xs ys i d, get_or-append-add xs ys j d) at (apart (length xs + i) (length xs + j) d (omega arith) (omega (arith, length-append xs ys)))

mapped_apart : {A B : Type 0} (R : B → B → Type 0) (f : A → B) (xs : List A) → AllPairs R (map f xs) → AllPairs (λ a b. R (f a) (f b)) xs
mapped_apart R f xs apart i j d before within =
    rw (get_or-map f xs i d (f d) (omega arith), get_or-map f xs j d (f d) within) at (apart i j (f d) before (omega (arith, length-mapped f xs)))

abbrev Differ : Object → Object → Type 0
Differ x y = x.name ≢ y.name

pub are_apart : (c : Config) → IsConfig c → AreApart c
are_apart c met =
    let three = left_apart Differ (map terminal_object c.terminals ++ map volume_object c.volumes ++ map printer_object c.printers) (map guest_object c.guests) met.names in
    let two = left_apart Differ (map terminal_object c.terminals ++ map volume_object c.volumes) (map printer_object c.printers) three in
    record {
      terminals = mapped_apart Differ terminal_object c.terminals (left_apart Differ (map terminal_object c.terminals) (map volume_object c.volumes) two);
      volumes = mapped_apart Differ volume_object c.volumes (right_apart Differ (map terminal_object c.terminals) (map volume_object c.volumes) two);
      printers = mapped_apart Differ printer_object c.printers (right_apart Differ (map terminal_object c.terminals ++ map volume_object c.volumes) (map printer_object c.printers) three);
    }
