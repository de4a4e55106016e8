-- What holds of a configuration that no rule on several entries refuses.
use Rattle.std.proofs.Common.{◌≡◌, ◌≢◌, ◌≤◌, ◌<◌, ℕ, Bool, true, false, ◌&&◌, ◌==◌, List, [], length, take, get_or, bytes_eq, Option, Some, None, IfSome, All, sum_by, slice_get, refl, sym, ◌∙◌, arith}
use Rattle.std.specs.List.{AllPairs, list_all}
use Rattle.std.specs.Option.{option_map_or}
use Rattle.std.proofs.lemmas.Bool.{false≢true, eq-eqb}
use Rattle.std.proofs.lemmas.List.Sums.{AllPass-from_list_all}
use Rattle.std.proofs.lemmas.Option.{slice_get_within}
use Rattle.std.proofs.lemmas.Slice.Eq.{bytes_eq-Decides}
use Rattle.vv_class.specs.declared.class.AccessClass.{AccessClass}
use Rattle.vv_class.specs.Class.{does_flow}
use Rattle.sys_objects.specs.declared.records.Config.{Config}
use Rattle.sys_objects.specs.declared.records.Audit.{Audit}
use Rattle.sys_objects.specs.declared.records.GuestRow.{GuestRow}
use Rattle.sys_objects.specs.declared.records.Mount.{Mount}
use Rattle.sys_objects.specs.declared.records.Terminal.{Terminal}
use Rattle.sys_objects.specs.declared.records.VolumeRow.{VolumeRow}
use Rattle.sys_objects.specs.declared.records.PrinterRow.{PrinterRow}
use Rattle.sys_objects.specs.declared.rules.Object.{Object}
use Rattle.sys_objects.specs.Rules.{objects_of, lines_of, first_broken, is_new, flows_into, may_print, is_of_class, may_connect, same_place, is_mountable, may_mount}
use Rattle.sys_objects.specs.Condition.{MayHave, NamesObjects}
use Rattle.sys_objects.proofs.Firsts.{holds_at, none_broken, pages_hold, pairs_apart, few_pages}

abbrev pub same_name : Object → Object → Bool
same_name x y = bytes_eq x.name y.name

abbrev pub same_line : ℕ → ℕ → Bool
same_line x y = x == y

abbrev pub same_drive : VolumeRow → VolumeRow → Bool
same_drive x y = x.drive == y.drive

abbrev pub same_console : GuestRow → GuestRow → Bool
same_console x y = same_place x.console y.console

-- the tests, and the first element that fails one
abbrev pub printer_holds : List PrinterRow → List GuestRow → GuestRow → Bool
printer_holds printers seen g = may_print printers g.class g.printer

abbrev pub console_holds : List Terminal → List GuestRow → GuestRow → Bool
console_holds terminals seen g = may_connect terminals g.class g.console && is_new same_console seen g

abbrev pub mounts_hold : List VolumeRow → List GuestRow → GuestRow → Bool
mounts_hold volumes seen g = list_all (may_mount volumes g.class) g.mounts

abbrev pub audit_holds : Option Audit → List Object → Object → Bool
audit_holds audit seen x = option_map_or (λ a. does_flow x.class a.class) audit true

-- no rule on several entries names a place
pub record IsUnbroken (c : Config) : Type 0 where
  pub name : first_broken (is_new same_name) [] (objects_of c) ≡ None
  pub line : first_broken (is_new same_line) [] (lines_of c) ≡ None
  pub drive : first_broken (is_new same_drive) [] c.volumes ≡ None
  pub printer : first_broken (printer_holds c.printers) [] c.guests ≡ None
  pub console : first_broken (console_holds c.terminals) [] c.guests ≡ None
  pub mount : first_broken (mounts_hold c.volumes) [] c.guests ≡ None
  pub audit : first_broken (audit_holds c.audit) [] (objects_of c) ≡ None
  pub pages : first_broken pages_hold [] c.guests ≡ None

texts_apart : (a b : List ℕ) → bytes_eq b a ≡ false → a ≢ b
texts_apart a b differ same = false≢true (sym differ ∙ (bytes_eq-Decides b a).1 (sym same))

numbers_apart : (a b : ℕ) → (b == a) ≡ false → a ≢ b
numbers_apart a b differ same = false≢true (sym differ ∙ eq-eqb b a (sym same))

both : (a b : Bool) → (a && b) ≡ true → (a ≡ true) × (b ≡ true)
both true b e = (refl, e)
both false b e = cc

each_of : {A : Type 0} (p : A → Bool) (xs : List A) → list_all p xs ≡ true → All (λ x. p x ≡ true) xs
each_of p xs e = AllPass-from_list_all p xs e

module _ (c : Config) (is : IsUnbroken c) where
  pub names_apart : AllPairs (λ (x y : Object). x.name ≢ y.name) (objects_of c)
  names_apart i j d before within = texts_apart _ _ (pairs_apart same_name (objects_of c) is.name i j d before within)

  pub lines_apart : AllPairs (λ (x y : ℕ). x ≢ y) (lines_of c)
  lines_apart i j d before within = numbers_apart _ _ (pairs_apart same_line (lines_of c) is.line i j d before within)

  pub drives_apart : AllPairs (λ (v w : VolumeRow). v.drive ≢ w.drive) c.volumes
  drives_apart i j d before within = numbers_apart _ _ (pairs_apart same_drive c.volumes is.drive i j d before within)

  console_parts : (k : ℕ) (d : GuestRow) → k < length c.guests
      → (may_connect c.terminals (get_or c.guests k d).class (get_or c.guests k d).console ≡ true) × (is_new same_console (take k c.guests) (get_or c.guests k d) ≡ true)
  console_parts k d within = both _ _ (holds_at (console_holds c.terminals) c.guests [] is.console k d within)

  pub consoles_apart : AllPairs (λ (g h : GuestRow). same_place h.console g.console ≡ false) c.guests
  consoles_apart = pairs_apart same_console c.guests (none_broken (is_new same_console) c.guests [] (λ k d within. (console_parts k d within).1))

  pub all_held : All (MayHave c) c.guests
  all_held k d within = record {
    printer = holds_at (printer_holds c.printers) c.guests [] is.printer k d within;
    console = (console_parts k d within).0;
    mounts = each_of _ _ (holds_at (mounts_hold c.volumes) c.guests [] is.mount k d within);
  }

  audited_by : (a : Option Audit) → first_broken (audit_holds a) [] (objects_of c) ≡ None → IfSome a (λ a. All (λ (x : Object). does_flow x.class a.class ≡ true) (objects_of c))
  audited_by None e = tt
  audited_by (Some a) e = λ k d within. holds_at (audit_holds (Some a)) (objects_of c) [] e k d within

  pub all_audited : IfSome c.audit (λ a. All (λ (x : Object). does_flow x.class a.class ≡ true) (objects_of c))
  all_audited = audited_by c.audit is.audit

  pub pages_fit : sum_by (λ (g : GuestRow). g.pages) c.guests ≤ 16384
  pages_fit = few_pages c.guests [] is.pages (omega arith)

terminal_there : (terminals : List Terminal) (class : AccessClass) (k : ℕ) (o : Option Terminal) → slice_get terminals k ≡ o → is_of_class class o ≡ true → k < length terminals
terminal_there terminals class k None e h = absurd (false≢true h)
terminal_there terminals class k (Some t) e h = slice_get_within terminals k t e

printer_there : (printers : List PrinterRow) (class : AccessClass) (k : ℕ) (o : Option PrinterRow) → slice_get printers k ≡ o → flows_into class o ≡ true → k < length printers
printer_there printers class k None e h = absurd (false≢true h)
printer_there printers class k (Some p) e h = slice_get_within printers k p e

volume_there : (volumes : List VolumeRow) (class : AccessClass) (write : Bool) (k : ℕ) (o : Option VolumeRow) → slice_get volumes k ≡ o → is_mountable class write o ≡ true → k < length volumes
volume_there volumes class write k None e h = absurd (false≢true h)
volume_there volumes class write k (Some v) e h = slice_get_within volumes k v e

console_there : (terminals : List Terminal) (class : AccessClass) (place : Option ℕ) → may_connect terminals class place ≡ true → IfSome place (λ k. k < length terminals)
console_there terminals class None h = tt
console_there terminals class (Some k) h = terminal_there terminals class k (slice_get terminals k) refl h

printer_place_there : (printers : List PrinterRow) (class : AccessClass) (place : Option ℕ) → may_print printers class place ≡ true → IfSome place (λ k. k < length printers)
printer_place_there printers class None h = tt
printer_place_there printers class (Some k) h = printer_there printers class k (slice_get printers k) refl h

mount_there : (volumes : List VolumeRow) (class : AccessClass) (m : Option Mount) → may_mount volumes class m ≡ true → IfSome m (λ n. n.volume < length volumes)
mount_there volumes class None h = tt
mount_there volumes class (Some m) h = volume_there volumes class m.write m.volume (slice_get volumes m.volume) refl h

pub names_objects : (c : Config) (g : GuestRow) → MayHave c g → NamesObjects c g
names_objects c g has = record {
  console = console_there c.terminals g.class g.console has.console;
  printer = printer_place_there c.printers g.class g.printer has.printer;
  mounts = λ k d within. mount_there c.volumes g.class (get_or g.mounts k d) (has.mounts k d within);
}
