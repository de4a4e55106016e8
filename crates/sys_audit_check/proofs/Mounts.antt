-- Of the server's state the mounts of the configuration's guests alone decide what is answered.
use Rattle.std.proofs.Common.{◌≡◌, ℕ, ◌<◌, List, [], ◌∷◌, ◌++◌, length, take, refl, sym, ◌∙◌, ap, Option, Some, None, slice_get, slice_set, slice_index_or, Bool, true, false, cond, not, ◌&&◌, subst}
use Rattle.std.proofs.Math.Seq.{take-set-lt}
use Rattle.std.proofs.lemmas.List.{get_or-take}
use Rattle.std.proofs.lemmas.Option.{slice_get_within}
use Rattle.sys_audit_check.specs.Audited.{Entry, audit_bytes, record_at, server_after_entry, server_after_verdict, verdict_on}
use Rattle.sys_audit_check.specs.Laws.{MountsTell, SameMounts}
use Rattle.sys_objects.specs.Rules.{same_class}
use Rattle.sys_objects.specs.declared.records.Config.{Config}
use Rattle.sys_objects.specs.declared.records.GuestRow.{GuestRow}
use Rattle.sys_objects.specs.declared.records.Mount.{Mount as Mounted}
use Rattle.sys_objects.specs.declared.records.Terminal.{Terminal}
use Rattle.sys_objects.specs.declared.records.VolumeRow.{VolumeRow}
use Rattle.sys_server.specs.Apply.{applied, with_mount}
use Rattle.sys_server.specs.CommandLine.{asked_in}
use Rattle.sys_server.specs.Verdict.{judged, judged_at, judged_line, mount_at, on_dismount, on_guest, on_mount, on_row, on_rows, unless_empty, visible_guest_place, visible_volume_place}
use Rattle.sys_server.specs.declared.command.NamedCommand.{NamedCommand}
use Rattle.sys_server.specs.declared.command.NamedCommand.TheVariants as asks
use Rattle.sys_server.specs.declared.command.Command.{Command}
use Rattle.sys_server.specs.declared.command.Command.TheVariants.{Connect, Start, Halt, MountAt, Dismount, Show}
use Rattle.sys_server.specs.declared.command.ServerState.{ServerState}
use Rattle.sys_server.specs.declared.command.Verdict.{Verdict}
use Rattle.sys_server.specs.declared.command.Verdict.TheVariants.{Granted, BadCommand, NoSuchObject, Denied}
use Rattle.vv_class.specs.declared.class.AccessClass.{AccessClass}

either_empty : (m m' : Option Mounted) → unless_empty m NoSuchObject ≡ unless_empty m' NoSuchObject
either_empty None None = refl
either_empty None (Some m') = refl
either_empty (Some m) None = refl
either_empty (Some m) (Some m') = refl

module _ (c : Config) (s t : ServerState) (same : SameMounts c s t) where
  row_same : (class : AccessClass) (g unit : ℕ) (o : Option GuestRow) → slice_get c.guests g ≡ o
      → unless_empty (mount_at s g unit) (on_row class o (Dismount g unit)) ≡ unless_empty (mount_at t g unit) (on_row class o (Dismount g unit))
  row_same class g unit None at = either_empty (mount_at s g unit) (mount_at t g unit)
  row_same class g unit (Some row) at = ap (λ (m : Option Mounted). unless_empty m (on_row class (Some row) (Dismount g unit))) (same g unit (slice_get_within c.guests g row at))

  dismount_same : (class : AccessClass) (unit : ℕ) (o : Option ℕ) → on_dismount c s class o unit ≡ on_dismount c t class o unit
  dismount_same class unit None = refl
  dismount_same class unit (Some g) = row_same class g unit (slice_get c.guests g) refl

  line_same : (class : AccessClass) (o : Option NamedCommand) → judged_line c s class o ≡ judged_line c t class o
  unfolding judged
  line_same class None = refl
  line_same class (Some (asks.Connect vm)) = refl
  line_same class (Some (asks.Start vm)) = refl
  line_same class (Some (asks.Halt vm)) = refl
  line_same class (Some (asks.Mount vm unit volume write)) = refl
  line_same class (Some (asks.Dismount vm unit)) = dismount_same class unit (visible_guest_place c.guests class vm)
  line_same class (Some asks.Show) = refl

  at_same : (text : List ℕ) (o : Option Terminal) → judged_at c s o text ≡ judged_at c t o text
  at_same text None = refl
  at_same text (Some k) = line_same k.class (asked_in text)

pub mounts_tell : MountsTell
mounts_tell c s t n text same = at_same c s t same text (slice_get c.terminals n)

-- a granted command that changes mounts is on a guest that is there
abbrev OnGuest : Config → Verdict → Type 0
OnGuest c (Granted (MountAt g unit mount)) = g < length c.guests
OnGuest c (Granted (Dismount g unit)) = g < length c.guests
OnGuest c _ = Unit {0}

module _ (c : Config) where
  test_on : (v : Verdict) (test : Bool) (w : Verdict) → OnGuest c v → OnGuest c w → OnGuest c (cond test v w)
  test_on v true w h k = h
  test_on v false w h k = k

  row_on : (class : AccessClass) (g : ℕ) (o : Option GuestRow) (command : Command) → OnGuest c (Granted command) → OnGuest c (on_row class o command)
  row_on class g None command h = tt
  row_on class g (Some row) command h = test_on (Granted command) (same_class row.class class) _ h tt

  empty_on : (m : Option Mounted) (v : Verdict) → OnGuest c v → OnGuest c (unless_empty m v)
  empty_on None (Granted command) h = tt
  empty_on None BadCommand h = tt
  empty_on None NoSuchObject h = tt
  empty_on None (Denied rule) h = tt
  empty_on (Some m) v h = h

  row_at : (class : AccessClass) (g unit : ℕ) (o : Option GuestRow) → slice_get c.guests g ≡ o → OnGuest c (on_row class o (Dismount g unit))
  row_at class g unit None at = tt
  row_at class g unit (Some row) at = row_on class g (Some row) (Dismount g unit) (slice_get_within c.guests g row at)

  rows_at : (class : AccessClass) (write : Bool) (g unit : ℕ) (mount : Mounted) (o : Option GuestRow) (v : Option VolumeRow) → slice_get c.guests g ≡ o → OnGuest c (on_rows class write o v (MountAt g unit mount))
  rows_at class write g unit mount None v at = tt
  rows_at class write g unit mount (Some row) None at = tt
  rows_at class write g unit mount (Some row) (Some v) at =
      test_on _ (not (same_class row.class class)) _ tt (test_on _ (write && not (same_class v.class class)) _ tt (slice_get_within c.guests g row at))

  mount_on : (class : AccessClass) (g : Option ℕ) (unit : ℕ) (v : Option ℕ) (write : Bool) → OnGuest c (on_mount c class g unit v write)
  mount_on class None unit v write = tt
  mount_on class (Some g) unit None write = tt
  mount_on class (Some g) unit (Some v) write = rows_at class write g unit (record { volume = v; write = write }) (slice_get c.guests g) (slice_get c.volumes v) refl

  dismount_on : (s : ServerState) (class : AccessClass) (g : Option ℕ) (unit : ℕ) → OnGuest c (on_dismount c s class g unit)
  dismount_on s class None unit = tt
  dismount_on s class (Some g) unit = empty_on (mount_at s g unit) _ (row_at class g unit (slice_get c.guests g) refl)

  guest_on : (class : AccessClass) (g : Option ℕ) (command : ℕ → Command) → ((n : ℕ) → OnGuest c (Granted (command n))) → OnGuest c (on_guest c.guests class g command)
  guest_on class None command h = tt
  guest_on class (Some g) command h = row_on class g (slice_get c.guests g) (command g) (h g)

  line_on : (s : ServerState) (class : AccessClass) (o : Option NamedCommand) → OnGuest c (judged_line c s class o)
  unfolding judged
  line_on s class None = tt
  line_on s class (Some (asks.Connect vm)) = guest_on class (visible_guest_place c.guests class vm) Connect (λ n. tt)
  line_on s class (Some (asks.Start vm)) = guest_on class (visible_guest_place c.guests class vm) Start (λ n. tt)
  line_on s class (Some (asks.Halt vm)) = guest_on class (visible_guest_place c.guests class vm) Halt (λ n. tt)
  line_on s class (Some (asks.Mount vm unit volume write)) = mount_on class (visible_guest_place c.guests class vm) unit (visible_volume_place c.volumes class volume) write
  line_on s class (Some (asks.Dismount vm unit)) = dismount_on s class (visible_guest_place c.guests class vm) unit
  line_on s class (Some asks.Show) = tt

  at_on : (s : ServerState) (o : Option Terminal) (text : List ℕ) → OnGuest c (judged_at c s o text)
  at_on s None text = tt
  at_on s (Some t) text = line_on s t.class (asked_in text)

-- a state whose first mounts are those of another, guest by guest
abbrev pub Covers : Config → ServerState → ServerState → Type 0
Covers c t s = take (length c.guests) t.mounts ≡ s.mounts

module _ (c : Config) where
  row_covered : (t s : ServerState) (g : ℕ) → Covers c t s → g < length c.guests → slice_index_or s.mounts g [] ≡ slice_index_or t.mounts g []
  row_covered t s g covers there = ap (λ (ms : List (List (Option Mounted))). slice_index_or ms g []) (sym covers) ∙ get_or-take (length c.guests) t.mounts g [] there

  covered_same : (t s : ServerState) → Covers c t s → SameMounts c s t
  covered_same t s covers g unit there = ap (λ (ms : List (Option Mounted)). slice_index_or ms unit None) (row_covered t s g covers there)

  unit_covered : (t s : ServerState) (g unit : ℕ) (mount : Option Mounted) → Covers c t s → g < length c.guests → Covers c (record t { mounts = with_mount t.mounts g unit mount }) (record s { mounts = with_mount s.mounts g unit mount })
  unit_covered t s g unit mount covers there =
      take-set-lt (length c.guests) t.mounts g (slice_set (slice_index_or t.mounts g []) unit mount) there
      ∙ (λ i. slice_set (covers i) g (slice_set (sym (row_covered t s g covers there) i) unit mount))

  verdict_covered : (t s : ServerState) (n : ℕ) (v : Verdict) → Covers c t s → OnGuest c v → Covers c (server_after_verdict t n v) (server_after_verdict s n v)
  unfolding applied
  verdict_covered t s n (Granted (Connect g)) covers on = covers
  verdict_covered t s n (Granted (Start g)) covers on = covers
  verdict_covered t s n (Granted (Halt g)) covers on = covers
  verdict_covered t s n (Granted (MountAt g unit mount)) covers on = unit_covered t s g unit (Some mount) covers on
  verdict_covered t s n (Granted (Dismount g unit)) covers on = unit_covered t s g unit None covers on
  verdict_covered t s n (Granted Show) covers on = covers
  verdict_covered t s n BadCommand covers on = covers
  verdict_covered t s n NoSuchObject covers on = covers
  verdict_covered t s n (Denied rule) covers on = covers

  -- the records are the same from either state on
  pub bytes_covered : (t s : ServerState) (es : List Entry) → Covers c t s → audit_bytes c s es ≡ audit_bytes c t es
  bytes_covered t s [] covers = refl
  bytes_covered t s (e ∷ es) covers =
      let same : verdict_on c s e ≡ verdict_on c t e = mounts_tell c s t e.terminal e.text (covered_same t s covers) in
      let then : Covers c (server_after_verdict t e.terminal (verdict_on c s e)) (server_after_entry c s e) =
      verdict_covered t s e.terminal (verdict_on c s e) covers (at_on c s (slice_get c.terminals e.terminal) e.text) in
      let next : Covers c (server_after_entry c t e) (server_after_entry c s e) = subst (λ (v : Verdict). Covers c (server_after_verdict t e.terminal v) (server_after_entry c s e)) same then in
      λ i. record_at e.round (slice_get c.terminals e.terminal) e.text (same i) ++ bytes_covered (server_after_entry c t e) (server_after_entry c s e) es next i
