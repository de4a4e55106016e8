-- The purge of an accepted configuration is accepted.
use Rattle.std.proofs.Common.{◌≡◌, ◌≢◌, ◌<◌, ℕ, List, [], ◌∷◌, ◌++◌, length, map, filter, Bool, true, false, ◌==◌, refl, ap, ◌∙◌, get_or, All, Option, Some, None, IfSome, slice_get, inl, inr, arith}
use Rattle.std.specs.List.{AllPairs, filter_map}
use Rattle.std.proofs.lemmas.Bool.{eq-eqb, eqb-true, and_parts, false≢true}
use Rattle.std.proofs.lemmas.List.{length-map}
use Rattle.std.proofs.lemmas.List.Elements.{All-filter, All-map, filter_passes}
use Rattle.std.proofs.lemmas.List.Kept.{AllPairs-filter}
use Rattle.vv_class.specs.declared.class.AccessClass.{AccessClass}
use Rattle.vv_class.specs.Class.{does_flow}
use Rattle.vv_class.proofs.Order.{flow_is, flow_transitive}
use Rattle.sys_objects.specs.declared.records.Config.{Config}
use Rattle.sys_objects.specs.declared.records.Audit.{Audit}
use Rattle.sys_objects.specs.declared.records.GuestRow.{GuestRow}
use Rattle.sys_objects.specs.declared.records.Mount.{Mount}
use Rattle.sys_objects.specs.declared.records.Terminal.{Terminal}
use Rattle.sys_objects.specs.declared.records.VolumeRow.{VolumeRow}
use Rattle.sys_objects.specs.declared.records.PrinterRow.{PrinterRow}
use Rattle.sys_objects.specs.declared.rules.Object.{Object}
use Rattle.sys_objects.specs.Rules.{objects_of, lines_of, audit_line, terminal_object, volume_object, printer_object, guest_object, same_class, same_place, flows_into, may_print, is_of_class, may_connect, is_mountable, may_mount}
use Rattle.sys_objects.specs.Condition.{IsConfig, IsTerminal, IsVolume, IsPrinter, IsGuest, IsAudit, MayHave}
use Rattle.sys_objects.proofs.Judged.{names_objects}
use Rattle.sys_purge.specs.Purge.{rank, console_place, place_if_kept, printer_place, mount_place, renumbered, kept_audit, purge_config}
use Rattle.sys_purge.proofs.Kept.{both, Part, part_all, part_pairs, part_append, part_filter, part_changed, pairs_map, sum_kept, few_kept, get_kept}
use Rattle.sys_purge.proofs.Places.{rank_same}

pub flows_on : (a b c : AccessClass) → does_flow a b ≡ true → does_flow b c ≡ true → does_flow a c ≡ true
flows_on a b c f g = (flow_is a c).1 (flow_transitive a b c ((flow_is a b).0 f) ((flow_is b c).0 g))

pub same_is : (a b : AccessClass) → same_class a b ≡ true → a ≡ b
same_is a b h =
    let p = and_parts _ _ h in let q = and_parts _ _ p.0 in let r = and_parts _ _ q.0 in
    let secrecy = eqb-true a.secrecy b.secrecy r.0 in
    let secrecy_cats = eqb-true a.secrecy_cats b.secrecy_cats r.1 in
    let integrity = eqb-true a.integrity b.integrity q.1 in
    let integrity_cats = eqb-true a.integrity_cats b.integrity_cats p.1 in
    λ i. record { secrecy = secrecy i; secrecy_cats = secrecy_cats i; integrity = integrity i; integrity_cats = integrity_cats i }

pub same_itself : (a : AccessClass) → same_class a a ≡ true
same_itself a =
    let p = eq-eqb a.secrecy a.secrecy refl in
    let q = eq-eqb a.secrecy_cats a.secrecy_cats refl in
    let r = eq-eqb a.integrity a.integrity refl in
    let s = eq-eqb a.integrity_cats a.integrity_cats refl in
    rw (p, q, r, s) refl

part_dumps : (change : GuestRow → GuestRow) (test : GuestRow → Bool) → ((g : GuestRow) → (change g).dump ≡ g.dump) → (gs : List GuestRow) → Part (filter_map (λ (g : GuestRow). g.dump) (map change (filter test gs))) (filter_map (λ (g : GuestRow). g.dump) gs)
part_dumps change test same [] = refl
part_dumps change test same (g ∷ gs) =
    let ih = part_dumps change test same gs in let one = same g in
    by_dump ih one (g.dump) refl
  where
    by_dump : Part (filter_map (λ (g : GuestRow). g.dump) (map change (filter test gs))) (filter_map (λ (g : GuestRow). g.dump) gs) → (change g).dump ≡ g.dump → (o : Option ℕ) → g.dump ≡ o
        → Part (filter_map (λ (g : GuestRow). g.dump) (map change (filter test (g ∷ gs)))) (filter_map (λ (g : GuestRow). g.dump) (g ∷ gs))
    by_dump ih one None none = let k : (change g).dump ≡ None = one ∙ none in both (test g) (λ e. rw (e, k, none) ih) (λ e. rw (e, none) ih)
    by_dump ih one (Some line) some = let k : (change g).dump ≡ Some line = one ∙ some in both (test g)
        (λ e. rw (e, k, some) (inr (filter_map (λ (g : GuestRow). g.dump) (map change (filter test gs)), refl, ih)))
        (λ e. rw (e, some) (inl ih))

module _ (c : Config) (to : AccessClass) where
  abbrev pub terminal_kept : Terminal → Bool
  terminal_kept t = does_flow t.class to

  abbrev pub volume_kept : VolumeRow → Bool
  volume_kept v = does_flow v.class to

  abbrev pub printer_kept : PrinterRow → Bool
  printer_kept p = does_flow p.class to

  abbrev pub guest_kept : GuestRow → Bool
  guest_kept g = does_flow g.class to

  -- what a guest has
  printer_known : (class : AccessClass) (k : ℕ) (o : Option PrinterRow) → slice_get c.printers k ≡ o → flows_into class o ≡ true → may_print (filter printer_kept c.printers) class (place_if_kept to (rank printer_kept c.printers k) o) ≡ true
  printer_known class k None at h = refl
  printer_known class k (Some p) at h = both (does_flow p.class to)
      (λ e. let new = get_kept printer_kept p e c.printers k at in rw (e, new) h)
      (λ e. rw e refl)

  may_print_kept : (class : AccessClass) (place : Option ℕ) → may_print c.printers class place ≡ true → may_print (filter printer_kept c.printers) class (printer_place to c.printers place) ≡ true
  may_print_kept class None h = refl
  may_print_kept class (Some k) h = printer_known class k (slice_get c.printers k) refl h

  record TerminalAt (class : AccessClass) (k : ℕ) : Type 0 where
    terminal : Terminal
    at : slice_get c.terminals k ≡ Some terminal
    same : same_class terminal.class class ≡ true
    kept : does_flow terminal.class to ≡ true

  terminal_known : (class : AccessClass) (k : ℕ) (o : Option Terminal) → slice_get c.terminals k ≡ o → is_of_class class o ≡ true → does_flow class to ≡ true → TerminalAt class k
  terminal_known class k None at h e = absurd (false≢true h)
  terminal_known class k (Some t) at h e = record { terminal = t; at = at; same = h; kept = ap (λ d. does_flow d to) (same_is t.class class h) ∙ e }

  may_connect_kept : (class : AccessClass) → does_flow class to ≡ true → (place : Option ℕ) → may_connect c.terminals class place ≡ true → may_connect (filter terminal_kept c.terminals) class (console_place to c.terminals place) ≡ true
  may_connect_kept class e None h = refl
  may_connect_kept class e (Some k) h =
      let known = terminal_known class k (slice_get c.terminals k) refl h e in
      let new = get_kept terminal_kept known.terminal known.kept c.terminals k known.at in
      rw new known.same

  volume_known : (class : AccessClass) → does_flow class to ≡ true → (write : Bool) (k : ℕ) (o : Option VolumeRow) → slice_get c.volumes k ≡ o → is_mountable class write o ≡ true → is_mountable class write (slice_get (filter volume_kept c.volumes) (rank volume_kept c.volumes k)) ≡ true
  volume_known class e write k None at h = absurd (false≢true h)
  volume_known class e write k (Some v) at h =
      let new = get_kept volume_kept v (flows_on v.class class to (and_parts _ _ h).0 e) c.volumes k at in
      rw new h

  may_mount_kept : (class : AccessClass) → does_flow class to ≡ true → (m : Option Mount) → may_mount c.volumes class m ≡ true → may_mount (filter volume_kept c.volumes) class (mount_place to c.volumes m) ≡ true
  may_mount_kept class e None h = refl
  may_mount_kept class e (Some m) h = volume_known class e m.write m.volume (slice_get c.volumes m.volume) refl h

  may_have_kept : (g : GuestRow) → does_flow g.class to ≡ true → MayHave c g → MayHave (purge_config c to) (renumbered to c g)
  may_have_kept g e has = record {
    printer = may_print_kept g.class g.printer has.printer;
    console = may_connect_kept g.class e g.console has.console;
    mounts = All-map (λ m. may_mount (filter volume_kept c.volumes) g.class m ≡ true) (mount_place to c.volumes) g.mounts
        (λ k d within. may_mount_kept g.class e (get_or g.mounts k d) (has.mounts k d within));
  }

  is_guest_kept : (g : GuestRow) → IsGuest g → IsGuest (renumbered to c g)
  is_guest_kept g is = record {
    named = is.named;
    class = is.class;
    some_pages = is.some_pages;
    few_pages = is.few_pages;
    image = is.image;
    load = is.load;
    start = is.start;
    dump = is.dump;
    units = length-map g.mounts (mount_place to c.volumes) ∙ is.units;
    some_steps = is.some_steps;
    few_steps = is.few_steps;
  }

  -- no two guests have one console
  record Connects (g : GuestRow) : Type 0 where
    may : may_connect c.terminals g.class g.console ≡ true
    kept : does_flow g.class to ≡ true

  ranks_differ : (a b : AccessClass) (j k : ℕ) → TerminalAt a j → TerminalAt b k → (j == k) ≡ false → (rank terminal_kept c.terminals j == rank terminal_kept c.terminals k) ≡ false
  ranks_differ a b j k x y apart = rank_same terminal_kept x.terminal y.terminal x.kept y.kept c.terminals j k x.at y.at ∙ apart

  places_differ : (a b : AccessClass) → does_flow a to ≡ true → does_flow b to ≡ true → (o p : Option ℕ) → may_connect c.terminals a o ≡ true → may_connect c.terminals b p ≡ true → same_place o p ≡ false → same_place (console_place to c.terminals o) (console_place to c.terminals p) ≡ false
  places_differ a b e f None None h k apart = refl
  places_differ a b e f None (Some j) h k apart = refl
  places_differ a b e f (Some j) None h k apart = refl
  places_differ a b e f (Some i) (Some j) h k apart =
      ranks_differ a b i j (terminal_known a i (slice_get c.terminals i) refl h e) (terminal_known b j (slice_get c.terminals j) refl k f) apart

  record TwoConsoles (g h : GuestRow) : Type 0 where
    first : Connects g
    second : Connects h
    apart : same_place h.console g.console ≡ false

  consoles_kept : AllPairs (λ (g h : GuestRow). same_place h.console g.console ≡ false) c.guests → All (MayHave c) c.guests → AllPairs (λ (g h : GuestRow). same_place h.console g.console ≡ false) (map (renumbered to c) (filter guest_kept c.guests))
  consoles_kept apart held =
      let few = AllPairs-filter (λ (g h : GuestRow). same_place h.console g.console ≡ false) guest_kept c.guests apart in
      let connects : (k : ℕ) (d : GuestRow) → k < length (filter guest_kept c.guests) → Connects (get_or (filter guest_kept c.guests) k d) = λ k d within.
      record { may = (All-filter guest_kept (MayHave c) c.guests held k d within).console; kept = filter_passes guest_kept c.guests k d within } in
      pairs_map TwoConsoles (λ (g h : GuestRow). same_place h.console g.console ≡ false) (renumbered to c)
      (λ g h two. places_differ h.class g.class two.second.kept two.first.kept h.console g.console two.second.may two.first.may two.apart)
      (filter guest_kept c.guests)
      (λ i j d before within. record { first = connects i d (omega arith); second = connects j d within; apart = few i j d before within })

  -- objects and lines
  part_objects : Part (objects_of (purge_config c to)) (objects_of c)
  part_objects =
      part_append _ _ (map terminal_object c.terminals ++ map volume_object c.volumes ++ map printer_object c.printers) (map guest_object c.guests)
      (part_append _ _ (map terminal_object c.terminals ++ map volume_object c.volumes) (map printer_object c.printers)
      (part_append _ _ (map terminal_object c.terminals) (map volume_object c.volumes) (part_filter terminal_object terminal_kept c.terminals) (part_filter volume_object volume_kept c.volumes))
      (part_filter printer_object printer_kept c.printers))
      (part_changed guest_object (renumbered to c) guest_kept (λ g. refl) c.guests)

  part_audit : (a : Option Audit) → Part (audit_line (kept_audit to a)) (audit_line a)
  part_audit None = refl
  part_audit (Some a) = both (does_flow a.class to) (λ e. rw e (inr ([], refl, refl))) (λ e. rw e (inl refl))

  part_lines : Part (lines_of (purge_config c to)) (lines_of c)
  part_lines =
      let ts : List ℕ = map (λ (t : Terminal). t.line) c.terminals in
      let ps : List ℕ = map (λ (p : PrinterRow). p.line) c.printers in
      let ds : List ℕ = filter_map (λ (g : GuestRow). g.dump) c.guests in
      part_append _ _ (ts ++ ps ++ ds) (audit_line c.audit)
      (part_append _ _ (ts ++ ps) ds
      (part_append _ _ ts ps (part_filter (λ (t : Terminal). t.line) terminal_kept c.terminals) (part_filter (λ (p : PrinterRow). p.line) printer_kept c.printers))
      (part_dumps (renumbered to c) guest_kept (λ g. refl) c.guests))
      (part_audit c.audit)

  audit_kept : (a : Option Audit) → IfSome a IsAudit → IfSome (kept_audit to a) IsAudit
  audit_kept None is = tt
  audit_kept (Some a) is = both (does_flow a.class to) (λ e. rw e is) (λ e. rw e tt)

  audited_kept : (a : Option Audit) → IfSome a (λ a. All (λ (x : Object). does_flow x.class a.class ≡ true) (objects_of c)) → IfSome (kept_audit to a) (λ a. All (λ (x : Object). does_flow x.class a.class ≡ true) (objects_of (purge_config c to)))
  audited_kept None all = tt
  audited_kept (Some a) all = both (does_flow a.class to)
      (λ e. rw e (part_all (λ (x : Object). does_flow x.class a.class ≡ true) (objects_of (purge_config c to)) (objects_of c) all part_objects))
      (λ e. rw e tt)

  held_kept : All (MayHave c) c.guests → All (MayHave (purge_config c to)) (map (renumbered to c) (filter guest_kept c.guests))
  held_kept held = All-map (MayHave (purge_config c to)) (renumbered to c) (filter guest_kept c.guests)
      (λ k d within. may_have_kept (get_or (filter guest_kept c.guests) k d) (filter_passes guest_kept c.guests k d within) (All-filter guest_kept (MayHave c) c.guests held k d within))

  pub purged_is : IsConfig c → IsConfig (purge_config c to)
  purged_is is = record {
    some_slice = is.some_slice;
    few_slice = is.few_slice;
    few_terminals = omega (arith, is.few_terminals, few_kept terminal_kept c.terminals);
    few_volumes = omega (arith, is.few_volumes, few_kept volume_kept c.volumes);
    few_printers = omega (arith, is.few_printers, few_kept printer_kept c.printers);
    few_guests = omega (arith, is.few_guests, length-map (filter guest_kept c.guests) (renumbered to c), few_kept guest_kept c.guests);
    terminals = All-filter terminal_kept IsTerminal c.terminals is.terminals;
    volumes = All-filter volume_kept IsVolume c.volumes is.volumes;
    printers = All-filter printer_kept IsPrinter c.printers is.printers;
    guests = All-map IsGuest (renumbered to c) (filter guest_kept c.guests)
        (λ k d within. is_guest_kept (get_or (filter guest_kept c.guests) k d) (All-filter guest_kept IsGuest c.guests is.guests k d within));
    audit = audit_kept c.audit is.audit;
    names = part_pairs (λ (x y : Object). x.name ≢ y.name) (objects_of (purge_config c to)) (objects_of c) is.names part_objects;
    lines = part_pairs (λ (x y : ℕ). x ≢ y) (lines_of (purge_config c to)) (lines_of c) is.lines part_lines;
    drives = AllPairs-filter (λ (v w : VolumeRow). v.drive ≢ w.drive) volume_kept c.volumes is.drives;
    consoles = consoles_kept is.consoles is.held;
    held = held_kept is.held;
    numbers = λ k d within. names_objects (purge_config c to) (get_or (map (renumbered to c) (filter guest_kept c.guests)) k d) (held_kept is.held k d within);
    audited = audited_kept c.audit is.audited;
    pages = omega (arith, is.pages, sum_kept (λ (g : GuestRow). g.pages) (renumbered to c) guest_kept (λ g. refl) c.guests);
  }
