-- The devices of a configuration on their lines: what flows into a class where the line does, and where one device does.
use Rattle.std.proofs.Common.{◌≡◌, ◌≢◌, ◌<◌, ℕ, List, [], ◌∷◌, ◌++◌, map, length, refl, sym, ap, ◌∙◌, subst, get_or, All, Option, Some, None, ◌⊎◌, inl, inr, true, arith, IfSome}
use Rattle.std.specs.List.{AllPairs, filter_map}
use Rattle.std.proofs.lemmas.Bool.{false≢true, eqb-true, cases_order}
use Rattle.std.proofs.lemmas.List.{get_or-map, length-map, map-append}
use Rattle.std.proofs.lemmas.Simd.{map-map}
use Rattle.std.proofs.lemmas.List.Elements.{All-nil, All-cons, All-head, All-tail, All-from_get_or}
use Rattle.vv_class.proofs.Order.{flow_is, flow_reflexive}
use Rattle.vv_class.specs.Class.{does_flow}
use Rattle.vv_class.specs.declared.class.AccessClass.{AccessClass}
use Rattle.sys_objects.specs.Condition.{IsConfig, MayHave}
use Rattle.sys_objects.specs.Rules.{audit_line, lines_of, objects_of, terminal_object}
use Rattle.sys_objects.specs.declared.records.Audit.{Audit}
use Rattle.sys_objects.specs.declared.records.Config.{Config}
use Rattle.sys_objects.specs.declared.records.GuestRow.{GuestRow}
use Rattle.sys_objects.specs.declared.rules.Object.{Object}
use Rattle.sys_objects.specs.Rules.{guest_object, printer_object, volume_object}
use Rattle.sys_purge.proofs.EventBytes.{AuditFits}
use Rattle.sys_purge.proofs.Fits.{Each}
use Rattle.sys_purge.proofs.Runs.{Heard}
use Rattle.sys_purge.proofs.SeenTurns.{TerminalsFlow}
use Rattle.sys_purge.proofs.TransferBytes.{PrintFits, PrintersFlow}
use Rattle.sys_purge.specs.Input.{is_kept}
use Rattle.sys_purge.specs.Laws.{LineFlowsInto}
use Rattle.sys_state.specs.Bytes.{audit_device, devices_of, dump_device, printer_device, terminal_device, LineDevice}
use Rattle.sys_objects.specs.Places.{is_at}

-- the elements of a list in front of another, after another, and those that are changed
all_before : {A : Type 0} (P : A → Type 0) (xs ys : List A) → All P (xs ++ ys) → All P xs
all_before P [] ys all = All-nil P
all_before P (x ∷ xs) ys all = All-cons P x xs (All-head P x (xs ++ ys) all) (all_before P xs ys (All-tail P x (xs ++ ys) all))

all_after : {A : Type 0} (P : A → Type 0) (xs ys : List A) → All P (xs ++ ys) → All P ys
all_after P [] ys all = all
all_after P (x ∷ xs) ys all = all_after P xs ys (All-tail P x (xs ++ ys) all)

all_of_map : {A B : Type 0} (P : B → Type 0) (f : A → B) (xs : List A) → All P (map f xs) → All (λ x. P (f x)) xs
all_of_map P f [] all = All-nil (λ x. P (f x))
all_of_map P f (x ∷ xs) all = All-cons (λ x. P (f x)) x xs (All-head P (f x) (map f xs) all) (all_of_map P f xs (All-tail P (f x) (map f xs) all))

module _ (c : Config) where
  abbrev pub ts : List LineDevice
  ts = map terminal_device c.terminals

  abbrev pub ps : List LineDevice
  ps = map printer_device c.printers

  abbrev pub ds : List LineDevice
  ds = filter_map dump_device c.guests

  module _ (line : ℕ) (to : AccessClass) where
    abbrev Flows : LineDevice → Type 0
    Flows d = d.line ≡ line → does_flow d.class to ≡ true

    terminals_flow : LineFlowsInto c line to → TerminalsFlow line to c.terminals
    terminals_flow all = all_of_map Flows terminal_device c.terminals (all_before Flows ts ps (all_before Flows (ts ++ ps) ds (all_before Flows (ts ++ ps ++ ds) (audit_device c.audit) all)))

    printers_flow : LineFlowsInto c line to → PrintersFlow line to c.printers
    printers_flow all = all_of_map Flows printer_device c.printers (all_after Flows ts ps (all_before Flows (ts ++ ps) ds (all_before Flows (ts ++ ps ++ ds) (audit_device c.audit) all)))

    audit_flows : (a : Option Audit) → All Flows (audit_device a) → IfSome a (λ a. All (λ (x : Object). does_flow x.class a.class ≡ true) (objects_of c)) → AuditFits c to line a
    audit_flows None all objects = tt
    audit_flows (Some a) all objects =
        let P : Object → Type 0 = λ x. does_flow x.class a.class ≡ true in
        let vs : List Object = map volume_object c.volumes in
        let qs : List Object = map printer_object c.printers in
        let gs : List Object = map guest_object c.guests in
        let os : List Object = map terminal_object c.terminals in (
          All-head Flows (record { line = a.line; class = a.class }) [] all,
          all_of_map P terminal_object c.terminals (all_before P os vs (all_before P (os ++ vs) qs (all_before P (os ++ vs ++ qs) gs objects))),
        )

    abbrev pub DumpFlows : GuestRow → Type 0
    DumpFlows g = is_at line g.dump ≡ true → is_kept to g ≡ true

    dumps_of_rows : (rows : List GuestRow) → All Flows (filter_map dump_device rows) → Each DumpFlows rows
    dumps_of_rows [] all = tt
    dumps_of_rows (row ∷ rows) all = by_dump (dumps_of_rows rows) row.dump refl
      where
        by_dump : (All Flows (filter_map dump_device rows) → Each DumpFlows rows) → (o : Option ℕ) → row.dump ≡ o → Each DumpFlows (row ∷ rows)
        by_dump rest None none = ((λ e. absurd (false≢true (rw none at e))), rest (rw none at all))
        by_dump rest (Some l) some =
            let device : LineDevice = record { line = l; class = row.class } in
            let flow : All Flows (device ∷ filter_map dump_device rows) = rw some at all in
            ((λ e. All-head Flows device (filter_map dump_device rows) flow (eqb-true l line (rw some at e))), rest (All-tail Flows device (filter_map dump_device rows) flow))

    pub dumps_flow : LineFlowsInto c line to → Each DumpFlows c.guests
    dumps_flow all = dumps_of_rows c.guests (all_after Flows (ts ++ ps) ds (all_before Flows (ts ++ ps ++ ds) (audit_device c.audit) all))

    print_fits : PrintersFlow line to c.printers → (rows : List GuestRow) → All (MayHave c) rows → (flow : PrintersFlow line to c.printers) → Each (PrintFits c to line flow) rows
    print_fits f [] held flow = tt
    print_fits f (row ∷ rows) held flow = ((All-head (MayHave c) row rows held).printer, print_fits f rows (All-tail (MayHave c) row rows held) flow)

    pub heard : IsConfig c → LineFlowsInto c line to → Heard c to line
    heard is all =
        let printers = printers_flow all in
        record {
          terminals = terminals_flow all;
          printers = printers;
          audit = audit_flows c.audit (all_after Flows (ts ++ ps ++ ds) (audit_device c.audit) all) is.audited;
          rows = print_fits printers c.guests is.held printers;
        }

-- the devices' lines
lines_of_dumps : (rows : List GuestRow) → map (λ (d : LineDevice). d.line) (filter_map dump_device rows) ≡ filter_map (λ (g : GuestRow). g.dump) rows
lines_of_dumps [] = refl
lines_of_dumps (row ∷ rows) = by_dump (lines_of_dumps rows) row.dump refl
  where
    by_dump : map (λ (d : LineDevice). d.line) (filter_map dump_device rows) ≡ filter_map (λ (g : GuestRow). g.dump) rows → (o : Option ℕ) → row.dump ≡ o
        → map (λ (d : LineDevice). d.line) (filter_map dump_device (row ∷ rows)) ≡ filter_map (λ (g : GuestRow). g.dump) (row ∷ rows)
    by_dump rest None none = rw none rest
    by_dump rest (Some l) some = rw some (ap (λ (ls : List ℕ). l ∷ ls) rest)

line_of_audit : (a : Option Audit) → map (λ (d : LineDevice). d.line) (audit_device a) ≡ audit_line a
line_of_audit None = refl
line_of_audit (Some a) = refl

lines_of_devices : (c : Config) → map (λ (d : LineDevice). d.line) (devices_of c) ≡ lines_of c
lines_of_devices c =
    let line : LineDevice → ℕ = λ d. d.line in
    let terminals = map-map line terminal_device c.terminals in
    let printers = map-map line printer_device c.printers in
    let dumps = lines_of_dumps c.guests in
    let audit = line_of_audit c.audit in
    let two = map-append line (ts c) (ps c) in
    let three = map-append line (ts c ++ ps c) (ds c) in
    map-append line (ts c ++ ps c ++ ds c) (audit_device c.audit)
    ∙ (λ i. three i ++ audit i)
    ∙ (λ i. (two i ++ dumps i) ++ audit_line c.audit)
    ∙ (λ i. ((terminals i ++ printers i) ++ filter_map (λ (g : GuestRow). g.dump) c.guests) ++ audit_line c.audit)

module _ (c : Config) (is : IsConfig c) where
  devices_apart : AllPairs (λ (d e : LineDevice). d.line ≢ e.line) (devices_of c)
  devices_apart i j d before within same =
      let line : LineDevice → ℕ = λ d. d.line in
      let apart : AllPairs (λ x y. x ≢ y) (map line (devices_of c)) = subst (λ (ls : List ℕ). AllPairs (λ x y. x ≢ y) ls) (sym (lines_of_devices c)) is.lines in
      let size : length (map line (devices_of c)) ≡ length (devices_of c) = length-map (devices_of c) line in
      apart i j 0 before (omega (arith, within, size)) (get_or-map line (devices_of c) i d 0 (omega (arith, before, within)) ∙ same ∙ sym (get_or-map line (devices_of c) j d 0 within))

  -- a device's line flows into a class where the device does, since no other is on the line
  abbrev device_at : LineDevice → ℕ → LineDevice
  device_at d k = get_or (devices_of c) k d

  flows_by_order : (to : AccessClass) (d : LineDevice) (j k : ℕ) → does_flow (device_at d k).class to ≡ true → j < length (devices_of c) → k < length (devices_of c) → (device_at d j).line ≡ (device_at d k).line → (j ≡ k) ⊎ ((j < k) ⊎ (k < j)) → does_flow (device_at d j).class to ≡ true
  flows_by_order to d j k flow inside within same (inl e) = ap (λ (i : ℕ). does_flow (device_at d i).class to) e ∙ flow
  flows_by_order to d j k flow inside within same (inr (inl before)) = absurd (devices_apart j k d before within same)
  flows_by_order to d j k flow inside within same (inr (inr later)) = absurd (devices_apart k j d later inside (sym same))

  pub line_flows : (to : AccessClass) (k : ℕ) (d : LineDevice) → k < length (devices_of c) → does_flow (device_at d k).class to ≡ true → LineFlowsInto c (device_at d k).line to
  line_flows to k d within flow = All-from_get_or (Flows c (device_at d k).line to) (devices_of c) d (λ j inside same. flows_by_order to d j k flow inside within same (cases_order j k))

pub flows_itself : (class : AccessClass) → does_flow class class ≡ true
flows_itself class = (flow_is class class).1 (flow_reflexive class)
