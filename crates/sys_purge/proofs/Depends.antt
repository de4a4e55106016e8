-- What a class sees depends on the purge to it alone.
use Rattle.std.proofs.Common.{◌≡◌, ◌<◌, ℕ, List, [], ◌∷◌, ◌++◌, map, filter, length, refl, sym, ap, ◌∙◌, subst, get_or, Bool, Option, Some, None, true, ◌⊎◌, inl, inr}
use Rattle.std.specs.List.{filter_map}
use Rattle.std.proofs.lemmas.Bool.{cases_order}
use Rattle.std.proofs.lemmas.List.Elements.{All-from_get_or, filter-append}
use Rattle.vv_class.specs.Class.{does_flow}
use Rattle.vv_class.specs.declared.class.AccessClass.{AccessClass}
use Rattle.sys_objects.specs.Condition.{IsConfig}
use Rattle.sys_objects.specs.declared.records.Audit.{Audit}
use Rattle.sys_objects.specs.declared.records.Config.{Config}
use Rattle.sys_objects.specs.declared.records.GuestRow.{GuestRow}
use Rattle.sys_objects.specs.declared.records.VolumeRow.{VolumeRow}
use Rattle.sys_purge.proofs.Accepted.{printer_kept, terminal_kept, volume_kept}
use Rattle.sys_purge.proofs.Devices.{ds, flows_itself, line_flows, ps, ts}
use Rattle.sys_purge.proofs.Kept.{both}
use Rattle.sys_purge.proofs.Fits.{Fits}
use Rattle.sys_purge.proofs.Lines.{drive_kept_from, keeps_drives, keeps_lines, line_kept}
use Rattle.sys_purge.proofs.Members.{IsIn, at_place, in_all, in_kept, place_in}
use Rattle.sys_purge.proofs.SeenTurns.{seen_rows}
use Rattle.sys_purge.specs.Input.{is_kept}
use Rattle.sys_purge.specs.Laws.{DevicesDependOnPurges, DriveFlowsInto, IsSeparateFrom, KeepsVolumes, LineFlowsInto, VolumesDependOnPurges}
use Rattle.sys_purge.specs.Purge.{kept_audit, purge_config}
use Rattle.sys_state.specs.Bytes.{audit_device, devices_of, drive_blocks, dump_device, line_bytes, printer_device, terminal_device, LineDevice}
use Rattle.sys_state.specs.Run.{Input, Moment}
use Rattle.sys_script.specs.declared.event.Event.{Event}

module _ (c : Config) (to : AccessClass) where
  abbrev flows : LineDevice → Bool
  flows d = does_flow d.class to

  -- the devices of a purge are those that are kept
  mapped : {X : Type 0} (f : X → LineDevice) (test : X → Bool) → ((x : X) → flows (f x) ≡ test x) → (xs : List X) → map f (filter test xs) ≡ filter flows (map f xs)
  mapped f test same [] = refl
  mapped f test same (x ∷ xs) =
      let rest = mapped f test same xs in
      let one = same x in
      both (test x) (λ e. rw (one, e) (ap (λ ys. f x ∷ ys) rest)) (λ e. rw (one, e) rest)

  dumps_kept : (rows : List GuestRow) → filter_map dump_device (seen_rows c to rows) ≡ filter flows (filter_map dump_device rows)
  dumps_kept [] = refl
  dumps_kept (row ∷ rows) = by_dump (dumps_kept rows) row.dump refl
    where
      by_dump : filter_map dump_device (seen_rows c to rows) ≡ filter flows (filter_map dump_device rows) → (o : Option ℕ) → row.dump ≡ o → filter_map dump_device (seen_rows c to (row ∷ rows)) ≡ filter flows (filter_map dump_device (row ∷ rows))
      by_dump rest None none = both (is_kept to row) (λ e. rw (e, none) rest) (λ e. rw (e, none) rest)
      by_dump rest (Some line) some = both (is_kept to row)
          (λ e. rw (e, some) (rw e (ap (λ (ys : List LineDevice). record { line = line; class = row.class } ∷ ys) rest)))
          (λ e. rw (e, some) (rw e rest))

  audit_kept : (a : Option Audit) → audit_device (kept_audit to a) ≡ filter flows (audit_device a)
  audit_kept None = refl
  audit_kept (Some a) = both (does_flow a.class to) (λ e. rw e refl) (λ e. rw e refl)

  devices_kept : devices_of (purge_config c to) ≡ filter flows (devices_of c)
  devices_kept =
      let terminals = mapped terminal_device (terminal_kept c to) (λ k. refl) c.terminals in
      let printers = mapped printer_device (printer_kept c to) (λ q. refl) c.printers in
      let dumps = dumps_kept c.guests in
      let audit = audit_kept c.audit in
      let two = filter-append flows (ts c) (ps c) in
      let three = filter-append flows (ts c ++ ps c) (ds c) in
      let four = filter-append flows (ts c ++ ps c ++ ds c) (audit_device c.audit) in
      (λ i. ((terminals i ++ printers i) ++ dumps i) ++ audit i)
      ∙ sym (four ∙ (λ i. three i ++ filter flows (audit_device c.audit)) ∙ (λ i. (two i ++ filter flows (ds c)) ++ filter flows (audit_device c.audit)))

-- a device that flows into the class is in both
in_both : (c e : Config) (to : AccessClass) → purge_config c to ≡ purge_config e to → (d : LineDevice) → does_flow d.class to ≡ true → IsIn d (devices_of c) → IsIn d (devices_of e)
in_both c e to same d flow h =
    let kept : IsIn d (filter (λ (x : LineDevice). does_flow x.class to) (devices_of c)) = in_kept (λ (x : LineDevice). does_flow x.class to) d flow (devices_of c) h in
    let path = sym (devices_kept c to) ∙ ap devices_of same ∙ devices_kept e to in
    in_all (λ (x : LineDevice). does_flow x.class to) d (devices_of e) (subst (IsIn d) path kept)

flows_there : (e : Config) → IsConfig e → (to : AccessClass) (d : LineDevice) → does_flow d.class to ≡ true → IsIn d (devices_of e) → LineFlowsInto e d.line to
flows_there e is to d flow h =
    let p = place_in d (devices_of e) h in
    let there : does_flow (get_or (devices_of e) p.0 d).class to ≡ true = ap (λ (x : LineDevice). does_flow x.class to) p.2 ∙ flow in
    subst (λ (x : LineDevice). LineFlowsInto e x.line to) p.2 (line_flows e is to p.0 d p.1 there)

pub devices_depend : DevicesDependOnPurges
devices_depend x y to is_x is_y same k d within flow =
    let device : LineDevice = get_or (devices_of x.config) k d in
    let here : LineFlowsInto x.config device.line to = line_flows x.config is_x to k d within flow in
    let there : LineFlowsInto y.config device.line to = flows_there y.config is_y to device flow
    (in_both x.config y.config to (ap (λ (z : Input). z.config) same) device flow (at_place (devices_of x.config) k d within)) in
    sym (keeps_lines x to device.line is_x here) ∙ ap (λ (z : Input). line_bytes z device.line) same ∙ keeps_lines y to device.line is_y there

-- volumes
module _ (c : Config) (is : IsConfig c) where
  abbrev volume_at : VolumeRow → ℕ → VolumeRow
  volume_at d k = get_or c.volumes k d

  by_order : (to : AccessClass) (d : VolumeRow) (j k : ℕ) → does_flow (volume_at d k).class to ≡ true → j < length c.volumes → k < length c.volumes → (volume_at d j).drive ≡ (volume_at d k).drive → (j ≡ k) ⊎ ((j < k) ⊎ (k < j)) → does_flow (volume_at d j).class to ≡ true
  by_order to d j k flow inside within same (inl e) = ap (λ (i : ℕ). does_flow (volume_at d i).class to) e ∙ flow
  by_order to d j k flow inside within same (inr (inl before)) = absurd (is.drives j k d before within same)
  by_order to d j k flow inside within same (inr (inr later)) = absurd (is.drives k j d later inside (sym same))

  drive_flows : (to : AccessClass) (k : ℕ) (d : VolumeRow) → k < length c.volumes → does_flow (volume_at d k).class to ≡ true → DriveFlowsInto c (volume_at d k).drive to
  drive_flows to k d within flow = All-from_get_or (λ (v : VolumeRow). v.drive ≡ (volume_at d k).drive → does_flow v.class to ≡ true) c.volumes d
      (λ j inside same. by_order to d j k flow inside within same (cases_order j k))

pub separate_from : (m : Moment) (es : List Event) (n : ℕ) → IsConfig m.config → Fits m.config m.state → IsSeparateFrom m es n
separate_from m es n is fits =
    let device : ℕ → LineDevice → LineDevice = λ k d. get_or (devices_of m.config) k d in
    let volume : ℕ → VolumeRow → VolumeRow = λ k v. get_or m.config.volumes k v in
    record {
      lines = λ k d within. line_kept m es n fits (device k d).class is (device k d).line (line_flows m.config is (device k d).class k d within (flows_itself (device k d).class));
      drives = λ k v within. drive_kept_from m es n fits (volume k v).class (volume k v).drive (drive_flows m.config is (volume k v).class k v within (flows_itself (volume k v).class));
    }

pub keeps_volumes : KeepsVolumes
keeps_volumes x is k d within =
    let v : VolumeRow = get_or x.config.volumes k d in
    keeps_drives x v.class v.drive is (drive_flows x.config is v.class k d within (flows_itself v.class))

volume_there : (e : Config) → IsConfig e → (to : AccessClass) (v : VolumeRow) → does_flow v.class to ≡ true → IsIn v e.volumes → DriveFlowsInto e v.drive to
volume_there e is to v flow h =
    let p = place_in v e.volumes h in
    let there : does_flow (get_or e.volumes p.0 v).class to ≡ true = ap (λ (u : VolumeRow). does_flow u.class to) p.2 ∙ flow in
    subst (λ (u : VolumeRow). DriveFlowsInto e u.drive to) p.2 (drive_flows e is to p.0 v p.1 there)

pub volumes_depend : VolumesDependOnPurges
volumes_depend x y to is_x is_y same k d within flow =
    let v : VolumeRow = get_or x.config.volumes k d in
    let kept : IsIn v (filter (volume_kept x.config to) x.config.volumes) = in_kept (volume_kept x.config to) v flow x.config.volumes (at_place x.config.volumes k d within) in
    let there : IsIn v y.config.volumes = in_all (volume_kept y.config to) v y.config.volumes (subst (λ (z : Input). IsIn v z.config.volumes) same kept) in
    sym (keeps_drives x to v.drive is_x (drive_flows x.config is_x to k d within flow))
    ∙ ap (λ (z : Input). drive_blocks z v.drive) same
    ∙ keeps_drives y to v.drive is_y (volume_there y.config is_y to v flow there)
