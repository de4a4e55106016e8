-- The bytes of lines, and the blocks of drives, when all that doesn't flow into a class was never there.
use Rattle.std.proofs.Common.{◌≡◌, ℕ, ◌+◌, List, [], ◌∷◌, ◌++◌, filter, refl, sym, ap, ◌∙◌, get_or, All, Option, Some, None, option_map, true, true≢false}
use Rattle.std.proofs.lemmas.Bool.{eqb-true}
use Rattle.vv_class.specs.declared.class.AccessClass.{AccessClass}
use Rattle.sys_objects.specs.Condition.{IsConfig}
use Rattle.sys_objects.specs.declared.records.Config.{Config}
use Rattle.sys_objects.specs.declared.records.GuestRow.{GuestRow}
use Rattle.sys_objects.specs.declared.records.VolumeRow.{VolumeRow}
use Rattle.sys_purge.proofs.Accepted.{volume_kept}
use Rattle.sys_purge.proofs.Beside.{index_beside, passes_row}
use Rattle.sys_purge.proofs.Devices.{DumpFlows, dumps_flow, flows_itself, heard, line_flows}
use Rattle.sys_purge.proofs.Fits.{Each, Fits}
use Rattle.sys_purge.proofs.Judged.{as_it_is}
use Rattle.sys_purge.proofs.Kept.{both}
use Rattle.sys_purge.proofs.Opens.{first_fits, first_seen}
use Rattle.sys_purge.proofs.Places.{StandsAt, first_stands, place_kept}
use Rattle.sys_purge.proofs.Runs.{rounds_bytes, rounds_now}
use Rattle.sys_purge.proofs.SeenTransfers.{Volumes}
use Rattle.sys_purge.proofs.SeenTurns.{seen_rows}
use Rattle.sys_purge.specs.Events.{purge_events}
use Rattle.sys_purge.specs.Input.{beside, is_kept, purged}
use Rattle.sys_purge.specs.Laws.{DriveFlowsInto, KeepsDevices, KeepsDrives, KeepsLines, KeepsShown, LineFlowsInto, shown_on}
use Rattle.sys_purge.specs.Moments.{purged_moment}
use Rattle.sys_purge.specs.Purge.{purge_config, rank}
use Rattle.sys_state.specs.Bytes.{blocks_at, devices_of, drive_blocks_from, dump_on, is_on_drive, line_bytes_from, shown_from}
use Rattle.sys_state.specs.Places.{place_of}
use Rattle.sys_objects.specs.Places.{is_at}
use Rattle.sys_state.specs.Run.{Input, Moment, moment_after, opening, rounds_from}
use Rattle.sys_state.specs.State.{SystemState}
use Rattle.sys_script.specs.declared.event.Event.{Event}
use Rattle.vm_state.specs.State.{Guest}

-- a dump that is seen
seen_dump : (c : Config) (to : AccessClass) (line : ℕ) (rows : List GuestRow) → Each (DumpFlows c line to) rows → (gs : List Guest) → dump_on line (seen_rows c to rows) (beside (is_kept to) rows gs) ≡ dump_on line rows gs
seen_dump c to line [] h gs = refl
seen_dump c to line (row ∷ rows) h [] = nothing (seen_rows c to (row ∷ rows))
  where
    nothing : (rest : List GuestRow) → dump_on line rest [] ≡ []
    nothing [] = refl
    nothing (r ∷ rest) = refl
seen_dump c to line (row ∷ rows) h (g ∷ gs) =
    let rest = seen_dump c to line rows h.1 gs in
    both (is_kept to row)
    (λ e. both (is_at line row.dump) (λ f. rw (e, f) refl) (λ f. rw (e, f) rest))
    (λ e. both (is_at line row.dump) (λ f. absurd (true≢false (sym (h.0 f) ∙ e))) (λ f. rw (e, f) rest))

-- what is kept of a moment, after the same rounds, and what they show
module _ (m : Moment) (es : List Event) (n : ℕ) (fits : Fits m.config m.state) (to : AccessClass) where
  pub moment_kept : moment_after (purged_moment m to) (purge_events m.config es to) n ≡ purged_moment (moment_after m es n) to
  moment_kept = ap (λ (s : SystemState). record { config = purge_config m.config to; made = m.made + n; state = s }) (rounds_now m.config to (m.made + 1) n es m.state fits)

  module _ (is : IsConfig m.config) (line : ℕ) (flow : LineFlowsInto m.config line to) where
    pub shown_kept : shown_from (purged_moment m to) (purge_events m.config es to) n line ≡ shown_from m es n line
    shown_kept = rounds_bytes m.config to line (heard m.config line to is flow) (m.made + 1) n es m.state fits

    pub line_kept : line_bytes_from (purged_moment m to) (purge_events m.config es to) n line ≡ line_bytes_from m es n line
    line_kept =
        let dump = ap (λ (k : Moment). dump_on line (seen_rows m.config to m.config.guests) k.state.guests) moment_kept
        ∙ seen_dump m.config to line m.config.guests (dumps_flow m.config line to flow) (rounds_from m es n).now.guests in
        λ i. shown_kept i ++ dump i

-- the first moment of a run
pub opening_kept : (x : Input) (to : AccessClass) → IsConfig x.config → opening (purged x to) ≡ purged_moment (opening x) to
opening_kept x to is = ap (λ (s : SystemState). record { config = purge_config x.config to; made = 0; state = s }) (first_seen x.config is.held to x.images x.volumes)

module _ (x : Input) (to : AccessClass) (is : IsConfig x.config) where
  pub opening_fits : Fits x.config (opening x).state
  opening_fits = first_fits x.config is.held x.images x.volumes

  shown_alike : (line : ℕ) → LineFlowsInto x.config line to → shown_on (purged x to) line ≡ shown_on x line
  shown_alike line flow = ap (λ (m : Moment). shown_from m (purge_events x.config x.events to) x.rounds line) (opening_kept x to is) ∙ shown_kept (opening x) x.events x.rounds opening_fits to is line flow

pub keeps_lines : KeepsLines
keeps_lines x to line is flow = ap (λ (m : Moment). line_bytes_from m (purge_events x.config x.events to) x.rounds line) (opening_kept x to is) ∙ line_kept (opening x) x.events x.rounds (opening_fits x to is) to is line flow

pub keeps_devices : KeepsDevices
keeps_devices x is k d within =
    let class : AccessClass = (get_or (devices_of x.config) k d).class in
    keeps_lines x class (get_or (devices_of x.config) k d).line is (line_flows x.config is class k d within (flows_itself class))

pub keeps_shown : KeepsShown
keeps_shown x is k d within =
    let class : AccessClass = (get_or (devices_of x.config) k d).class in
    shown_alike x class is (get_or (devices_of x.config) k d).line (line_flows x.config is class k d within (flows_itself class))

-- the volume on a drive that flows into the class
module _ (c : Config) (to : AccessClass) (drive : ℕ) (flow : DriveFlowsInto c drive to) where
  on_drive_kept : All (λ (v : VolumeRow). is_on_drive drive v ≡ true → volume_kept c to v ≡ true) c.volumes
  on_drive_kept k d within e = flow k d within (eqb-true (get_or c.volumes k d).drive drive e)

  drive_place : place_of (is_on_drive drive) (filter (volume_kept c to) c.volumes) ≡ option_map (rank (volume_kept c to) c.volumes) (place_of (is_on_drive drive) c.volumes)
  drive_place =
      ap (place_of (is_on_drive drive)) (sym (as_it_is (filter (volume_kept c to) c.volumes)))
      ∙ place_kept (volume_kept c to) (is_on_drive drive) (is_on_drive drive) (λ v. v) c.volumes (λ k d within e. refl) on_drive_kept

  blocks_kept : (vs : Volumes) (o : Option ℕ) → StandsAt (λ (v : VolumeRow). volume_kept c to v ≡ true) c.volumes o
      → blocks_at (beside (volume_kept c to) c.volumes vs) (option_map (rank (volume_kept c to) c.volumes) o) ≡ blocks_at vs o
  blocks_kept vs None h = refl
  blocks_kept vs (Some k) h = index_beside (volume_kept c to) c.volumes vs k [] (passes_row (volume_kept c to) c.volumes k h.0 h.1 ∙ h.2)

  pub drive_kept : (vs : Volumes) → blocks_at (beside (volume_kept c to) c.volumes vs) (place_of (is_on_drive drive) (filter (volume_kept c to) c.volumes)) ≡ blocks_at vs (place_of (is_on_drive drive) c.volumes)
  drive_kept vs =
      ap (blocks_at (beside (volume_kept c to) c.volumes vs)) drive_place
      ∙ blocks_kept vs (place_of (is_on_drive drive) c.volumes) (first_stands (is_on_drive drive) (λ (v : VolumeRow). volume_kept c to v ≡ true) c.volumes on_drive_kept)

pub drive_kept_from : (m : Moment) (es : List Event) (n : ℕ) → Fits m.config m.state → (to : AccessClass) (drive : ℕ) → DriveFlowsInto m.config drive to
    → drive_blocks_from (purged_moment m to) (purge_events m.config es to) n drive ≡ drive_blocks_from m es n drive
drive_kept_from m es n fits to drive flow =
    ap (λ (k : Moment). blocks_at k.state.volumes (place_of (is_on_drive drive) (filter (volume_kept m.config to) m.config.volumes))) (moment_kept m es n fits to)
    ∙ drive_kept m.config to drive flow (rounds_from m es n).now.volumes

pub keeps_drives : KeepsDrives
keeps_drives x to drive is flow = ap (λ (m : Moment). drive_blocks_from m (purge_events x.config x.events to) x.rounds drive) (opening_kept x to is) ∙ drive_kept_from (opening x) x.events x.rounds (opening_fits x to is) to drive flow
