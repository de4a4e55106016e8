-- What far devices get of two runs of one configuration.
use Rattle.std.proofs.Common.{◌≡◌, ◌≢◌, ℕ, suc, List, [], ◌∷◌, ◌++◌, map, filter, Bool, true, refl, sym, ap, ◌∙◌, subst, get_or, Option, Some, None, slice_get}
use Rattle.std.proofs.lemmas.Bool.{eqb-true, false≢true}
use Rattle.sys_flow.specs.Reach.{IsGuestAt, IsPrinterAt, IsTerminalAt, IsTheAudit, IsVolumeAt, ObjectPlace}
use Rattle.vvmm_laws.proofs.Agree.{AgreeFrom, agree_beside, agree_index, agree_places, agree_refl}
use Rattle.vvmm_laws.proofs.Commands.{Alike, alike_refl, alike_sym, alike_trans}
use Rattle.vvmm_laws.proofs.Events.{GoesOn}
use Rattle.vvmm_laws.proofs.Far.{IsFarLine, far_guest, far_terminal, far_volume}
use Rattle.vvmm_laws.proofs.Held.{first_kept}
use Rattle.vvmm_laws.proofs.Lines.{Distinct, audit_silent, distinct, dump_silent, nobody_silent, one_place, printer_silent, terminal_silent}
use Rattle.vvmm_laws.proofs.Rounds.{rounds_alike}
use Rattle.vvmm_laws.specs.Reach.{AgreeAt, ClosedSetsAreApart, IsClosed, SameDevice, SameDrive, SameOn, is_far_event, line_of_audit, line_of_guest, line_of_printer, line_of_terminal}
use Rattle.sys_objects.specs.Condition.{IsConfig}
use Rattle.sys_objects.specs.declared.records.Audit.{Audit}
use Rattle.sys_objects.specs.declared.records.Config.{Config}
use Rattle.sys_objects.specs.declared.records.GuestRow.{GuestRow}
use Rattle.sys_objects.specs.declared.records.PrinterRow.{PrinterRow}
use Rattle.sys_objects.specs.declared.records.Terminal.{Terminal}
use Rattle.sys_objects.specs.declared.records.VolumeRow.{VolumeRow}
use Rattle.sys_purge.proofs.Kept.{both, pairs_map}
use Rattle.sys_purge.proofs.Places.{StandFrom, StandsAt, first_stands, stand_all}
use Rattle.sys_script.specs.declared.event.Event.{Event}
use Rattle.sys_state.specs.Bytes.{blocks_at, dump_on, is_on_drive}
use Rattle.sys_state.specs.Dump.{dump_of}
use Rattle.sys_state.specs.Guests.{powered}
use Rattle.sys_state.specs.Places.{place_of}
use Rattle.sys_objects.specs.Places.{is_at}
use Rattle.sys_state.specs.Run.{Input, first_state, rounds}
use Rattle.sys_state.specs.State.{SystemState, Went, bytes_on}
use Rattle.vm_state.specs.State.{Guest}

abbrev Volumes : Type 0
Volumes = List (List (List ℕ))

place_is : (line : ℕ) (o : Option ℕ) → is_at line o ≡ true → o ≡ Some line
place_is line None e = absurd (false≢true e)
place_is line (Some n) e = ap Some (eqb-true n line e)

module _ (c : Config) (is : IsConfig c) (far : ObjectPlace → Bool) (closed : IsClosed c far) where
  -- the dump on a far line
  dump_alike : (line : ℕ) → IsFarLine c far line → (i : ℕ) (rows : List GuestRow) → StandFrom c.guests i rows → (gs hs : List Guest) → AgreeFrom (far_guest c far) i gs hs → dump_on line rows gs ≡ dump_on line rows hs
  dump_alike line silent i [] stand gs hs a = refl
  dump_alike line silent i (row ∷ rows) stand [] [] a = refl
  dump_alike line silent i (row ∷ rows) stand [] (h ∷ hs) a = absurd a
  dump_alike line silent i (row ∷ rows) stand (g ∷ gs) [] a = absurd a
  dump_alike line silent i (row ∷ rows) stand (g ∷ gs) (h ∷ hs) a =
      let rest = dump_alike line silent (suc i) rows stand.1 gs hs a.1 in
      both (is_at line row.dump)
      (λ e. let same = a.0 (silent.dumps i row stand.0 (place_is line row.dump e)) in rw e (ap (dump_of row.name) same))
      (λ e. rw e rest)

  -- the blocks on a far volume's drive
  on_its_drive : (v : ℕ) (row : VolumeRow) → slice_get c.volumes v ≡ Some row → (o : Option ℕ) → StandsAt (λ (w : VolumeRow). w.drive ≡ row.drive) c.volumes o → far_volume c far v ≡ true
      → (vs us : Volumes) → AgreeFrom (far_volume c far) 0 vs us → blocks_at vs o ≡ blocks_at us o
  on_its_drive v row at None h f vs us a = refl
  on_its_drive v row at (Some j) h f vs us a =
      let drive : VolumeRow → ℕ = λ w. w.drive in
      let apart : Distinct (map drive c.volumes) = distinct (map drive c.volumes) (pairs_map (λ (x y : VolumeRow). x.drive ≢ y.drive) (λ (x y : ℕ). x ≢ y) drive (λ x y e. e) c.volumes is.drives) in
      let same : j ≡ v = one_place drive c.volumes apart j v h.0 row h.1 at h.2 in
      agree_index (far_volume c far) vs us a j [] (ap (far_volume c far) same ∙ f)

  module _ (n : ℕ) (es fs : List Event) (images images' : List (List ℕ)) (volumes volumes' : Volumes)
      (events : filter (is_far_event c far) es ≡ filter (is_far_event c far) fs)
      (same_images : AgreeAt (far_guest c far) images images')
      (same_volumes : AgreeAt (far_volume c far) volumes volumes') where
    abbrev left : SystemState
    left = first_state c images volumes

    abbrev right : SystemState
    right = first_state c images' volumes'

    abbrev one : Went SystemState
    one = rounds c 1 n es left

    abbrev other : Went SystemState
    other = rounds c 1 n fs right

    first_alike : Alike c far left right
    first_alike = record {
      connected = agree_refl (far_terminal c far) 0 left.connected;
      mounts = agree_refl (far_guest c far) 0 left.mounts;
      guests = agree_beside (far_guest c far) 0 powered c.guests images images' (agree_places (far_guest c far) images images' same_images.0 same_images.1);
      volumes = agree_places (far_volume c far) volumes volumes' same_volumes.0 same_volumes.1;
    }

    runs_alike : (line : ℕ) → IsFarLine c far line → GoesOn c far closed line one other
    runs_alike line silent =
        let p = first_kept c far is.held images volumes in
        let q = first_kept c far is.held images' volumes' in
        let x = rounds_alike c far closed line silent 1 n es left right first_alike p q in
        let y = rounds_alike c far closed line silent 1 n fs right right (alike_refl c far right) q q in
        let z : Went SystemState = rounds c 1 n (filter (is_far_event c far) fs) right in
        let x' : GoesOn c far closed line one z = subst (λ (xs : List Event). GoesOn c far closed line one (rounds c 1 n xs right)) events x in
        record { now = alike_trans c far one.now z.now other.now x'.now (alike_sym c far other.now z.now y.now); bytes = x'.bytes ∙ sym y.bytes }

    line_alike : (line : ℕ) → IsFarLine c far line → bytes_on line one.puts ++ dump_on line c.guests one.now.guests ≡ bytes_on line other.puts ++ dump_on line c.guests other.now.guests
    line_alike line silent =
        let all = runs_alike line silent in
        let shown = all.bytes in
        let dump = dump_alike line silent 0 c.guests (stand_all c.guests) one.now.guests other.now.guests all.now.guests in
        λ i. shown i ++ dump i

    drive_alike : (v : ℕ) (row : VolumeRow) → slice_get c.volumes v ≡ Some row → far_volume c far v ≡ true
        → blocks_at one.now.volumes (place_of (is_on_drive row.drive) c.volumes) ≡ blocks_at other.now.volumes (place_of (is_on_drive row.drive) c.volumes)
    drive_alike v row at f =
        let all = runs_alike 32 (nobody_silent c is far) in
        on_its_drive v row at (place_of (is_on_drive row.drive) c.volumes)
        (first_stands (is_on_drive row.drive) (λ (w : VolumeRow). w.drive ≡ row.drive) c.volumes (λ k d within e. eqb-true (get_or c.volumes k d).drive row.drive e))
        f one.now.volumes other.now.volumes all.now.volumes

    abbrev here : Input
    here = record { config = c; images = images; volumes = volumes; events = es; rounds = n }

    abbrev there : Input
    there = record { config = c; images = images'; volumes = volumes'; events = fs; rounds = n }

    terminal_same : (k : ℕ) (o : Option Terminal) → slice_get c.terminals k ≡ o → far (IsTerminalAt k) ≡ true → SameOn (line_of_terminal o) here there
    terminal_same k None at f = tt
    terminal_same k (Some t) at f = line_alike t.line (terminal_silent c is far k t at f)

    printer_same : (k : ℕ) (o : Option PrinterRow) → slice_get c.printers k ≡ o → far (IsPrinterAt k) ≡ true → SameOn (line_of_printer o) here there
    printer_same k None at f = tt
    printer_same k (Some q) at f = line_alike q.line (printer_silent c is far k q at f)

    dump_same : (g : ℕ) (row : GuestRow) → slice_get c.guests g ≡ Some row → far (IsGuestAt g) ≡ true → (o : Option ℕ) → row.dump ≡ o → SameOn o here there
    dump_same g row at f None e = tt
    dump_same g row at f (Some line) e = line_alike line (dump_silent c is far g row line at e f)

    guest_same : (g : ℕ) (o : Option GuestRow) → slice_get c.guests g ≡ o → far (IsGuestAt g) ≡ true → SameOn (line_of_guest o) here there
    guest_same g None at f = tt
    guest_same g (Some row) at f = dump_same g row at f row.dump refl

    audit_same : (o : Option Audit) → c.audit ≡ o → far IsTheAudit ≡ true → SameOn (line_of_audit o) here there
    audit_same None at f = tt
    audit_same (Some a) at f = line_alike a.line (audit_silent c is far a at f)

    volume_same : (v : ℕ) (o : Option VolumeRow) → slice_get c.volumes v ≡ o → far (IsVolumeAt v) ≡ true → SameDrive o here there
    volume_same v None at f = tt
    volume_same v (Some row) at f = drive_alike v row at f

    pub device_same : (b : ObjectPlace) → far b ≡ true → SameDevice b here there
    device_same (IsTerminalAt k) f = terminal_same k (slice_get c.terminals k) refl f
    device_same (IsVolumeAt v) f = volume_same v (slice_get c.volumes v) refl f
    device_same (IsPrinterAt k) f = printer_same k (slice_get c.printers k) refl f
    device_same (IsGuestAt g) f = guest_same g (slice_get c.guests g) refl f
    device_same IsTheAudit f = audit_same c.audit refl f

pub closed_sets_are_apart : ClosedSetsAreApart
closed_sets_are_apart x y far b is closed agree f =
    let config = agree.config in
    let count = agree.rounds in
    let there : Input = record { config = x.config; images = y.images; volumes = y.volumes; events = y.events; rounds = x.rounds } in
    let same : there ≡ y = λ i. record { config = config i; images = y.images; volumes = y.volumes; events = y.events; rounds = count i } in
    subst (SameDevice b x) same (device_same x.config is far closed x.rounds x.events y.events x.images y.images x.volumes y.volumes agree.events agree.images agree.volumes b f)
