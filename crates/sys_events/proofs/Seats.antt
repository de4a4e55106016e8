-- The server's verdict, and what it makes of its arrays, are those of the lists of terminals and guests that exist.
use Rattle.std.proofs.Common.{ℕ, ◌≡◌, ◌<◌, List, [], length, map, take, drop, slice_get, slice_set, slice_index_or, refl, sym, ◌∙◌, ap, subst, arith, Bool, false, not, ◌&&◌, Option, Some, None}
use Rattle.std.specs.Prelude.{All, IfSome}
use Rattle.std.specs.List.{position}
use Rattle.std.proofs.lemmas.List.{get_or-take, length-set, length-map, take-map, drop-map, drop-set-lt}
use Rattle.std.proofs.lemmas.List.Elements.{All-map, All-set}
use Rattle.vv_class.specs.declared.class.AccessClass.{AccessClass}
use Rattle.sys_events.proofs.Lists.{first_in_front, take_set, within_get}
use Rattle.sys_events.specs.Seats.{IsServer, Names, VerdictNames, seated, took}
use Rattle.sys_guests.specs.Kernel.{AreUnits}
use Rattle.sys_objects.specs.Rules.{same_class}
use Rattle.sys_objects.specs.declared.records.Config.{Config}
use Rattle.sys_objects.specs.declared.records.GuestRow.{GuestRow}
use Rattle.sys_objects.specs.declared.records.Mount.{Mount as Mounted}
use Rattle.sys_objects.specs.declared.records.Terminal.{Terminal}
use Rattle.sys_objects.specs.declared.records.VolumeRow.{VolumeRow}
use Rattle.sys_state.proofs.Places.{both}
use Rattle.sys_server.specs.Apply.{HasPlaces, applied, freed, taken, with_mount}
use Rattle.sys_objects.specs.Places.{is_at}
use Rattle.sys_server.specs.CommandLine.{asked_in}
use Rattle.sys_server.specs.Verdict.{judged, judged_at, judged_line, mount_at, on_dismount, on_guest, on_mount, on_row, on_rows, unless_empty, verdict_of, visible_guest_place, visible_volume_place}
use Rattle.sys_server.specs.declared.command.NamedCommand.{NamedCommand}
use Rattle.sys_server.specs.declared.command.NamedCommand.TheVariants.{Connect, Start, Halt, Mount, Dismount, Show}
use Rattle.sys_server.specs.declared.command.Command.{Command}
use Rattle.sys_server.specs.declared.command.Command.TheVariants as to_
use Rattle.sys_server.specs.declared.command.ServerState.{ServerState}
use Rattle.sys_server.specs.declared.command.Verdict.{Verdict}
use Rattle.sys_server.specs.declared.command.Verdict.TheVariants.{Granted, BadCommand, NoSuchObject, Denied}

module _ (c : Config) where
  -- the guest of a granted command is one of the configuration, and so is the volume
  names_row : (class : AccessClass) (g : ℕ) (command : Command) → (g < length c.guests → Names c command) → (o : Option GuestRow) → slice_get c.guests g ≡ o → VerdictNames c (on_row class o command)
  names_row class g command k None at = tt
  names_row class g command k (Some row) at = both (same_class row.class class) (λ e. rw e (k (within_get c.guests g row at))) (λ e. rw e tt)

  names_guest : (class : AccessClass) (command : ℕ → Command) → ((g : ℕ) → g < length c.guests → Names c (command g)) → (o : Option ℕ) → VerdictNames c (on_guest c.guests class o command)
  names_guest class command k None = tt
  names_guest class command k (Some g) = names_row class g (command g) (k g) (slice_get c.guests g) refl

  names_rows : (class : AccessClass) (write : Bool) (g unit v : ℕ) (r : Option GuestRow) (o : Option VolumeRow) → slice_get c.guests g ≡ r → slice_get c.volumes v ≡ o
      → VerdictNames c (on_rows class write r o (to_.MountAt g unit (record { volume = v; write = write })))
  names_rows class write g unit v None None at there = tt
  names_rows class write g unit v None (Some volume) at there = tt
  names_rows class write g unit v (Some row) None at there = tt
  names_rows class write g unit v (Some row) (Some volume) at there = both (same_class row.class class)
      (λ e. both (write && not (same_class volume.class class))
      (λ b. rw (e, b) tt)
      (λ b. rw (e, b) (within_get c.guests g row at, within_get c.volumes v volume there)))
      (λ e. rw e tt)

  names_mount : (class : AccessClass) (unit : ℕ) (write : Bool) (o u : Option ℕ) → VerdictNames c (on_mount c class o unit u write)
  names_mount class unit write None None = tt
  names_mount class unit write None (Some v) = tt
  names_mount class unit write (Some g) None = tt
  names_mount class unit write (Some g) (Some v) = names_rows class write g unit v (slice_get c.guests g) (slice_get c.volumes v) refl refl

  names_unless : (m : Option Mounted) (v : Verdict) → VerdictNames c v → VerdictNames c (unless_empty m v)
  names_unless None (Granted command) f = tt
  names_unless None BadCommand f = tt
  names_unless None NoSuchObject f = tt
  names_unless None (Denied rule) f = tt
  names_unless (Some m) (Granted command) f = f
  names_unless (Some m) BadCommand f = tt
  names_unless (Some m) NoSuchObject f = tt
  names_unless (Some m) (Denied rule) f = tt

  names_dismount : (s : ServerState) (class : AccessClass) (unit : ℕ) (o : Option ℕ) → VerdictNames c (on_dismount c s class o unit)
  names_dismount s class unit None = tt
  names_dismount s class unit (Some g) = names_unless (mount_at s g unit) (on_row class (slice_get c.guests g) (to_.Dismount g unit))
      (names_row class g (to_.Dismount g unit) (λ h. h) (slice_get c.guests g) refl)

  names_asked : (s : ServerState) (class : AccessClass) (asked : Option NamedCommand) → VerdictNames c (judged_line c s class asked)
  unfolding judged
  names_asked s class None = tt
  names_asked s class (Some (Connect vm)) = names_guest class to_.Connect (λ g h. h) (visible_guest_place c.guests class vm)
  names_asked s class (Some (Start vm)) = names_guest class to_.Start (λ g h. h) (visible_guest_place c.guests class vm)
  names_asked s class (Some (Halt vm)) = names_guest class to_.Halt (λ g h. h) (visible_guest_place c.guests class vm)
  names_asked s class (Some (Mount vm unit volume write)) = names_mount class unit write (visible_guest_place c.guests class vm) (visible_volume_place c.volumes class volume)
  names_asked s class (Some (Dismount vm unit)) = names_dismount s class unit (visible_guest_place c.guests class vm)
  names_asked s class (Some Show) = tt

  names_at : (s : ServerState) (o : Option Terminal) (text : List ℕ) → VerdictNames c (judged_at c s o text)
  names_at s None text = tt
  names_at s (Some t) text = names_asked s t.class (asked_in text)

  pub verdict_names : (s : ServerState) (n : ℕ) (text : List ℕ) → VerdictNames c (verdict_of c s n text)
  verdict_names s n text = names_at s (slice_get c.terminals n) text

  -- the verdict reads mounts of guests that exist alone, and nothing else of the server's state
  empty_either : (m m' : Option Mounted) → unless_empty m NoSuchObject ≡ unless_empty m' NoSuchObject
  empty_either None None = refl
  empty_either None (Some m) = refl
  empty_either (Some m) None = refl
  empty_either (Some m) (Some m') = refl

  module _ (s : ServerState) (running : List Bool) where
    same_mounts : (g : ℕ) → g < length c.guests → slice_index_or (take (length c.guests) s.mounts) g [] ≡ slice_index_or s.mounts g []
    same_mounts g h = get_or-take (length c.guests) s.mounts g [] h

    same_row : (class : AccessClass) (g unit : ℕ) (o : Option GuestRow) → slice_get c.guests g ≡ o
        → unless_empty (mount_at (seated c s running) g unit) (on_row class o (to_.Dismount g unit)) ≡ unless_empty (mount_at s g unit) (on_row class o (to_.Dismount g unit))
    same_row class g unit None at = empty_either (mount_at (seated c s running) g unit) (mount_at s g unit)
    same_row class g unit (Some row) at =
        ap (λ (ms : List (Option Mounted)). unless_empty (slice_index_or ms unit None) (on_row class (Some row) (to_.Dismount g unit))) (same_mounts g (within_get c.guests g row at))

    same_dismount : (class : AccessClass) (unit : ℕ) (o : Option ℕ) → on_dismount c (seated c s running) class o unit ≡ on_dismount c s class o unit
    same_dismount class unit None = refl
    same_dismount class unit (Some g) = same_row class g unit (slice_get c.guests g) refl

    same_line : (class : AccessClass) (asked : Option NamedCommand) → judged_line c (seated c s running) class asked ≡ judged_line c s class asked
    unfolding judged
    same_line class None = refl
    same_line class (Some (Connect vm)) = refl
    same_line class (Some (Start vm)) = refl
    same_line class (Some (Halt vm)) = refl
    same_line class (Some (Mount vm unit volume write)) = refl
    same_line class (Some (Dismount vm unit)) = same_dismount class unit (visible_guest_place c.guests class vm)
    same_line class (Some Show) = refl

    same_at : (o : Option Terminal) (text : List ℕ) → judged_at c (seated c s running) o text ≡ judged_at c s o text
    same_at None text = refl
    same_at (Some t) text = same_line t.class (asked_in text)

    pub same_verdict : (n : ℕ) (text : List ℕ) → verdict_of c (seated c s running) n text ≡ verdict_of c s n text
    same_verdict n text = same_at (slice_get c.terminals n) text

    -- no terminal beyond those that exist has a guest
    none_beyond : IsServer c s → (n : ℕ) → n < length c.terminals → (g k : ℕ) (d : Option ℕ) → k < length (drop (length c.terminals) (slice_set s.at n None)) → is_at g (slice_index_or (drop (length c.terminals) (slice_set s.at n None)) k d) ≡ false
    none_beyond h n there g k d within =
        let same : drop (length c.terminals) (slice_set s.at n None) ≡ drop (length c.terminals) s.at = drop-set-lt (length c.terminals) s.at n None there in
        let none = subst (λ (os : List (Option ℕ)). All (λ o. o ≡ None) os) (sym same) h.beyond in
        ap (is_at g) (none k d within)

    taken_seat : IsServer c s → (n : ℕ) → n < length c.terminals → (g : ℕ) → position (is_at g) (slice_set (take (length c.terminals) s.at) n None) ≡ position (is_at g) (slice_set s.at n None)
    taken_seat h n there g =
        ap (position (is_at g)) (sym (take_set (length c.terminals) s.at n None)) ∙ first_in_front (is_at g) (length c.terminals) (slice_set s.at n None) (none_beyond h n there g)

    same_taken : IsServer c s → (n : ℕ) → n < length c.terminals → (command : Command) → taken (seated c s running) n command ≡ taken s n command
    unfolding taken
    same_taken h n there (to_.Connect g) = taken_seat h n there g
    same_taken h n there (to_.Start g) = refl
    same_taken h n there (to_.Halt g) = refl
    same_taken h n there (to_.MountAt g unit mount) = refl
    same_taken h n there (to_.Dismount g unit) = refl
    same_taken h n there to_.Show = refl

    pub same_took : IsServer c s → (n : ℕ) → n < length c.terminals → (v : Verdict) → took (seated c s running) n v ≡ took s n v
    same_took h n there (Granted command) = same_taken h n there command
    same_took h n there BadCommand = refl
    same_took h n there NoSuchObject = refl
    same_took h n there (Denied rule) = refl

    -- what a command makes of the arrays, it makes of the lists
    pub same_consoles : (n : ℕ) (command : Command) → take (length c.terminals) (applied s n command).at ≡ (applied (seated c s running) n command).at
    unfolding applied
    same_consoles n (to_.Connect g) =
        take_set (length c.terminals) (map (freed g) s.at) n (Some g) ∙ ap (λ (os : List (Option ℕ)). slice_set os n (Some g)) (take-map (freed g) (length c.terminals) s.at)
    same_consoles n (to_.Start g) = refl
    same_consoles n (to_.Halt g) = refl
    same_consoles n (to_.MountAt g unit mount) = refl
    same_consoles n (to_.Dismount g unit) = refl
    same_consoles n to_.Show = refl

    mounted : (g unit : ℕ) (mount : Option Mounted) → g < length c.guests → take (length c.guests) (with_mount s.mounts g unit mount) ≡ with_mount (seated c s running).mounts g unit mount
    mounted g unit mount there =
        take_set (length c.guests) s.mounts g (slice_set (slice_index_or s.mounts g []) unit mount)
        ∙ ap (λ (ms : List (Option Mounted)). slice_set (take (length c.guests) s.mounts) g (slice_set ms unit mount)) (sym (same_mounts g there))

    pub same_units : (n : ℕ) (command : Command) → Names c command → take (length c.guests) (applied s n command).mounts ≡ (applied (seated c s running) n command).mounts
    unfolding applied
    same_units n (to_.Connect g) names = refl
    same_units n (to_.Start g) names = refl
    same_units n (to_.Halt g) names = refl
    same_units n (to_.MountAt g unit mount) names = mounted g unit (Some mount) names.0
    same_units n (to_.Dismount g unit) names = mounted g unit None names
    same_units n to_.Show names = refl

  -- it stays a server
  freed_names : (g : ℕ) (o : Option ℕ) → IfSome o (λ k. k < length c.guests) → IfSome (freed g o) (λ k. k < length c.guests)
  freed_names g o h = both (is_at g o) (λ e. rw e tt) (λ e. rw e h)

  freed_none : (g : ℕ) (o : Option ℕ) → o ≡ None → freed g o ≡ None
  freed_none g o e = ap (freed g) e

  console_set : (s : ServerState) (n : ℕ) (os : List (Option ℕ)) (o : Option ℕ) → n < length c.terminals → length os ≡ 32 → All (λ o. IfSome o (λ k. k < length c.guests)) os → All (λ o. o ≡ None) (drop (length c.terminals) os)
      → IfSome o (λ k. k < length c.guests) → IsServer c s → IsServer c (record s { at = slice_set os n o })
  console_set s n os o there long all none one h = record {
    terminals = length-set os n o ∙ long;
    guests = h.guests;
    consoles = All-set (λ (o : Option ℕ). IfSome o (λ k. k < length c.guests)) os n o one all;
    beyond = subst (λ (xs : List (Option ℕ)). All (λ o. o ≡ None) xs) (sym (drop-set-lt (length c.terminals) os n o there)) none;
    mounts = h.mounts;
  }

  pub disconnected : (s : ServerState) (n : ℕ) → n < length c.terminals → IsServer c s → IsServer c (record s { at = slice_set s.at n None })
  disconnected s n there h = console_set s n s.at None there h.terminals h.consoles h.beyond tt h

  all_freed : (s : ServerState) (g : ℕ) → IsServer c s → All (λ o. IfSome o (λ k. k < length c.guests)) (map (freed g) s.at)
  all_freed s g h = All-map (λ (o : Option ℕ). IfSome o (λ k. k < length c.guests)) (freed g) s.at (λ k d within. freed_names g (slice_index_or s.at k d) (h.consoles k d within))

  none_freed : (s : ServerState) (g : ℕ) → IsServer c s → All (λ o. o ≡ None) (drop (length c.terminals) (map (freed g) s.at))
  none_freed s g h =
      let rest = drop (length c.terminals) s.at in
      subst (λ (os : List (Option ℕ)). All (λ o. o ≡ None) os) (sym (drop-map (freed g) (length c.terminals) s.at))
      (All-map (λ (o : Option ℕ). o ≡ None) (freed g) rest (λ k d within. freed_none g (slice_index_or rest k d) (h.beyond k d within)))

  unit_set : (ms : List (Option Mounted)) (unit : ℕ) (m : Option Mounted) → IfSome m (λ n. n.volume < length c.volumes) → AreUnits (length c.volumes) ms → AreUnits (length c.volumes) (slice_set ms unit m)
  unit_set ms unit m one are = record {
    four = length-set ms unit m ∙ are.four;
    mounted = All-set (λ (m : Option Mounted). IfSome m (λ (n : Mounted). n.volume < length c.volumes)) ms unit m one are.mounted;
  }

  mount_set : (s : ServerState) (g unit : ℕ) (m : Option Mounted) → g < 16 → IfSome m (λ n. n.volume < length c.volumes) → IsServer c s → IsServer c (record s { mounts = with_mount s.mounts g unit m })
  mount_set s g unit m there one h =
      let units : List (Option Mounted) = slice_index_or s.mounts g [] in
      let within : g < length s.mounts = omega (arith, there, h.guests) in
      record {
        terminals = h.terminals;
        guests = length-set s.mounts g (slice_set units unit m) ∙ h.guests;
        consoles = h.consoles;
        beyond = h.beyond;
        mounts = All-set (AreUnits (length c.volumes)) s.mounts g (slice_set units unit m) (unit_set units unit m one (h.mounts g [] within)) h.mounts;
      }

  pub still_server : (s : ServerState) (n : ℕ) (command : Command) → n < length c.terminals → HasPlaces command → Names c command → IsServer c s → IsServer c (applied s n command)
  unfolding applied
  still_server s n (to_.Connect g) there places names h =
      console_set s n (map (freed g) s.at) (Some g) there (length-map s.at (freed g) ∙ h.terminals) (all_freed s g h) (none_freed s g h) names h
  still_server s n (to_.Start g) there places names h = record { terminals = h.terminals; guests = h.guests; consoles = h.consoles; beyond = h.beyond; mounts = h.mounts }
  still_server s n (to_.Halt g) there places names h = record { terminals = h.terminals; guests = h.guests; consoles = h.consoles; beyond = h.beyond; mounts = h.mounts }
  still_server s n (to_.MountAt g unit mount) there places names h = mount_set s g unit (Some mount) places.0 names.1 h
  still_server s n (to_.Dismount g unit) there places names h = mount_set s g unit None places.0 tt h
  still_server s n to_.Show there places names h = h
