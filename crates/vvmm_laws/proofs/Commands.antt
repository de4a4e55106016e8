-- Commands at terminals that aren't far leave far objects as they are; at far terminals they do the same in states that
-- agree there.
use Rattle.std.proofs.Common.{◌≡◌, ℕ, List, [], map, Bool, true, false, refl, sym, ap, ◌∙◌, subst, Option, Some, None, slice_get, slice_set, slice_index_or}
use Rattle.sys_flow.specs.Reach.{ObjectPlace}
use Rattle.vvmm_laws.proofs.Agree.{AgreeFrom, agree_changed, agree_index, agree_map, agree_refl, agree_set, agree_sym, agree_trans, agree_unchanged, agree_unset}
use Rattle.vvmm_laws.proofs.Connected.{freed_near}
use Rattle.vvmm_laws.proofs.Far.{alike_far, far_guest, far_terminal, far_volume, holds_far}
use Rattle.vvmm_laws.proofs.Held.{Kept}
use Rattle.vvmm_laws.specs.Reach.{IsClosed}
use Rattle.sys_objects.specs.Rules.{same_class}
use Rattle.sys_objects.specs.declared.records.Config.{Config}
use Rattle.sys_objects.specs.declared.records.GuestRow.{GuestRow}
use Rattle.sys_objects.specs.declared.records.Mount.{Mount as Mounted}
use Rattle.sys_objects.specs.declared.records.Terminal.{Terminal}
use Rattle.sys_purge.proofs.Accepted.{same_is}
use Rattle.sys_purge.proofs.Beside.{set_is_changed}
use Rattle.sys_purge.proofs.Fits.{CommandFits, VerdictFits}
use Rattle.sys_purge.proofs.Kept.{both}
use Rattle.sys_purge.proofs.Places.{stand_all}
use Rattle.sys_state.specs.Events.{after_verdict, obeyed, reset_by}
use Rattle.sys_state.specs.Guests.{stopped_by_command}
use Rattle.sys_state.specs.Places.{changed}
use Rattle.sys_state.specs.State.{SystemState, server_of}
use Rattle.sys_server.specs.Apply.{freed}
use Rattle.sys_server.specs.CommandLine.{asked_in}
use Rattle.sys_server.specs.Verdict.{judged, judged_line, mount_at, on_dismount, on_row, unless_empty, verdict_of, visible_guest_place}
use Rattle.sys_server.specs.declared.command.NamedCommand.{NamedCommand}
use Rattle.sys_server.specs.declared.command.NamedCommand.TheVariants as asks
use Rattle.sys_server.specs.declared.command.Command.{Command}
use Rattle.sys_server.specs.declared.command.Command.TheVariants.{Connect, Start, Halt, MountAt, Dismount, Show}
use Rattle.sys_server.specs.declared.command.Rule.TheVariants.{Equal}
use Rattle.sys_server.specs.declared.command.Verdict.{Verdict}
use Rattle.sys_server.specs.declared.command.Verdict.TheVariants.{Granted, BadCommand, NoSuchObject, Denied}

module _ (c : Config) (far : ObjectPlace → Bool) where
  -- two states agree at far objects
  pub record Alike (s t : SystemState) : Type 0 where
    pub connected : AgreeFrom (far_terminal c far) 0 s.connected t.connected
    pub mounts : AgreeFrom (far_guest c far) 0 s.mounts t.mounts
    pub guests : AgreeFrom (far_guest c far) 0 s.guests t.guests
    pub volumes : AgreeFrom (far_volume c far) 0 s.volumes t.volumes

  pub alike_refl : (s : SystemState) → Alike s s
  alike_refl s = record {
    connected = agree_refl (far_terminal c far) 0 s.connected;
    mounts = agree_refl (far_guest c far) 0 s.mounts;
    guests = agree_refl (far_guest c far) 0 s.guests;
    volumes = agree_refl (far_volume c far) 0 s.volumes;
  }

  pub alike_sym : (s t : SystemState) → Alike s t → Alike t s
  alike_sym s t a = record {
    connected = agree_sym (far_terminal c far) 0 s.connected t.connected a.connected;
    mounts = agree_sym (far_guest c far) 0 s.mounts t.mounts a.mounts;
    guests = agree_sym (far_guest c far) 0 s.guests t.guests a.guests;
    volumes = agree_sym (far_volume c far) 0 s.volumes t.volumes a.volumes;
  }

  pub alike_trans : (s t u : SystemState) → Alike s t → Alike t u → Alike s u
  alike_trans s t u a b = record {
    connected = agree_trans (far_terminal c far) 0 s.connected t.connected u.connected a.connected b.connected;
    mounts = agree_trans (far_guest c far) 0 s.mounts t.mounts u.mounts a.mounts b.mounts;
    guests = agree_trans (far_guest c far) 0 s.guests t.guests u.guests a.guests b.guests;
    volumes = agree_trans (far_volume c far) 0 s.volumes t.volumes u.volumes a.volumes b.volumes;
  }

  -- a mount at a unit, of both and of one
  abbrev at_unit : ℕ → Option Mounted → List (Option Mounted) → List (Option Mounted)
  at_unit unit m ms = slice_set ms unit m

  mounts_alike : (g unit : ℕ) (m : Option Mounted) (xs ys : List (List (Option Mounted))) → AgreeFrom (far_guest c far) 0 xs ys
      → AgreeFrom (far_guest c far) 0 (slice_set xs g (slice_set (slice_index_or xs g []) unit m)) (slice_set ys g (slice_set (slice_index_or ys g []) unit m))
  mounts_alike g unit m xs ys a =
      let left = sym (set_is_changed (at_unit unit m) xs g []) in
      let right = sym (set_is_changed (at_unit unit m) ys g []) in
      subst (λ us. AgreeFrom (far_guest c far) 0 us (slice_set ys g (slice_set (slice_index_or ys g []) unit m))) left
      (subst (λ us. AgreeFrom (far_guest c far) 0 (changed (at_unit unit m) xs g) us) right (agree_changed (far_guest c far) 0 (at_unit unit m) xs ys a g))

  mounts_quiet : (g unit : ℕ) (m : Option Mounted) (xs : List (List (Option Mounted))) → far_guest c far g ≡ false → AgreeFrom (far_guest c far) 0 xs (slice_set xs g (slice_set (slice_index_or xs g []) unit m))
  mounts_quiet g unit m xs n = subst (AgreeFrom (far_guest c far) 0 xs) (sym (set_is_changed (at_unit unit m) xs g [])) (agree_unchanged (far_guest c far) (at_unit unit m) xs g n)

  -- a command is obeyed alike
  same_obeyed : (s t : SystemState) → Alike s t → (n : ℕ) (k : Terminal) (command : Command) → Alike (obeyed c s n k command).now (obeyed c t n k command).now
  same_obeyed s t a n k (Connect g) = record {
    connected = agree_set (far_terminal c far) 0 (map (freed g) s.connected) (map (freed g) t.connected) (agree_map (far_terminal c far) 0 (freed g) s.connected t.connected a.connected) n (Some g);
    mounts = a.mounts;
    guests = a.guests;
    volumes = a.volumes;
  }
  same_obeyed s t a n k (Start g) = record { connected = a.connected; mounts = a.mounts; guests = agree_changed (far_guest c far) 0 (reset_by (slice_get c.guests g)) s.guests t.guests a.guests g; volumes = a.volumes }
  same_obeyed s t a n k (Halt g) = record { connected = a.connected; mounts = a.mounts; guests = agree_changed (far_guest c far) 0 stopped_by_command s.guests t.guests a.guests g; volumes = a.volumes }
  same_obeyed s t a n k (MountAt g unit m) = record { connected = a.connected; mounts = mounts_alike g unit (Some m) s.mounts t.mounts a.mounts; guests = a.guests; volumes = a.volumes }
  same_obeyed s t a n k (Dismount g unit) = record { connected = a.connected; mounts = mounts_alike g unit None s.mounts t.mounts a.mounts; guests = a.guests; volumes = a.volumes }
  same_obeyed s t a n k Show = a

  pub same_after : (s t : SystemState) → Alike s t → (n : ℕ) (k : Terminal) (v : Verdict) → Alike (after_verdict c s n k v).now (after_verdict c t n k v).now
  same_after s t a n k (Granted command) = same_obeyed s t a n k command
  same_after s t a n k BadCommand = a
  same_after s t a n k NoSuchObject = a
  same_after s t a n k (Denied rule) = a

  module _ (closed : IsClosed c far) where
    -- a command at a terminal that isn't far
    quiet_obeyed : (s : SystemState) → Kept c far s → (n : ℕ) (k : Terminal) → slice_get c.terminals n ≡ Some k → far_terminal c far n ≡ false → (command : Command) → CommandFits c k.class command → Alike s (obeyed c s n k command).now
    quiet_obeyed s f n k at near (Connect g) h =
        let all = alike_refl s in
        let free = freed_near c far closed g (holds_far c far closed n k at g h ∙ near) 0 c.terminals s.connected (stand_all c.terminals) f.held.long f.fits.connected in
        record {
          connected = agree_trans (far_terminal c far) 0 s.connected (map (freed g) s.connected) (slice_set (map (freed g) s.connected) n (Some g)) free (agree_unset (far_terminal c far) (map (freed g) s.connected) (Some g) n near);
          mounts = all.mounts;
          guests = all.guests;
          volumes = all.volumes;
        }
    quiet_obeyed s f n k at near (Start g) h =
        let all = alike_refl s in
        record { connected = all.connected; mounts = all.mounts; guests = agree_unchanged (far_guest c far) (reset_by (slice_get c.guests g)) s.guests g (holds_far c far closed n k at g h ∙ near); volumes = all.volumes }
    quiet_obeyed s f n k at near (Halt g) h =
        let all = alike_refl s in
        record { connected = all.connected; mounts = all.mounts; guests = agree_unchanged (far_guest c far) stopped_by_command s.guests g (holds_far c far closed n k at g h ∙ near); volumes = all.volumes }
    quiet_obeyed s f n k at near (MountAt g unit m) h =
        let all = alike_refl s in
        record { connected = all.connected; mounts = mounts_quiet g unit (Some m) s.mounts (holds_far c far closed n k at g h.0 ∙ near); guests = all.guests; volumes = all.volumes }
    quiet_obeyed s f n k at near (Dismount g unit) h =
        let all = alike_refl s in
        record { connected = all.connected; mounts = mounts_quiet g unit None s.mounts (holds_far c far closed n k at g h ∙ near); guests = all.guests; volumes = all.volumes }
    quiet_obeyed s f n k at near Show h = alike_refl s

    pub quiet_after : (s : SystemState) → Kept c far s → (n : ℕ) (k : Terminal) → slice_get c.terminals n ≡ Some k → far_terminal c far n ≡ false → (v : Verdict) → VerdictFits c k.class v → Alike s (after_verdict c s n k v).now
    quiet_after s f n k at near (Granted command) h = quiet_obeyed s f n k at near command h
    quiet_after s f n k at near BadCommand h = alike_refl s
    quiet_after s f n k at near NoSuchObject h = alike_refl s
    quiet_after s f n k at near (Denied rule) h = alike_refl s

    -- the verdict at a far terminal: of the state it reads the mounts of guests of the terminal's class alone
    unless_nothing : (x y : Option Mounted) → unless_empty x NoSuchObject ≡ unless_empty y NoSuchObject
    unless_nothing None None = refl
    unless_nothing None (Some y) = refl
    unless_nothing (Some x) None = refl
    unless_nothing (Some x) (Some y) = refl

    unless_denied : (x y : Option Mounted) → unless_empty x (Denied Equal) ≡ unless_empty y (Denied Equal)
    unless_denied None None = refl
    unless_denied None (Some y) = refl
    unless_denied (Some x) None = refl
    unless_denied (Some x) (Some y) = refl

    module _ (s t : SystemState) (a : Alike s t) (n : ℕ) (k : Terminal) (at : slice_get c.terminals n ≡ Some k) (f : far_terminal c far n ≡ true) where
      mount_alike : (g unit : ℕ) → far_guest c far g ≡ true → mount_at (server_of s) g unit ≡ mount_at (server_of t) g unit
      mount_alike g unit e = ap (λ (ms : List (Option Mounted)). slice_index_or ms unit None) (agree_index (far_guest c far) s.mounts t.mounts a.mounts g [] e)

      row_alike : (g unit : ℕ) (o : Option GuestRow) → slice_get c.guests g ≡ o
          → unless_empty (mount_at (server_of s) g unit) (on_row k.class o (Dismount g unit)) ≡ unless_empty (mount_at (server_of t) g unit) (on_row k.class o (Dismount g unit))
      row_alike g unit None there = unless_nothing (mount_at (server_of s) g unit) (mount_at (server_of t) g unit)
      row_alike g unit (Some row) there = both (same_class row.class k.class)
          (λ e. ap (λ (m : Option Mounted). unless_empty m (on_row k.class (Some row) (Dismount g unit))) (mount_alike g unit (alike_far c far closed g row there n k at (same_is row.class k.class e) ∙ f)))
          (λ e. rw e (unless_denied (mount_at (server_of s) g unit) (mount_at (server_of t) g unit)))

      dismount_alike : (unit : ℕ) (o : Option ℕ) → on_dismount c (server_of s) k.class o unit ≡ on_dismount c (server_of t) k.class o unit
      dismount_alike unit None = refl
      dismount_alike unit (Some g) = row_alike g unit (slice_get c.guests g) refl

      judged_alike : (asked : Option NamedCommand) → judged_line c (server_of s) k.class asked ≡ judged_line c (server_of t) k.class asked
      unfolding judged
      judged_alike None = refl
      judged_alike (Some (asks.Connect vm)) = refl
      judged_alike (Some (asks.Start vm)) = refl
      judged_alike (Some (asks.Halt vm)) = refl
      judged_alike (Some (asks.Mount vm unit volume write)) = refl
      judged_alike (Some (asks.Dismount vm unit)) = dismount_alike unit (visible_guest_place c.guests k.class vm)
      judged_alike (Some asks.Show) = refl

      pub verdict_alike : (text : List ℕ) → verdict_of c (server_of s) n text ≡ verdict_of c (server_of t) n text
      verdict_alike text = rw at (judged_alike (asked_in text))
