-- What a class sees of a state, and what a command makes of it.
use Rattle.std.proofs.Common.{◌≡◌, ℕ, zero, suc, List, [], ◌∷◌, map, Bool, true, false, refl, sym, ap, ◌∙◌, Option, Some, None, option_map, slice_get, slice_set, slice_index_or, true≢false, ◌==◌}
use Rattle.std.proofs.lemmas.Bool.{eqb-true}
use Rattle.vv_class.specs.declared.class.AccessClass.{AccessClass}
use Rattle.vv_class.specs.Class.{does_flow}
use Rattle.sys_objects.specs.declared.records.Config.{Config}
use Rattle.sys_objects.specs.declared.records.GuestRow.{GuestRow}
use Rattle.sys_objects.specs.declared.records.Mount.{Mount as Mounted}
use Rattle.sys_objects.specs.declared.records.Terminal.{Terminal}
use Rattle.sys_purge.proofs.Accepted.{terminal_kept}
use Rattle.sys_purge.proofs.Beside.{beside_changed, beside_map, beside_set, beside_unchanged, beside_unset, map_changed, map_set, passes_at, passes_row, set_is_changed}
use Rattle.sys_purge.proofs.Fits.{CommandFits, ConnectFits, Fits, Holds, Pairs, VerdictFits}
use Rattle.sys_purge.proofs.Judged.{row_kept}
use Rattle.sys_purge.proofs.Kept.{both}
use Rattle.sys_purge.proofs.Places.{rank_same}
use Rattle.sys_purge.specs.Input.{beside, is_kept}
use Rattle.sys_purge.specs.Judged.{guest_rank, moved_command, moved_verdict, purged_state}
use Rattle.sys_purge.specs.Moments.{purged_system}
use Rattle.sys_purge.specs.Purge.{mount_place, purge_config, rank}
use Rattle.sys_state.specs.Events.{after_verdict, obeyed, reset_by}
use Rattle.sys_state.specs.Guests.{stopped_by_command}
use Rattle.sys_state.specs.Places.{changed}
use Rattle.sys_state.specs.State.{SystemState, is_running, server_of}
use Rattle.sys_server.specs.Apply.{freed}
use Rattle.sys_server.specs.declared.command.Command.{Command}
use Rattle.sys_server.specs.declared.command.Command.TheVariants.{Connect, Start, Halt, MountAt, Dismount, Show}
use Rattle.sys_server.specs.declared.command.Verdict.{Verdict}
use Rattle.sys_server.specs.declared.command.Verdict.TheVariants.{Granted, BadCommand, NoSuchObject, Denied}
use Rattle.vm_state.specs.State.{Guest}

module _ (c : Config) (to : AccessClass) where
  abbrev pub keeps : GuestRow → Bool
  keeps row = is_kept to row

  abbrev pub seen_connected : List Terminal → List (Option ℕ) → List (Option ℕ)
  seen_connected ks os = map (option_map (guest_rank c to)) (beside (terminal_kept c to) ks os)

  abbrev pub seen_mounts : List GuestRow → List (List (Option Mounted)) → List (List (Option Mounted))
  seen_mounts rows mss = map (map (mount_place to c.volumes)) (beside (is_kept to) rows mss)

  abbrev pub seen : SystemState → SystemState
  seen s = purged_system c to s

  -- the server's part is the server's part of what is seen
  pub server_seen : (s : SystemState) → server_of (seen s) ≡ purged_state c to (server_of s)
  server_seen s =
      let running = sym (beside_map (is_kept to) is_running c.guests s.guests) in
      λ i. record { at = seen_connected c.terminals s.connected; mounts = seen_mounts c.guests s.mounts; running = running i }

  -- guests of a class are seen where the class is
  pub holds_passes : (class : AccessClass) (g : ℕ) → Holds c class g → passes_at (is_kept to) c.guests g ≡ does_flow class to
  holds_passes class g h = passes_row (is_kept to) c.guests g h.0 h.1 ∙ ap (λ d. does_flow d to) h.2

  -- a guest is freed alike
  freed_seen : (g : ℕ) (row : GuestRow) → slice_get c.guests g ≡ Some row → is_kept to row ≡ true → (k : Terminal) → terminal_kept c to k ≡ true → (o : Option ℕ) → ConnectFits c k o
      → option_map (guest_rank c to) (freed g o) ≡ freed (guest_rank c to g) (option_map (guest_rank c to) o)
  freed_seen g row at e k b None f = refl
  freed_seen g row at e k b (Some j) f =
      let same = rank_same (is_kept to) f.0 row (ap (λ d. does_flow d to) f.2 ∙ b) e c.guests j g f.1 at in
      both (j == g) (λ d. rw (same, d) refl) (λ d. rw (same, d) refl)

  freed_hidden : (g : ℕ) (row : GuestRow) → slice_get c.guests g ≡ Some row → is_kept to row ≡ false → (k : Terminal) → terminal_kept c to k ≡ true → (o : Option ℕ) → ConnectFits c k o → freed g o ≡ o
  freed_hidden g row at e k b None f = refl
  freed_hidden g row at e k b (Some j) f = both (j == g)
      (λ d.
      let one : Some f.0 ≡ Some row = sym f.1 ∙ ap (slice_get c.guests) (eqb-true j g d) ∙ at in
      let same : f.0 ≡ row = cc in
      absurd (true≢false (sym (ap (λ d. does_flow d to) f.2 ∙ b) ∙ ap (is_kept to) same ∙ e)))
      (λ d. rw d refl)

  all_freed : (g : ℕ) (row : GuestRow) → slice_get c.guests g ≡ Some row → is_kept to row ≡ true → (ks : List Terminal) (os : List (Option ℕ)) → Pairs (ConnectFits c) ks os
      → seen_connected ks (map (freed g) os) ≡ map (freed (guest_rank c to g)) (seen_connected ks os)
  all_freed g row at e [] os f = refl
  all_freed g row at e (k ∷ ks) [] f = refl
  all_freed g row at e (k ∷ ks) (o ∷ os) f =
      let rest = all_freed g row at e ks os f.1 in
      both (terminal_kept c to k)
      (λ b. let one = freed_seen g row at e k b o f.0 in rw b (λ i. one i ∷ rest i))
      (λ b. rw b rest)

  none_freed : (g : ℕ) (row : GuestRow) → slice_get c.guests g ≡ Some row → is_kept to row ≡ false → (ks : List Terminal) (os : List (Option ℕ)) → Pairs (ConnectFits c) ks os
      → beside (terminal_kept c to) ks (map (freed g) os) ≡ beside (terminal_kept c to) ks os
  none_freed g row at e [] os f = refl
  none_freed g row at e (k ∷ ks) [] f = refl
  none_freed g row at e (k ∷ ks) (o ∷ os) f =
      let rest = none_freed g row at e ks os f.1 in
      both (terminal_kept c to k)
      (λ b. let one = freed_hidden g row at e k b o f.0 in rw b (λ i. one i ∷ rest i))
      (λ b. rw b rest)

  -- a connection at a terminal that is seen, and at one that isn't
  pub set_seen : (os : List (Option ℕ)) (n : ℕ) (o : Option ℕ) → passes_at (terminal_kept c to) c.terminals n ≡ true
      → seen_connected c.terminals (slice_set os n o) ≡ slice_set (seen_connected c.terminals os) (rank (terminal_kept c to) c.terminals n) (option_map (guest_rank c to) o)
  set_seen os n o p =
      ap (map (option_map (guest_rank c to))) (beside_set (terminal_kept c to) c.terminals os n o p)
      ∙ map_set (option_map (guest_rank c to)) (beside (terminal_kept c to) c.terminals os) (rank (terminal_kept c to) c.terminals n) o

  connect_seen : (s : SystemState) → Fits c s → (n : ℕ) → passes_at (terminal_kept c to) c.terminals n ≡ true → (g : ℕ) (row : GuestRow) → slice_get c.guests g ≡ Some row → is_kept to row ≡ true
      → slice_set (map (freed (guest_rank c to g)) (seen_connected c.terminals s.connected)) (rank (terminal_kept c to) c.terminals n) (Some (guest_rank c to g)) ≡ seen_connected c.terminals (slice_set (map (freed g) s.connected) n (Some g))
  connect_seen s f n p g row at e =
      ap (λ os. slice_set os (rank (terminal_kept c to) c.terminals n) (Some (guest_rank c to g))) (sym (all_freed g row at e c.terminals s.connected f.connected))
      ∙ sym (set_seen (map (freed g) s.connected) n (Some g) p)

  connect_unseen : (s : SystemState) → Fits c s → (n : ℕ) → passes_at (terminal_kept c to) c.terminals n ≡ false → (g : ℕ) (row : GuestRow) → slice_get c.guests g ≡ Some row → is_kept to row ≡ false
      → seen_connected c.terminals (slice_set (map (freed g) s.connected) n (Some g)) ≡ seen_connected c.terminals s.connected
  connect_unseen s f n p g row at e =
      ap (map (option_map (guest_rank c to))) (beside_unset (terminal_kept c to) c.terminals (map (freed g) s.connected) n (Some g) p ∙ none_freed g row at e c.terminals s.connected f.connected)

  -- a mount at a unit of a guest that is seen, and of one that isn't
  abbrev at_unit : ℕ → Option Mounted → List (Option Mounted) → List (Option Mounted)
  at_unit unit m ms = slice_set ms unit m

  mount_seen : (mss : List (List (Option Mounted))) (g unit : ℕ) (m : Option Mounted) → passes_at (is_kept to) c.guests g ≡ true
      → slice_set (seen_mounts c.guests mss) (guest_rank c to g) (slice_set (slice_index_or (seen_mounts c.guests mss) (guest_rank c to g) []) unit (mount_place to c.volumes m)) ≡ seen_mounts c.guests (slice_set mss g (slice_set (slice_index_or mss g []) unit m))
  mount_seen mss g unit m p =
      let place = mount_place to c.volumes in
      set_is_changed (at_unit unit (place m)) (seen_mounts c.guests mss) (guest_rank c to g) []
      ∙ sym (map_changed (map place) (at_unit unit m) (at_unit unit (place m)) (λ ms. map_set place ms unit m) (beside (is_kept to) c.guests mss) (guest_rank c to g))
      ∙ ap (map (map place)) (sym (beside_changed (is_kept to) (at_unit unit m) c.guests mss g p))
      ∙ ap (seen_mounts c.guests) (sym (set_is_changed (at_unit unit m) mss g []))

  mount_unseen : (mss : List (List (Option Mounted))) (g unit : ℕ) (m : Option Mounted) → passes_at (is_kept to) c.guests g ≡ false
      → seen_mounts c.guests (slice_set mss g (slice_set (slice_index_or mss g []) unit m)) ≡ seen_mounts c.guests mss
  mount_unseen mss g unit m p =
      ap (seen_mounts c.guests) (set_is_changed (at_unit unit m) mss g [])
      ∙ ap (map (map (mount_place to c.volumes))) (beside_unchanged (is_kept to) (at_unit unit m) c.guests mss g p)

  -- a reset goes by the guest's row, of which a purge changes no number that it reads
  reset_seen : (g : ℕ) (row : GuestRow) → slice_get c.guests g ≡ Some row → is_kept to row ≡ true → (x : Guest) → reset_by (slice_get (purge_config c to).guests (guest_rank c to g)) x ≡ reset_by (slice_get c.guests g) x
  reset_seen g row at e x = let new = row_kept c to g row at e in rw (new, at) refl

  same_change : {X : Type 0} (f h : X → X) → ((x : X) → f x ≡ h x) → (xs : List X) (k : ℕ) → changed f xs k ≡ changed h xs k
  same_change f h e [] k = refl
  same_change f h e (x ∷ xs) zero = ap (λ y. y ∷ xs) (e x)
  same_change f h e (x ∷ xs) (suc k) = ap (λ ys. x ∷ ys) (same_change f h e xs k)

  -- a command obeyed at a terminal that is seen
  seen_obeyed : (s : SystemState) → Fits c s → (n : ℕ) (t : Terminal) → passes_at (terminal_kept c to) c.terminals n ≡ true → (class : AccessClass) → does_flow class to ≡ true → (command : Command) → CommandFits c class command
      → (obeyed (purge_config c to) (seen s) (rank (terminal_kept c to) c.terminals n) t (moved_command c to command)).now ≡ seen (obeyed c s n t command).now
  seen_obeyed s f n t p class e (Connect g) h =
      let connected = connect_seen s f n p g h.0 h.1 (ap (λ d. does_flow d to) h.2 ∙ e) in
      λ i. record (seen s) { connected = connected i }
  seen_obeyed s f n t p class e (Start g) h =
      let kept : is_kept to h.0 ≡ true = ap (λ d. does_flow d to) h.2 ∙ e in
      let by : Option GuestRow = slice_get c.guests g in
      let by' : Option GuestRow = slice_get (purge_config c to).guests (guest_rank c to g) in
      let guests = same_change (reset_by by') (reset_by by) (reset_seen g h.0 h.1 kept) (beside (is_kept to) c.guests s.guests) (guest_rank c to g)
      ∙ sym (beside_changed (is_kept to) (reset_by by) c.guests s.guests g (holds_passes class g h ∙ e)) in
      λ i. record (seen s) { guests = guests i }
  seen_obeyed s f n t p class e (Halt g) h =
      let guests = sym (beside_changed (is_kept to) stopped_by_command c.guests s.guests g (holds_passes class g h ∙ e)) in
      λ i. record (seen s) { guests = guests i }
  seen_obeyed s f n t p class e (MountAt g unit m) h =
      let mounts = mount_seen s.mounts g unit (Some m) (holds_passes class g h.0 ∙ e) in
      λ i. record (seen s) { mounts = mounts i }
  seen_obeyed s f n t p class e (Dismount g unit) h =
      let mounts = mount_seen s.mounts g unit None (holds_passes class g h ∙ e) in
      λ i. record (seen s) { mounts = mounts i }
  seen_obeyed s f n t p class e Show h = refl

  -- a command obeyed at one that isn't
  unseen_obeyed : (s : SystemState) → Fits c s → (n : ℕ) (t : Terminal) → passes_at (terminal_kept c to) c.terminals n ≡ false → (class : AccessClass) → does_flow class to ≡ false → (command : Command) → CommandFits c class command
      → seen (obeyed c s n t command).now ≡ seen s
  unseen_obeyed s f n t p class e (Connect g) h =
      let connected = connect_unseen s f n p g h.0 h.1 (ap (λ d. does_flow d to) h.2 ∙ e) in
      λ i. record (seen s) { connected = connected i }
  unseen_obeyed s f n t p class e (Start g) h =
      let guests = beside_unchanged (is_kept to) (reset_by (slice_get c.guests g)) c.guests s.guests g (holds_passes class g h ∙ e) in
      λ i. record (seen s) { guests = guests i }
  unseen_obeyed s f n t p class e (Halt g) h =
      let guests = beside_unchanged (is_kept to) stopped_by_command c.guests s.guests g (holds_passes class g h ∙ e) in
      λ i. record (seen s) { guests = guests i }
  unseen_obeyed s f n t p class e (MountAt g unit m) h =
      let mounts = mount_unseen s.mounts g unit (Some m) (holds_passes class g h.0 ∙ e) in
      λ i. record (seen s) { mounts = mounts i }
  unseen_obeyed s f n t p class e (Dismount g unit) h =
      let mounts = mount_unseen s.mounts g unit None (holds_passes class g h ∙ e) in
      λ i. record (seen s) { mounts = mounts i }
  unseen_obeyed s f n t p class e Show h = refl

  -- any verdict
  pub seen_verdict : (s : SystemState) → Fits c s → (n : ℕ) (t : Terminal) → passes_at (terminal_kept c to) c.terminals n ≡ true → (class : AccessClass) → does_flow class to ≡ true → (v : Verdict) → VerdictFits c class v
      → (after_verdict (purge_config c to) (seen s) (rank (terminal_kept c to) c.terminals n) t (moved_verdict c to v)).now ≡ seen (after_verdict c s n t v).now
  seen_verdict s f n t p class e (Granted command) h = seen_obeyed s f n t p class e command h
  seen_verdict s f n t p class e BadCommand h = refl
  seen_verdict s f n t p class e NoSuchObject h = refl
  seen_verdict s f n t p class e (Denied rule) h = refl

  pub unseen_verdict : (s : SystemState) → Fits c s → (n : ℕ) (t : Terminal) → passes_at (terminal_kept c to) c.terminals n ≡ false → (class : AccessClass) → does_flow class to ≡ false → (v : Verdict) → VerdictFits c class v
      → seen (after_verdict c s n t v).now ≡ seen s
  unseen_verdict s f n t p class e (Granted command) h = unseen_obeyed s f n t p class e command h
  unseen_verdict s f n t p class e BadCommand h = refl
  unseen_verdict s f n t p class e NoSuchObject h = refl
  unseen_verdict s f n t p class e (Denied rule) h = refl
