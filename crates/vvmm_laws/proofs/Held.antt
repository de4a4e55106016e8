-- What every state of a run keeps of the edges: each mount has its edges. Beside each terminal is its connection.
use Rattle.std.proofs.Common.{◌≡◌, ◌==◌, ℕ, zero, suc, List, [], ◌∷◌, map, Bool, true, refl, sym, ap, ◌∙◌, subst, All, Option, Some, None, slice_get, slice_set, slice_index_or, if◌then◌else◌}
use Rattle.std.specs.List.{list_any}
use Rattle.std.proofs.lemmas.Bool.{and_parts, eq-eqb, false≢true}
use Rattle.std.proofs.lemmas.List.Elements.{All-head, All-tail}
use Rattle.vv_class.specs.Class.{does_flow}
use Rattle.vv_class.specs.declared.class.AccessClass.{AccessClass}
use Rattle.sys_flow.specs.Reach.{ObjectPlace, has_terminal, is_mount_of, is_read_by, is_written_mount_of, written_by}
use Rattle.vvmm_laws.proofs.Agree.{AsLong, long_map, long_set}
use Rattle.vvmm_laws.proofs.Far.{MountLeads, MountsLead}
use Rattle.sys_objects.specs.Condition.{MayHave}
use Rattle.sys_objects.specs.Rules.{is_mountable, may_mount, same_class}
use Rattle.sys_objects.specs.declared.records.Config.{Config}
use Rattle.sys_objects.specs.declared.records.GuestRow.{GuestRow}
use Rattle.sys_objects.specs.declared.records.Mount.{Mount}
use Rattle.sys_objects.specs.declared.records.Terminal.{Terminal}
use Rattle.sys_objects.specs.declared.records.VolumeRow.{VolumeRow}
use Rattle.sys_purge.proofs.Accepted.{same_itself}
use Rattle.sys_purge.proofs.Beside.{set_is_changed}
use Rattle.sys_purge.proofs.Fits.{CommandFits, Each, Fits, Pairs, VerdictFits, all_get, each_set, fits_happened, pairs_changed, verdict_fits}
use Rattle.sys_purge.proofs.Kept.{both}
use Rattle.sys_purge.proofs.Opens.{first_fits}
use Rattle.sys_state.specs.Events.{after_verdict, at_place, at_row, happened, is_named, lined, obeyed}
use Rattle.sys_state.specs.Places.{place_of}
use Rattle.sys_state.specs.Run.{connections, first_state}
use Rattle.sys_state.specs.State.{SystemState, server_of}
use Rattle.sys_script.specs.declared.event.Event.{Event}
use Rattle.sys_script.specs.declared.event.Typed.{Typed}
use Rattle.sys_script.specs.declared.event.Typed.TheVariants.{Break, Line}
use Rattle.sys_server.specs.Apply.{freed}
use Rattle.sys_server.specs.Verdict.{verdict_of}
use Rattle.sys_server.specs.declared.command.Command.{Command}
use Rattle.sys_server.specs.declared.command.Command.TheVariants.{Connect, Start, Halt, MountAt, Dismount, Show}
use Rattle.sys_server.specs.declared.command.Verdict.{Verdict}
use Rattle.sys_server.specs.declared.command.Verdict.TheVariants.{Granted, BadCommand, NoSuchObject, Denied}

-- one of a list passes
pub any_at : {X : Type 0} (test : X → Bool) (xs : List X) (k : ℕ) (x : X) → slice_get xs k ≡ Some x → test x ≡ true → list_any test xs ≡ true
any_at test [] k x at e = cc
any_at test (y ∷ ys) zero x at e = let s : y ≡ x = cc in let t : test y ≡ true = ap test s ∙ e in rw t refl
any_at test (y ∷ ys) (suc k) x at e = let rest = any_at test ys k x at e in both (test y) (λ b. rw b refl) (λ b. rw b rest)

each_places : {X : Type 0} (P : X → Type 0) (xs : List X) → ((k : ℕ) (x : X) → slice_get xs k ≡ Some x → P x) → Each P xs
each_places P [] h = tt
each_places P (x ∷ xs) h = (h 0 x refl, each_places P xs (λ k y at. h (suc k) y at))

module _ (c : Config) (far : ObjectPlace → Bool) where
  pub record Held (s : SystemState) : Type 0 where
    pub long : AsLong c.terminals s.connected
    pub leads : Pairs (MountsLead c far) c.guests s.mounts

  pub record Kept (s : SystemState) : Type 0 where
    pub fits : Fits c s
    pub held : Held s

  -- a mount that may be made where a terminal has the guest's class
  lead_of : (row : GuestRow) (class : AccessClass) → row.class ≡ class → has_terminal c class ≡ true → (m : Mount) (o : Option VolumeRow) → is_mountable class m.write o ≡ true
      → (is_read_by c m.volume o (Some row) ≡ true) × (m.write ≡ true → written_by c m.volume (Some row) o ≡ true)
  lead_of row class e has m None h = absurd (false≢true h)
  lead_of row class e has m (Some v) h =
      let p = and_parts (does_flow v.class class) (if m.write then same_class v.class class else true) h in
      let flow : does_flow v.class row.class ≡ true = ap (λ (d : AccessClass). does_flow v.class d) e ∙ p.0 in
      let there : has_terminal c row.class ≡ true = ap (has_terminal c) e ∙ has in (
        both (list_any (is_mount_of m.volume) row.mounts) (λ b. rw b refl) (λ b. rw (b, flow, there) refl),
        (λ w.
            let same : same_class v.class row.class ≡ true = ap (λ (d : AccessClass). same_class v.class d) e ∙ rw w at p.1 in
            both (list_any (is_written_mount_of m.volume) row.mounts) (λ b. rw b refl) (λ b. rw (b, same, there) refl)),
      )

  mount_leads : (n : ℕ) (k : Terminal) → slice_get c.terminals n ≡ Some k → (row : GuestRow) → row.class ≡ k.class → (m : Mount) → may_mount c.volumes k.class (Some m) ≡ true → MountLeads c far row (Some m)
  mount_leads n k at row e m h =
      lead_of row k.class e (any_at (λ (t : Terminal). same_class t.class k.class) c.terminals n k at (same_itself k.class)) m (slice_get c.volumes m.volume) h

  -- every event keeps it
  mount_held : (s : SystemState) → Held s → (g unit : ℕ) (row : GuestRow) (m : Option Mount) → slice_get c.guests g ≡ Some row → MountLeads c far row m
      → Pairs (MountsLead c far) c.guests (slice_set s.mounts g (slice_set (slice_index_or s.mounts g []) unit m))
  mount_held s f g unit row m at lead =
      subst (Pairs (MountsLead c far) c.guests) (sym (set_is_changed (λ (ms : List (Option Mount)). slice_set ms unit m) s.mounts g []))
      (pairs_changed (MountsLead c far) (λ (ms : List (Option Mount)). slice_set ms unit m) c.guests s.mounts g row f.leads at (λ ms each. each_set (MountLeads c far row) ms unit m lead each))

  held_obeyed : (s : SystemState) → Held s → (n : ℕ) (k : Terminal) → slice_get c.terminals n ≡ Some k → (command : Command) → CommandFits c k.class command → Held (obeyed c s n k command).now
  held_obeyed s f n k at (Connect g) h = record { long = long_set c.terminals (map (freed g) s.connected) (long_map (freed g) c.terminals s.connected f.long) n (Some g); leads = f.leads }
  held_obeyed s f n k at (Start g) h = record { long = f.long; leads = f.leads }
  held_obeyed s f n k at (Halt g) h = record { long = f.long; leads = f.leads }
  held_obeyed s f n k at (MountAt g unit m) h = record { long = f.long; leads = mount_held s f g unit h.0.0 (Some m) h.0.1 (mount_leads n k at h.0.0 h.0.2 m h.1) }
  held_obeyed s f n k at (Dismount g unit) h = record { long = f.long; leads = mount_held s f g unit h.0 None h.1 tt }
  held_obeyed s f n k at Show h = f

  held_verdict : (s : SystemState) → Held s → (n : ℕ) (k : Terminal) → slice_get c.terminals n ≡ Some k → (v : Verdict) → VerdictFits c k.class v → Held (after_verdict c s n k v).now
  held_verdict s f n k at (Granted command) h = held_obeyed s f n k at command h
  held_verdict s f n k at BadCommand h = f
  held_verdict s f n k at NoSuchObject h = f
  held_verdict s f n k at (Denied rule) h = f

  held_lined : (round : ℕ) (s : SystemState) → Held s → (n : ℕ) (k : Terminal) → slice_get c.terminals n ≡ Some k → (text : List ℕ) (o : Option ℕ) → Held (lined c round s n k text o).now
  held_lined round s f n k at text None = held_verdict s f n k at (verdict_of c (server_of s) n text) (verdict_fits c s n k text at)
  held_lined round s f n k at text (Some g) = record { long = f.long; leads = f.leads }

  held_acted : (round : ℕ) (s : SystemState) → Held s → (n : ℕ) (o : Option Terminal) → slice_get c.terminals n ≡ o → (what : Typed) → Held (at_row c round s n o what).now
  held_acted round s f n None at what = f
  held_acted round s f n (Some k) at Break = record { long = long_set c.terminals s.connected f.long n None; leads = f.leads }
  held_acted round s f n (Some k) at (Line text) = held_lined round s f n k at text (slice_index_or s.connected n None)

  held_place : (round : ℕ) (s : SystemState) → Held s → (o : Option ℕ) (what : Typed) → Held (at_place c round s o what).now
  held_place round s f None what = f
  held_place round s f (Some n) what = held_acted round s f n (slice_get c.terminals n) refl what

  pub kept_happened : (round : ℕ) (s : SystemState) → Kept s → (e : Event) → Kept (happened c round s e).now
  kept_happened round s f e = record { fits = fits_happened c round s f.fits e; held = held_place round s f.held (place_of (is_named e.terminal) c.terminals) e.what }

  -- and so does the first state
  first_long : (i : ℕ) (ks : List Terminal) → AsLong ks (connections c.guests i ks)
  first_long i [] = tt
  first_long i (k ∷ ks) = first_long (suc i) ks

  own_lead : (row : GuestRow) (m : Mount) (o : Option VolumeRow) → is_mountable row.class m.write o ≡ true → list_any (is_mount_of m.volume) row.mounts ≡ true → (m.write ≡ true → list_any (is_written_mount_of m.volume) row.mounts ≡ true)
      → (is_read_by c m.volume o (Some row) ≡ true) × (m.write ≡ true → written_by c m.volume (Some row) o ≡ true)
  own_lead row m None h a b = absurd (false≢true h)
  own_lead row m (Some v) h a b = (rw a refl, (λ w. let e = b w in rw e refl))

  own_mount : (row : GuestRow) → MayHave c row → (k : ℕ) (m : Option Mount) → slice_get row.mounts k ≡ Some m → MountLeads c far row m
  own_mount row has k None at = tt
  own_mount row has k (Some m) at =
      let same : (m.volume == m.volume) ≡ true = eq-eqb m.volume m.volume refl in
      own_lead row m (slice_get c.volumes m.volume) (all_get (λ (n : Option Mount). may_mount c.volumes row.class n ≡ true) row.mounts k (Some m) has.mounts at)
      (any_at (is_mount_of m.volume) row.mounts k (Some m) at same)
      (λ w. any_at (is_written_mount_of m.volume) row.mounts k (Some m) at (rw (w, same) refl))

  first_leads : (rows : List GuestRow) → All (MayHave c) rows → Pairs (MountsLead c far) rows (map (λ (row : GuestRow). row.mounts) rows)
  first_leads [] all = tt
  first_leads (row ∷ rows) all = (each_places (MountLeads c far row) row.mounts (own_mount row (All-head (MayHave c) row rows all)), first_leads rows (All-tail (MayHave c) row rows all))

  pub first_kept : All (MayHave c) c.guests → (images : List (List ℕ)) (volumes : List (List (List ℕ))) → Kept (first_state c images volumes)
  first_kept all images volumes = record { fits = first_fits c all images volumes; held = record { long = first_long 0 c.terminals; leads = first_leads c.guests all } }
