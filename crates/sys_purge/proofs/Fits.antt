-- What every state of a run keeps of an accepted configuration's rules: a terminal's guest has the terminal's class, and
-- a mounted volume is one that the guest may mount.
use Rattle.std.proofs.Common.{◌≡◌, ℕ, zero, suc, List, [], ◌∷◌, map, Bool, true, false, not, ◌&&◌, refl, sym, subst, All, Option, Some, None, slice_get, slice_set, slice_index_or, true≢false, get_or}
use Rattle.std.specs.Str.{bytes_eq}
use Rattle.std.proofs.lemmas.Bool.{and_parts}
use Rattle.std.proofs.lemmas.List.Elements.{All-head, All-tail}
use Rattle.vv_class.specs.declared.class.AccessClass.{AccessClass}
use Rattle.vv_class.specs.Class.{does_flow}
use Rattle.sys_objects.specs.Rules.{may_mount, same_class}
use Rattle.sys_objects.specs.declared.records.Config.{Config}
use Rattle.sys_objects.specs.declared.records.GuestRow.{GuestRow}
use Rattle.sys_objects.specs.declared.records.Mount.{Mount as Mounted}
use Rattle.sys_objects.specs.declared.records.Terminal.{Terminal}
use Rattle.sys_objects.specs.declared.records.VolumeRow.{VolumeRow}
use Rattle.sys_purge.proofs.Accepted.{same_is}
use Rattle.sys_purge.proofs.Beside.{set_is_changed}
use Rattle.sys_purge.proofs.Judged.{position_is}
use Rattle.sys_purge.proofs.Kept.{both}
use Rattle.sys_purge.proofs.Places.{StandsAt, first_stands}
use Rattle.sys_state.specs.Events.{after_verdict, at_place, at_row, events, happened, is_named, lined, obeyed}
use Rattle.sys_state.specs.Places.{changed, place_of}
use Rattle.sys_state.specs.State.{SystemState, server_of}
use Rattle.sys_script.specs.declared.event.Event.{Event}
use Rattle.sys_script.specs.declared.event.Typed.{Typed}
use Rattle.sys_script.specs.declared.event.Typed.TheVariants.{Break, Line}
use Rattle.sys_server.specs.Apply.{freed}
use Rattle.sys_objects.specs.Places.{is_at}
use Rattle.sys_server.specs.CommandLine.{asked_in}
use Rattle.sys_server.specs.Verdict.{judged, judged_line, mount_at, on_dismount, on_guest, on_mount, on_row, on_rows, unless_empty, verdict_of, visible_guest_place, visible_volume_place}
use Rattle.sys_server.specs.declared.command.NamedCommand.{NamedCommand}
use Rattle.sys_server.specs.declared.command.NamedCommand.TheVariants.{Connect, Start, Halt, Mount, Dismount, Show}
use Rattle.sys_server.specs.declared.command.Command.{Command}
use Rattle.sys_server.specs.declared.command.Command.TheVariants as to_
use Rattle.sys_server.specs.declared.command.Verdict.{Verdict}
use Rattle.sys_server.specs.declared.command.Verdict.TheVariants.{Granted, BadCommand, NoSuchObject, Denied}

abbrev pub Each : {X : Type 0} → (X → Type 0) → List X → Type 0
Each P [] = Unit {0}
Each P (x ∷ xs) = P x × Each P xs

pub each_of_all : {X : Type 0} (P : X → Type 0) (xs : List X) → All P xs → Each P xs
each_of_all P [] all = tt
each_of_all P (x ∷ xs) all = (All-head P x xs all, each_of_all P xs (All-tail P x xs all))

pub each_set : {X : Type 0} (P : X → Type 0) (xs : List X) (k : ℕ) (y : X) → P y → Each P xs → Each P (slice_set xs k y)
each_set P [] k y p e = tt
each_set P (x ∷ xs) zero y p e = (p, e.1)
each_set P (x ∷ xs) (suc k) y p e = (e.0, each_set P xs k y p e.1)

pub each_at : {X : Type 0} (P : X → Type 0) (xs : List X) (k : ℕ) (d : X) → P d → Each P xs → P (slice_index_or xs k d)
each_at P [] k d p e = p
each_at P (x ∷ xs) zero d p e = e.0
each_at P (x ∷ xs) (suc k) d p e = each_at P xs k d p e.1

pub all_get : {X : Type 0} (P : X → Type 0) (xs : List X) (k : ℕ) (x : X) → All P xs → slice_get xs k ≡ Some x → P x
all_get P [] k x all h = cc
all_get P (y ∷ ys) zero x all h = let s : y ≡ x = cc in subst P s (All-head P y ys all)
all_get P (y ∷ ys) (suc k) x all h = all_get P ys k x (All-tail P y ys all) h

-- a fact of each row and what is beside it
abbrev pub Pairs : {X Y : Type 0} → (X → Y → Type 0) → List X → List Y → Type 0
Pairs P [] ys = Unit {0}
Pairs P (x ∷ xs) [] = Unit {0}
Pairs P (x ∷ xs) (y ∷ ys) = P x y × Pairs P xs ys

pub pairs_at : {X Y : Type 0} (P : X → Y → Type 0) (xs : List X) (ys : List Y) (k : ℕ) (x : X) (d : Y) → Pairs P xs ys → slice_get xs k ≡ Some x → P x d → P x (slice_index_or ys k d)
pairs_at P [] ys k x d f h p = cc
pairs_at P (z ∷ zs) [] k x d f h p = p
pairs_at P (z ∷ zs) (y ∷ ys) zero x d f h p = let s : z ≡ x = cc in subst (λ v. P v y) s f.0
pairs_at P (z ∷ zs) (y ∷ ys) (suc k) x d f h p = pairs_at P zs ys k x d f.1 h p

pub pairs_set : {X Y : Type 0} (P : X → Y → Type 0) (xs : List X) (ys : List Y) (k : ℕ) (x : X) (y : Y) → Pairs P xs ys → slice_get xs k ≡ Some x → P x y → Pairs P xs (slice_set ys k y)
pairs_set P [] ys k x y f h p = tt
pairs_set P (z ∷ zs) [] k x y f h p = tt
pairs_set P (z ∷ zs) (v ∷ vs) zero x y f h p = let s : x ≡ z = cc in (subst (λ q. P q y) s p, f.1)
pairs_set P (z ∷ zs) (v ∷ vs) (suc k) x y f h p = (f.0, pairs_set P zs vs k x y f.1 h p)

pub pairs_changed : {X Y : Type 0} (P : X → Y → Type 0) (g : Y → Y) (xs : List X) (ys : List Y) (k : ℕ) (x : X) → Pairs P xs ys → slice_get xs k ≡ Some x → ((y : Y) → P x y → P x (g y)) → Pairs P xs (changed g ys k)
pairs_changed P g [] ys k x f h p = tt
pairs_changed P g (z ∷ zs) [] k x f h p = tt
pairs_changed P g (z ∷ zs) (v ∷ vs) zero x f h p = let s : x ≡ z = cc in (subst (λ q. P q (g v)) s (p v (subst (λ q. P q v) (sym s) f.0)), f.1)
pairs_changed P g (z ∷ zs) (v ∷ vs) (suc k) x f h p = (f.0, pairs_changed P g zs vs k x f.1 h p)

pub pairs_map : {X Y : Type 0} (P : X → Y → Type 0) (g : Y → Y) → ((x : X) (y : Y) → P x y → P x (g y)) → (xs : List X) (ys : List Y) → Pairs P xs ys → Pairs P xs (map g ys)
pairs_map P g p [] ys f = tt
pairs_map P g p (x ∷ xs) [] f = tt
pairs_map P g p (x ∷ xs) (y ∷ ys) f = (p x y f.0, pairs_map P g p xs ys f.1)

module _ (c : Config) where
  -- the guest at a place is of the class
  abbrev pub Holds : AccessClass → ℕ → Type 0
  Holds class g = (row : GuestRow) × (slice_get c.guests g ≡ Some row) × (row.class ≡ class)

  abbrev pub ConnectFits : Terminal → Option ℕ → Type 0
  ConnectFits k None = Unit {0}
  ConnectFits k (Some g) = Holds k.class g

  abbrev pub MountFits : AccessClass → Option Mounted → Type 0
  MountFits class m = may_mount c.volumes class m ≡ true

  abbrev pub MountsFit : GuestRow → List (Option Mounted) → Type 0
  MountsFit row ms = Each (MountFits row.class) ms

  pub record Fits (s : SystemState) : Type 0 where
    pub connected : Pairs ConnectFits c.terminals s.connected
    pub mounts : Pairs MountsFit c.guests s.mounts

  -- what a command of a terminal's class may touch
  abbrev pub CommandFits : AccessClass → Command → Type 0
  CommandFits class (to_.Connect g) = Holds class g
  CommandFits class (to_.Start g) = Holds class g
  CommandFits class (to_.Halt g) = Holds class g
  CommandFits class (to_.MountAt g unit m) = Holds class g × MountFits class (Some m)
  CommandFits class (to_.Dismount g unit) = Holds class g
  CommandFits class to_.Show = Unit {0}

  abbrev pub VerdictFits : AccessClass → Verdict → Type 0
  VerdictFits class (Granted command) = CommandFits class command
  VerdictFits class BadCommand = Unit {0}
  VerdictFits class NoSuchObject = Unit {0}
  VerdictFits class (Denied rule) = Unit {0}

  fits_row : (class : AccessClass) (g : ℕ) (command : Command) → (Holds class g → CommandFits class command) → (o : Option GuestRow) → slice_get c.guests g ≡ o → VerdictFits class (on_row class o command)
  fits_row class g command k None at = tt
  fits_row class g command k (Some row) at = both (same_class row.class class) (λ e. rw e (k (row, at, same_is row.class class e))) (λ e. rw e tt)

  fits_guest : (class : AccessClass) (command : ℕ → Command) → ((g : ℕ) → Holds class g → CommandFits class (command g)) → (o : Option ℕ) → VerdictFits class (on_guest c.guests class o command)
  fits_guest class command k None = tt
  fits_guest class command k (Some g) = fits_row class g (command g) (k g) (slice_get c.guests g) refl

  abbrev SeenVolume : AccessClass → Option ℕ → Type 0
  SeenVolume class o = StandsAt (λ (v : VolumeRow). does_flow v.class class ≡ true) c.volumes o

  seen_volume : (class : AccessClass) (name : List ℕ) → SeenVolume class (visible_volume_place c.volumes class name)
  seen_volume class name =
      let found = first_stands (λ (v : VolumeRow). bytes_eq v.name name && does_flow v.class class) (λ (v : VolumeRow). does_flow v.class class ≡ true) c.volumes
      (λ k d within h. (and_parts (bytes_eq (get_or c.volumes k d).name name) (does_flow (get_or c.volumes k d).class class) h).1) in
      subst (SeenVolume class) (sym (position_is (λ (v : VolumeRow). bytes_eq v.name name && does_flow v.class class) c.volumes)) found

  mount_holds : (class : AccessClass) (k : ℕ) (v : VolumeRow) → slice_get c.volumes k ≡ Some v → does_flow v.class class ≡ true → (write : Bool) → (write && not (same_class v.class class)) ≡ false → MountFits class (Some (record { volume = k; write = write }))
  mount_holds class k v at flow false h = rw (at, flow) refl
  mount_holds class k v at flow true h = both (same_class v.class class)
      (λ e. rw (at, flow, e) refl)
      (λ e. absurd (true≢false (rw e at h)))

  fits_rows : (class : AccessClass) (write : Bool) (g unit k : ℕ) (v : VolumeRow) → slice_get c.volumes k ≡ Some v → does_flow v.class class ≡ true → (o : Option GuestRow) → slice_get c.guests g ≡ o
      → VerdictFits class (on_rows class write o (Some v) (to_.MountAt g unit (record { volume = k; write = write })))
  fits_rows class write g unit k v vat flow None at = tt
  fits_rows class write g unit k v vat flow (Some row) at = both (same_class row.class class)
      (λ e. both (write && not (same_class v.class class))
      (λ b. rw (e, b) tt)
      (λ b. rw (e, b) ((row, at, same_is row.class class e), mount_holds class k v vat flow write b)))
      (λ e. rw e tt)

  fits_mount : (class : AccessClass) (unit : ℕ) (write : Bool) (o u : Option ℕ) → SeenVolume class u → VerdictFits class (on_mount c class o unit u write)
  fits_mount class unit write None None h = tt
  fits_mount class unit write None (Some k) h = tt
  fits_mount class unit write (Some g) None h = tt
  fits_mount class unit write (Some g) (Some k) h = rw (h.1) (fits_rows class write g unit k h.0 h.1 h.2 (slice_get c.guests g) refl)

  fits_unless : (class : AccessClass) (m : Option Mounted) (v : Verdict) → VerdictFits class v → VerdictFits class (unless_empty m v)
  fits_unless class None (Granted command) f = tt
  fits_unless class None BadCommand f = tt
  fits_unless class None NoSuchObject f = tt
  fits_unless class None (Denied rule) f = tt
  fits_unless class (Some m) (Granted command) f = f
  fits_unless class (Some m) BadCommand f = tt
  fits_unless class (Some m) NoSuchObject f = tt
  fits_unless class (Some m) (Denied rule) f = tt

  module _ (s : SystemState) where
    fits_dismount : (class : AccessClass) (unit : ℕ) (o : Option ℕ) → VerdictFits class (on_dismount c (server_of s) class o unit)
    fits_dismount class unit None = tt
    fits_dismount class unit (Some g) = fits_unless class (mount_at (server_of s) g unit) (on_row class (slice_get c.guests g) (to_.Dismount g unit))
        (fits_row class g (to_.Dismount g unit) (λ h. h) (slice_get c.guests g) refl)

    fits_asked : (class : AccessClass) (asked : Option NamedCommand) → VerdictFits class (judged_line c (server_of s) class asked)
    unfolding judged
    fits_asked class None = tt
    fits_asked class (Some (Connect vm)) = fits_guest class to_.Connect (λ g h. h) (visible_guest_place c.guests class vm)
    fits_asked class (Some (Start vm)) = fits_guest class to_.Start (λ g h. h) (visible_guest_place c.guests class vm)
    fits_asked class (Some (Halt vm)) = fits_guest class to_.Halt (λ g h. h) (visible_guest_place c.guests class vm)
    fits_asked class (Some (Mount vm unit volume write)) = fits_mount class unit write (visible_guest_place c.guests class vm) (visible_volume_place c.volumes class volume) (seen_volume class volume)
    fits_asked class (Some (Dismount vm unit)) = fits_dismount class unit (visible_guest_place c.guests class vm)
    fits_asked class (Some Show) = tt

    pub verdict_fits : (n : ℕ) (t : Terminal) (text : List ℕ) → slice_get c.terminals n ≡ Some t → VerdictFits t.class (verdict_of c (server_of s) n text)
    verdict_fits n t text at = rw at (fits_asked t.class (asked_in text))

  -- every event keeps the rules
  freed_fits : (g : ℕ) (k : Terminal) (o : Option ℕ) → ConnectFits k o → ConnectFits k (freed g o)
  freed_fits g k o f = both (is_at g o) (λ e. rw e tt) (λ e. rw e f)

  mount_kept : (s : SystemState) → Fits s → (g unit : ℕ) (row : GuestRow) (m : Option Mounted) → slice_get c.guests g ≡ Some row → MountFits row.class m
      → Pairs MountsFit c.guests (slice_set s.mounts g (slice_set (slice_index_or s.mounts g []) unit m))
  mount_kept s f g unit row m at fm =
      subst (Pairs MountsFit c.guests) (sym (set_is_changed (λ (ms : List (Option Mounted)). slice_set ms unit m) s.mounts g []))
      (pairs_changed MountsFit (λ (ms : List (Option Mounted)). slice_set ms unit m) c.guests s.mounts g row f.mounts at (λ ms each. each_set (MountFits row.class) ms unit m fm each))

  fits_obeyed : (s : SystemState) → Fits s → (n : ℕ) (k : Terminal) → slice_get c.terminals n ≡ Some k → (command : Command) → CommandFits k.class command → Fits (obeyed c s n k command).now
  fits_obeyed s f n k at (to_.Connect g) h = record {
    connected = pairs_set ConnectFits c.terminals (map (freed g) s.connected) n k (Some g) (pairs_map ConnectFits (freed g) (freed_fits g) c.terminals s.connected f.connected) at h;
    mounts = f.mounts;
  }
  fits_obeyed s f n k at (to_.Start g) h = record { connected = f.connected; mounts = f.mounts }
  fits_obeyed s f n k at (to_.Halt g) h = record { connected = f.connected; mounts = f.mounts }
  fits_obeyed s f n k at (to_.MountAt g unit m) h = record { connected = f.connected; mounts = mount_kept s f g unit h.0.0 (Some m) h.0.1 (subst (λ class. MountFits class (Some m)) (sym h.0.2) h.1) }
  fits_obeyed s f n k at (to_.Dismount g unit) h = record { connected = f.connected; mounts = mount_kept s f g unit h.0 None h.1 refl }
  fits_obeyed s f n k at to_.Show h = f

  fits_verdict : (s : SystemState) → Fits s → (n : ℕ) (k : Terminal) → slice_get c.terminals n ≡ Some k → (v : Verdict) → VerdictFits k.class v → Fits (after_verdict c s n k v).now
  fits_verdict s f n k at (Granted command) h = fits_obeyed s f n k at command h
  fits_verdict s f n k at BadCommand h = f
  fits_verdict s f n k at NoSuchObject h = f
  fits_verdict s f n k at (Denied rule) h = f

  fits_lined : (round : ℕ) (s : SystemState) → Fits s → (n : ℕ) (k : Terminal) → slice_get c.terminals n ≡ Some k → (text : List ℕ) (o : Option ℕ) → Fits (lined c round s n k text o).now
  fits_lined round s f n k at text None = fits_verdict s f n k at (verdict_of c (server_of s) n text) (verdict_fits s n k text at)
  fits_lined round s f n k at text (Some g) = record { connected = f.connected; mounts = f.mounts }

  fits_acted : (round : ℕ) (s : SystemState) → Fits s → (n : ℕ) (o : Option Terminal) → slice_get c.terminals n ≡ o → (what : Typed) → Fits (at_row c round s n o what).now
  fits_acted round s f n None at what = f
  fits_acted round s f n (Some k) at Break = record { connected = pairs_set ConnectFits c.terminals s.connected n k None f.connected at tt; mounts = f.mounts }
  fits_acted round s f n (Some k) at (Line text) = fits_lined round s f n k at text (slice_index_or s.connected n None)

  fits_place : (round : ℕ) (s : SystemState) → Fits s → (o : Option ℕ) (what : Typed) → Fits (at_place c round s o what).now
  fits_place round s f None what = f
  fits_place round s f (Some n) what = fits_acted round s f n (slice_get c.terminals n) refl what

  pub fits_happened : (round : ℕ) (s : SystemState) → Fits s → (e : Event) → Fits (happened c round s e).now
  fits_happened round s f e = fits_place round s f (place_of (is_named e.terminal) c.terminals) e.what

  pub fits_events : (round : ℕ) (s : SystemState) → Fits s → (es : List Event) → Fits (events c round s es).now
  fits_events round s f [] = f
  fits_events round s f (e ∷ es) = fits_events round (happened c round s e).now (fits_happened round s f e) es
