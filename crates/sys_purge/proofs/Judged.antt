-- The server's answer over the purged configuration is the whole one's, with places among what is kept.
use Rattle.std.proofs.Common.{◌≡◌, ◌+◌, ℕ, zero, suc, List, [], ◌∷◌, map, filter, Bool, true, false, not, ◌&&◌, refl, sym, ap, ◌∙◌, Option, Some, None, option_map, slice_get, slice_index_or, if◌then◌else◌, arith, get_or}
use Rattle.std.specs.Str.{bytes_eq}
use Rattle.std.specs.List.{position, position_from}
use Rattle.std.proofs.lemmas.Bool.{and_parts}
use Rattle.std.proofs.lemmas.Iterator.Adapters.{position_from-zero}
use Rattle.vv_class.specs.declared.class.AccessClass.{AccessClass}
use Rattle.vv_class.specs.Class.{does_flow}
use Rattle.sys_objects.specs.Rules.{same_class}
use Rattle.sys_objects.specs.declared.records.Config.{Config}
use Rattle.sys_objects.specs.declared.records.GuestRow.{GuestRow}
use Rattle.sys_objects.specs.declared.records.Mount.{Mount as Mounted}
use Rattle.sys_objects.specs.declared.records.VolumeRow.{VolumeRow}
use Rattle.sys_purge.proofs.Accepted.{flows_on}
use Rattle.sys_purge.proofs.Kept.{both, get_kept}
use Rattle.sys_purge.proofs.Places.{StandsAt, first_stands, place_kept}
use Rattle.sys_purge.specs.Input.{beside, is_kept}
use Rattle.sys_purge.specs.Judged.{KeepsVerdicts, guest_rank, is_kept_terminal, moved_command, moved_verdict, purged_state}
use Rattle.sys_purge.specs.Purge.{mount_place, purge_config, rank, renumbered}
use Rattle.sys_state.specs.Places.{place_of}
use Rattle.sys_server.specs.CommandLine.{asked_in}
use Rattle.sys_server.specs.Verdict.{judged, judged_at, judged_line, mount_at, on_dismount, on_guest, on_mount, on_row, on_rows, unless_empty, visible_guest_place, visible_volume_place}
use Rattle.sys_server.specs.declared.command.NamedCommand.{NamedCommand}
use Rattle.sys_server.specs.declared.command.NamedCommand.TheVariants.{Connect, Start, Halt, Mount, Dismount, Show}
use Rattle.sys_server.specs.declared.command.Command.{Command}
use Rattle.sys_server.specs.declared.command.Command.TheVariants as to_
use Rattle.sys_server.specs.declared.command.Rule.TheVariants.{Equal, Write}
use Rattle.sys_server.specs.declared.command.ServerState.{ServerState}
use Rattle.sys_server.specs.declared.command.Verdict.{Verdict}
use Rattle.sys_server.specs.declared.command.Verdict.TheVariants.{Granted, BadCommand, NoSuchObject, Denied}

-- the first place, as std has it
shifted : (i : ℕ) (o : Option ℕ) → option_map (λ n. i + 1 + n) o ≡ option_map (λ n. i + n) (option_map suc o)
shifted i None = refl
shifted i (Some n) = let e : i + 1 + n ≡ i + suc n = omega arith in ap Some e

from_place : {X : Type 0} (p : X → Bool) (i : ℕ) (xs : List X) → position_from p i xs ≡ option_map (λ n. i + n) (place_of p xs)
from_place p i [] = refl
from_place p i (x ∷ xs) = let rest = from_place p (i + 1) xs in let e : i ≡ i + 0 = omega arith in both (p x)
    (λ b. rw b (ap Some e))
    (λ b. rw b (rest ∙ shifted i (place_of p xs)))

at_zero : (o : Option ℕ) → option_map (λ n. 0 + n) o ≡ o
at_zero None = refl
at_zero (Some n) = let e : 0 + n ≡ n = omega arith in ap Some e

pub position_is : {X : Type 0} (p : X → Bool) (xs : List X) → position p xs ≡ place_of p xs
position_is p xs = position_from-zero p xs ∙ from_place p 0 xs ∙ at_zero (place_of p xs)

pub as_it_is : {X : Type 0} (xs : List X) → map (λ x. x) xs ≡ xs
as_it_is [] = refl
as_it_is (x ∷ xs) = ap (λ ys. x ∷ ys) (as_it_is xs)

pub get_map : {X Y : Type 0} (f : X → Y) (xs : List X) (k : ℕ) → slice_get (map f xs) k ≡ option_map f (slice_get xs k)
get_map f [] k = refl
get_map f (x ∷ xs) zero = refl
get_map f (x ∷ xs) (suc k) = get_map f xs k

index_map : {X Y : Type 0} (f : X → Y) (xs : List X) (k : ℕ) (d : X) (e : Y) → f d ≡ e → slice_index_or (map f xs) k e ≡ f (slice_index_or xs k d)
index_map f [] k d e h = sym h
index_map f (x ∷ xs) zero d e h = refl
index_map f (x ∷ xs) (suc k) d e h = index_map f xs k d e h

index_beside : {X Y : Type 0} (test : X → Bool) (x : X) → test x ≡ true → (xs : List X) (ys : List Y) (k : ℕ) (d : Y) → slice_get xs k ≡ Some x → slice_index_or (beside test xs ys) (rank test xs k) d ≡ slice_index_or ys k d
index_beside test x e [] ys k d at = cc
index_beside test x e (z ∷ xs) [] k d at = refl
index_beside test x e (z ∷ xs) (y ∷ ys) zero d at = let s : z ≡ x = cc in let kept : test z ≡ true = ap test s ∙ e in rw kept refl
index_beside test x e (z ∷ xs) (y ∷ ys) (suc k) d at = let rest = index_beside test x e xs ys k d at in both (test z) (λ b. rw b rest) (λ b. rw b rest)

module _ (c : Config) (to : AccessClass) where
  abbrev is_seen : AccessClass → List ℕ → GuestRow → Bool
  is_seen class name g = bytes_eq g.name name && does_flow g.class class

  abbrev is_seen_volume : AccessClass → List ℕ → VolumeRow → Bool
  is_seen_volume class name v = bytes_eq v.name name && does_flow v.class class

  abbrev keeps_volume : VolumeRow → Bool
  keeps_volume v = does_flow v.class to

  seen_flows : (class : AccessClass) → does_flow class to ≡ true → (name : List ℕ) (g : GuestRow) → is_seen class name g ≡ true → is_kept to g ≡ true
  seen_flows class e name g h = flows_on g.class class to (and_parts (bytes_eq g.name name) (does_flow g.class class) h).1 e

  seen_volume_flows : (class : AccessClass) → does_flow class to ≡ true → (name : List ℕ) (v : VolumeRow) → is_seen_volume class name v ≡ true → keeps_volume v ≡ true
  seen_volume_flows class e name v h = flows_on v.class class to (and_parts (bytes_eq v.name name) (does_flow v.class class) h).1 e

  same_guest : (class : AccessClass) → does_flow class to ≡ true → (name : List ℕ) → visible_guest_place (purge_config c to).guests class name ≡ option_map (guest_rank c to) (place_of (is_seen class name) c.guests)
  same_guest class e name =
      position_is (is_seen class name) (map (renumbered to c) (filter (is_kept to) c.guests))
      ∙ place_kept (is_kept to) (is_seen class name) (is_seen class name) (renumbered to c) c.guests (λ k d within kept. refl) (λ k d within h. seen_flows class e name (get_or c.guests k d) h)

  same_volume : (class : AccessClass) → does_flow class to ≡ true → (name : List ℕ) → visible_volume_place (purge_config c to).volumes class name ≡ option_map (rank keeps_volume c.volumes) (place_of (is_seen_volume class name) c.volumes)
  same_volume class e name =
      position_is (is_seen_volume class name) (filter keeps_volume c.volumes)
      ∙ ap (place_of (is_seen_volume class name)) (sym (as_it_is (filter keeps_volume c.volumes)))
      ∙ place_kept keeps_volume (is_seen_volume class name) (is_seen_volume class name) (λ v. v) c.volumes (λ k d within kept. refl) (λ k d within h. seen_volume_flows class e name (get_or c.volumes k d) h)

  abbrev Stands : Option ℕ → Type 0
  Stands o = StandsAt (λ g. is_kept to g ≡ true) c.guests o

  abbrev VolumeStands : Option ℕ → Type 0
  VolumeStands o = StandsAt (λ v. keeps_volume v ≡ true) c.volumes o

  stands : (class : AccessClass) → does_flow class to ≡ true → (name : List ℕ) → Stands (place_of (is_seen class name) c.guests)
  stands class e name = first_stands (is_seen class name) (λ g. is_kept to g ≡ true) c.guests (λ k d within h. seen_flows class e name (get_or c.guests k d) h)

  volume_stands : (class : AccessClass) → does_flow class to ≡ true → (name : List ℕ) → VolumeStands (place_of (is_seen_volume class name) c.volumes)
  volume_stands class e name = first_stands (is_seen_volume class name) (λ v. keeps_volume v ≡ true) c.volumes (λ k d within h. seen_volume_flows class e name (get_or c.volumes k d) h)

  pub row_kept : (g : ℕ) (row : GuestRow) → slice_get c.guests g ≡ Some row → is_kept to row ≡ true → slice_get (purge_config c to).guests (guest_rank c to g) ≡ Some (renumbered to c row)
  row_kept g row at e = get_map (renumbered to c) (filter (is_kept to) c.guests) (guest_rank c to g) ∙ ap (option_map (renumbered to c)) (get_kept (is_kept to) row e c.guests g at)

  granted : (b : Bool) (x y : Command) → moved_command c to x ≡ y → (if b then Granted y else Denied Equal) ≡ moved_verdict c to (if b then Granted x else Denied Equal)
  granted true x y e = ap Granted (sym e)
  granted false x y e = refl

  mounted : (a b : Bool) (x y : Command) → moved_command c to x ≡ y → (if a then Denied Equal else if b then Denied Write else Granted y) ≡ moved_verdict c to (if a then Denied Equal else if b then Denied Write else Granted x)
  mounted true b x y e = refl
  mounted false true x y e = refl
  mounted false false x y e = ap Granted (sym e)

  moved_row : (class : AccessClass) (g : ℕ) (x y : Command) → moved_command c to x ≡ y → Stands (Some g) → on_row class (slice_get (purge_config c to).guests (guest_rank c to g)) y ≡ moved_verdict c to (on_row class (slice_get c.guests g) x)
  moved_row class g x y e h =
      ap (λ r. on_row class r y) (row_kept g h.0 h.1 h.2) ∙ granted (same_class h.0.class class) x y e ∙ ap (λ r. moved_verdict c to (on_row class r x)) (sym h.1)

  moved_guest : (class : AccessClass) (command : ℕ → Command) → ((g : ℕ) → moved_command c to (command g) ≡ command (guest_rank c to g)) → (o : Option ℕ) → Stands o
      → on_guest (purge_config c to).guests class (option_map (guest_rank c to) o) command ≡ moved_verdict c to (on_guest c.guests class o command)
  moved_guest class command k None h = refl
  moved_guest class command k (Some g) h = moved_row class g (command g) (command (guest_rank c to g)) (k g) h

  moved_mount : (class : AccessClass) (unit : ℕ) (write : Bool) (o : Option ℕ) → Stands o → (u : Option ℕ) → VolumeStands u
      → on_mount (purge_config c to) class (option_map (guest_rank c to) o) unit (option_map (rank keeps_volume c.volumes) u) write ≡ moved_verdict c to (on_mount c class o unit u write)
  moved_mount class unit write None h None k = refl
  moved_mount class unit write None h (Some j) k = refl
  moved_mount class unit write (Some g) h None k = refl
  moved_mount class unit write (Some g) h (Some j) k =
      let x : Command = to_.MountAt g unit (record { volume = j; write = write }) in
      let y : Command = to_.MountAt (guest_rank c to g) unit (record { volume = rank keeps_volume c.volumes j; write = write }) in
      let row = row_kept g h.0 h.1 h.2 in
      let volume = get_kept keeps_volume k.0 k.2 c.volumes j k.1 in
      (λ i. on_rows class write (row i) (volume i) y)
      ∙ mounted (not (same_class h.0.class class)) (write && not (same_class k.0.class class)) x y refl
      ∙ (λ i. moved_verdict c to (on_rows class write (sym h.1 i) (sym k.1 i) x))

  moved_empty : (mount : Option Mounted) (v : Verdict) → unless_empty (mount_place to c.volumes mount) (moved_verdict c to v) ≡ moved_verdict c to (unless_empty mount v)
  moved_empty None (Granted command) = refl
  moved_empty None BadCommand = refl
  moved_empty None NoSuchObject = refl
  moved_empty None (Denied rule) = refl
  moved_empty (Some m) (Granted command) = refl
  moved_empty (Some m) BadCommand = refl
  moved_empty (Some m) NoSuchObject = refl
  moved_empty (Some m) (Denied rule) = refl

  moved_mount_at : (s : ServerState) (g unit : ℕ) → Stands (Some g) → mount_at (purged_state c to s) (guest_rank c to g) unit ≡ mount_place to c.volumes (mount_at s g unit)
  moved_mount_at s g unit h =
      ap (λ ms. slice_index_or ms unit None) (index_map (map (mount_place to c.volumes)) (beside (is_kept to) c.guests s.mounts) (guest_rank c to g) [] [] refl
      ∙ ap (map (mount_place to c.volumes)) (index_beside (is_kept to) h.0 h.2 c.guests s.mounts g [] h.1))
      ∙ index_map (mount_place to c.volumes) (slice_index_or s.mounts g []) unit None None refl

  moved_dismount : (s : ServerState) (class : AccessClass) (unit : ℕ) (o : Option ℕ) → Stands o
      → on_dismount (purge_config c to) (purged_state c to s) class (option_map (guest_rank c to) o) unit ≡ moved_verdict c to (on_dismount c s class o unit)
  moved_dismount s class unit None h = refl
  moved_dismount s class unit (Some g) h =
      let mount = moved_mount_at s g unit h in
      let row = moved_row class g (to_.Dismount g unit) (to_.Dismount (guest_rank c to g) unit) refl h in
      (λ i. unless_empty (mount i) (row i)) ∙ moved_empty (mount_at s g unit) (on_row class (slice_get c.guests g) (to_.Dismount g unit))

  by_guest : (class : AccessClass) → does_flow class to ≡ true → (name : List ℕ) (command : ℕ → Command) → ((g : ℕ) → moved_command c to (command g) ≡ command (guest_rank c to g))
      → on_guest (purge_config c to).guests class (visible_guest_place (purge_config c to).guests class name) command ≡ moved_verdict c to (on_guest c.guests class (visible_guest_place c.guests class name) command)
  by_guest class e name command k =
      ap (λ o. on_guest (purge_config c to).guests class o command) (same_guest class e name)
      ∙ moved_guest class command k (place_of (is_seen class name) c.guests) (stands class e name)
      ∙ ap (λ o. moved_verdict c to (on_guest c.guests class o command)) (sym (position_is (is_seen class name) c.guests))

  moved_judged : (s : ServerState) (class : AccessClass) → does_flow class to ≡ true → (asked : NamedCommand) → judged (purge_config c to) (purged_state c to s) class asked ≡ moved_verdict c to (judged c s class asked)
  unfolding judged
  moved_judged s class e (Connect vm) = by_guest class e vm to_.Connect (λ g. refl)
  moved_judged s class e (Start vm) = by_guest class e vm to_.Start (λ g. refl)
  moved_judged s class e (Halt vm) = by_guest class e vm to_.Halt (λ g. refl)
  moved_judged s class e (Mount vm unit volume write) =
      let guest = same_guest class e vm in
      let drive = same_volume class e volume in
      let guest' = sym (position_is (is_seen class vm) c.guests) in
      let drive' = sym (position_is (is_seen_volume class volume) c.volumes) in
      (λ i. on_mount (purge_config c to) class (guest i) unit (drive i) write)
      ∙ moved_mount class unit write (place_of (is_seen class vm) c.guests) (stands class e vm) (place_of (is_seen_volume class volume) c.volumes) (volume_stands class e volume)
      ∙ (λ i. moved_verdict c to (on_mount c class (guest' i) unit (drive' i) write))
  moved_judged s class e (Dismount vm unit) =
      ap (λ o. on_dismount (purge_config c to) (purged_state c to s) class o unit) (same_guest class e vm)
      ∙ moved_dismount s class unit (place_of (is_seen class vm) c.guests) (stands class e vm)
      ∙ ap (λ o. moved_verdict c to (on_dismount c s class o unit)) (sym (position_is (is_seen class vm) c.guests))
  moved_judged s class e Show = refl

  moved_line : (s : ServerState) (class : AccessClass) → does_flow class to ≡ true → (asked : Option NamedCommand) → judged_line (purge_config c to) (purged_state c to s) class asked ≡ moved_verdict c to (judged_line c s class asked)
  moved_line s class e None = refl
  moved_line s class e (Some asked) = moved_judged s class e asked

pub keeps_verdicts : KeepsVerdicts
keeps_verdicts c to s n t text at e =
    ap (λ o. judged_at (purge_config c to) (purged_state c to s) o text) (get_kept (is_kept_terminal to) t e c.terminals n at)
    ∙ moved_line c to s t.class e (asked_in text)
    ∙ ap (λ o. moved_verdict c to (judged_at c s o text)) (sym at)
