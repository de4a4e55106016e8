-- The run of the guest A: what it shows is what it shows alone.
use Rattle.std.proofs.Common.{ℕ, ◌≡◌, ◌<◌, ◌^◌, List, [], ◌∷◌, ◌++◌, length, codes, refl, sym, ◌∙◌, ap, arith, append-nil, false, if◌then◌else◌, ◌==◌, Option, None, Some}
use Rattle.std.proofs.lemmas.Bool.{ne_eqb}
use Rattle.sys_objects.specs.declared.records.Config.{Config}
use Rattle.sys_objects.specs.declared.records.GuestRow.{GuestRow}
use Rattle.sys_objects.specs.declared.records.Mount.{Mount}
use Rattle.sys_state.proofs.Consoles.{bytes_of_console}
use Rattle.sys_state.proofs.Steps.{as_sum, trail_fits}
use Rattle.sys_state.specs.Consoles.{on_console}
use Rattle.sys_state.specs.Counts.{added}
use Rattle.sys_state.specs.Dump.{dump_of}
use Rattle.sys_state.specs.Guests.{alone, powered, with_no_queue}
use Rattle.sys_state.specs.State.{Put, bytes_on}
use Rattle.sys_state.specs.Transfers.{Move, Packet, Prints, Reads, Refused, Writes, move_of, moved, packet_at, served, served_one}
use Rattle.vm_state.specs.Run.{Tally, no_steps}
use Rattle.vm_state.specs.State.{Guest}
use Rattle.vvmm_files.specs.Solo.{solo_config, solo_guest}
use Rattle.vvmm_laws.specs.Alone.{RunsAlone, served_alone}

-- without a printer no transfer shows anything
moved_unseen : (c : Config) (row : GuestRow) (g : Guest) (at : ℕ) (p : Packet) (volumes : List (List (List ℕ))) (move : Move) → row.printer ≡ None → (moved c row g at p volumes move).puts ≡ []
moved_unseen c row g at p volumes (Refused status) none = refl
moved_unseen c row g at p volumes (Reads v) none = refl
moved_unseen c row g at p volumes (Writes v) none = refl
moved_unseen c row g at p volumes Prints none = rw none refl

served_unseen : (c : Config) (row : GuestRow) (mounts : List (Option Mount)) (g : Guest) (queue : List ℕ) (volumes : List (List (List ℕ))) → row.printer ≡ None → (served c row mounts g queue volumes).puts ≡ []
served_unseen c row mounts g [] volumes none = refl
served_unseen c row mounts g (at ∷ queue) volumes none =
    let one = served_one c row mounts g at volumes in
    let p = packet_at g.memory at in
    let here : one.puts ≡ [] = moved_unseen c row g at p volumes (move_of (length g.memory) volumes mounts p) none in
    (λ i. here i ++ (served c row mounts one.guest queue one.volumes).puts) ∙ served_unseen c row mounts one.guest queue one.volumes none

-- what a line is shown in the one round
console_bytes : (k : ℕ) (shown : List ℕ) (later : List Put) → later ≡ [] → bytes_on k (((on_console (Some 0) shown ++ []) ++ (later ++ [])) ++ []) ≡ (if 0 == k then shown else [])
console_bytes k shown later none =
    let own = on_console (Some 0) shown in
    let whole : ((own ++ []) ++ (later ++ [])) ++ [] ≡ own = append-nil _ ∙ (λ i. (own ++ []) ++ (none i ++ [])) ∙ append-nil (own ++ []) ∙ append-nil own in
    ap (bytes_on k) whole ∙ bytes_of_console k (Some 0) shown

-- the sum of one guest's steps in one round
one_sum : (t : Tally) → t.trail < 2 ^ 64 → added (added t no_steps) no_steps ≡ t
one_sum t fits =
    let same : added t no_steps ≡ t = sym (as_sum t fits) in
    ap (λ (u : Tally). added u no_steps) same ∙ same

pub runs_alone : RunsAlone
runs_alone a image =
    let g = powered (solo_guest a) image in
    let own = alone a.steps g in
    let later : List Put = (served (solo_config a) (solo_guest a) (solo_guest a).mounts (with_no_queue own.guest) own.guest.state.queue []).puts in
    let none : later ≡ [] = served_unseen (solo_config a) (solo_guest a) (solo_guest a).mounts (with_no_queue own.guest) own.guest.state.queue [] refl in
    let last = dump_of (codes "A") (served_alone a own.guest) in
    record {
      console = ap (λ xs. xs ++ []) (console_bytes 0 own.shown later none) ∙ append-nil own.shown;
      dump = ap (λ xs. xs ++ last) (console_bytes 1 own.shown later none);
      others = λ k h.
          let zero_apart : (0 == k) ≡ false = ne_eqb 0 k (λ e. omega (arith, e, h)) in
          let one_apart : (1 == k) ≡ false = ne_eqb 1 k (λ e. omega (arith, e, h)) in
          (λ i. (console_bytes k own.shown later none ∙ ap (λ b. if b then own.shown else []) zero_apart) i ++ (if one_apart i then last else []));
      counts = one_sum own.tally (trail_fits a.steps g);
    }
