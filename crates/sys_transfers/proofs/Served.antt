-- A packet is served: its move is made, and it is answered.
use Rattle.std.proofs.Common.{◌≡◌, ℕ, zero, suc, ◌+◌, ◌*◌, ◌%◌, ◌<◌, ◌==◌, All, arith, Bool, true, false, List, [], ◌∷◌, ◌++◌, length, slice_index_or, Option, Some, None, refl, ap, ◌∙◌, sym, subst, if◌then◌else◌}
use Rattle.std.specs.Prelude.{IfSome, nat_lt}
use Rattle.vax_arch.specs.Walk.{is_past}
use Rattle.std.proofs.lemmas.Bool.{ne_eqb}
use Rattle.vax_hw.specs.Machine.{Machine}
use Rattle.vv_base.specs.Bytes.{long_bytes}
use Rattle.vm_simulation_laws.specs.Moves.{Drops}
use Rattle.vm_simulation_laws.proofs.Own.{none_dropped}
use Rattle.vm_guest.specs.Kept.{Becomes, IsShadowedIn, Kept, TakesState, frames_from, guest_in}
use Rattle.vm_state.specs.Packets.{status_place}
use Rattle.vm_state.specs.State.{Guest, State}
use Rattle.vm_state.specs.Translation.{frame_at}
use Rattle.vm_stepping.proofs.Paying.{dropped_then}
use Rattle.sys_objects.specs.declared.records.Config.{Config}
use Rattle.sys_objects.specs.declared.records.GuestRow.{GuestRow}
use Rattle.sys_objects.specs.declared.records.Mount.{Mount}
use Rattle.sys_state.specs.FirstTouches.{frames_by}
use Rattle.sys_state.specs.Guests.{answered}
use Rattle.sys_state.specs.Transfers.{Move, Packet, Prints, Reads, Refused, Served, Writes, move_of, moved, packet_at, printer_of, refused_block, to_print, to_read, to_write, unless_refused}
use Rattle.sys_transfers.specs.Serves.{Carries, CarriesAll, MountsNameVolumes, PrintsOf, ServesOne, carried, carried_volumes, frames_carried, frames_served, guest_scene, job_by, job_on, move_status, one_packet}
use Rattle.sys_transfers.proofs.Composing.{becomes_as, becomes_same, becomes_then, memory_size}
use Rattle.sys_transfers.proofs.Dropping.{dropped_within, status_frames}

-- the parts of a move that is made
moved_guest : (c : Config) (row : GuestRow) (g : Guest) (at : ℕ) (p : Packet) (volumes : List (List (List ℕ))) (move : Move) → answered at (move_status move) (carried move p volumes g) ≡ (moved c row g at p volumes move).guest
moved_guest c row g at p volumes (Refused status) = refl
moved_guest c row g at p volumes (Reads v) = refl
moved_guest c row g at p volumes (Writes v) = refl
moved_guest c row g at p volumes Prints = refl

moved_volumes : (c : Config) (row : GuestRow) (g : Guest) (at : ℕ) (p : Packet) (volumes : List (List (List ℕ))) (move : Move) → carried_volumes move p volumes g ≡ (moved c row g at p volumes move).volumes
moved_volumes c row g at p volumes (Refused status) = refl
moved_volumes c row g at p volumes (Reads v) = refl
moved_volumes c row g at p volumes (Writes v) = refl
moved_volumes c row g at p volumes Prints = refl

moved_puts : (c : Config) (row : GuestRow) (g : Guest) (at : ℕ) (p : Packet) (volumes : List (List (List ℕ))) (move : Move) → (moved c row g at p volumes move).puts ≡ job_on (printer_of c row.printer) (job_by row p g move)
moved_puts c row g at p volumes (Refused status) = refl
moved_puts c row g at p volumes (Reads v) = refl
moved_puts c row g at p volumes (Writes v) = refl
moved_puts c row g at p volumes Prints = refl

-- the move by the packet's function
module _ (space : ℕ) (volumes : List (List (List ℕ))) (mounts : List (Option Mount)) (p : Packet) where
  abbrev by_function : Bool → Bool → Bool → Move
  by_function one two three =
      if one then to_read space volumes (slice_index_or mounts p.unit None) p else
      if two then to_write space volumes (slice_index_or mounts p.unit None) p else
      if three then to_print space p else Refused 7

  pub asks_to_read : p.function ≡ 1 → move_of space volumes mounts p ≡ to_read space volumes (slice_index_or mounts p.unit None) p
  asks_to_read e = ap (λ n. by_function (n == 1) (n == 2) (n == 3)) e

  pub asks_to_write : p.function ≡ 2 → move_of space volumes mounts p ≡ to_write space volumes (slice_index_or mounts p.unit None) p
  asks_to_write e = ap (λ n. by_function (n == 1) (n == 2) (n == 3)) e

  pub asks_to_print : p.function ≡ 3 → move_of space volumes mounts p ≡ to_print space p
  asks_to_print e = ap (λ n. by_function (n == 1) (n == 2) (n == 3)) e

  pub asks_nothing : (p.function ≡ 1 → ⊥) → (p.function ≡ 2 → ⊥) → (p.function ≡ 3 → ⊥) → move_of space volumes mounts p ≡ Refused 7
  asks_nothing one two three = λ i. by_function (ne_eqb p.function 1 one i) (ne_eqb p.function 2 two i) (ne_eqb p.function 3 three i)

-- a move in another form
pub carries_all : (row : GuestRow) (mounts : List (Option Mount)) (p : Packet) (move : Move) (volumes volumes' : List (List (List ℕ))) (m : Machine) (k : Kept) (status : ℕ) (job : Option (List ℕ)) (m' : Machine) (k' : Kept) → move_of (512 * k.state.pages) volumes mounts p ≡ move
    → Carries move p (guest_scene volumes m k) status (guest_scene volumes' m' k') → job ≡ job_by row p (guest_in m.memory k) move → CarriesAll row mounts p (guest_scene volumes m k) (status, job) (guest_scene volumes' m' k')
carries_all row mounts p move volumes volumes' m k status job m' k' is carries printed = record {
  carries = subst (λ (x : Move). Carries x p (guest_scene volumes m k) status (guest_scene volumes' m' k')) (sym is) carries;
  job_is = printed ∙ ap (job_by row p (guest_in m.memory k)) (sym is);
}

-- the definition's packet is the one that was read
one_is : (c : Config) (row : GuestRow) (units : List (Option Mount)) (g : Guest) (at : ℕ) (p : Packet) (volumes : List (List (List ℕ))) (space : ℕ) → p ≡ packet_at g.memory at → space ≡ length g.memory → moved c row g at p volumes (move_of space volumes units p) ≡ one_packet c row units g at volumes
unfolding one_packet
one_is c row units g at p volumes space read size = λ i. moved c row g at (read i) volumes (move_of (size i) volumes units (read i))

one_guest : (c : Config) (row : GuestRow) (units : List (Option Mount)) (g : Guest) (at : ℕ) (p : Packet) (volumes : List (List (List ℕ))) (space : ℕ) → p ≡ packet_at g.memory at → space ≡ length g.memory → answered at (move_status (move_of space volumes units p)) (carried (move_of space volumes units p) p volumes g) ≡ (one_packet c row units g at volumes).guest
one_guest c row units g at p volumes space read size = moved_guest c row g at p volumes (move_of space volumes units p) ∙ ap (λ (s : Served). s.guest) (one_is c row units g at p volumes space read size)

one_volumes : (c : Config) (row : GuestRow) (units : List (Option Mount)) (g : Guest) (at : ℕ) (p : Packet) (volumes : List (List (List ℕ))) (space : ℕ) → p ≡ packet_at g.memory at → space ≡ length g.memory → carried_volumes (move_of space volumes units p) p volumes g ≡ (one_packet c row units g at volumes).volumes
one_volumes c row units g at p volumes space read size = moved_volumes c row g at p volumes (move_of space volumes units p) ∙ ap (λ (s : Served). s.volumes) (one_is c row units g at p volumes space read size)

one_shows : (c : Config) (row : GuestRow) (units : List (Option Mount)) (g : Guest) (at : ℕ) (p : Packet) (volumes : List (List (List ℕ))) (space : ℕ) → p ≡ packet_at g.memory at → space ≡ length g.memory → (one_packet c row units g at volumes).puts ≡ job_on (printer_of c row.printer) (job_by row p g (move_of space volumes units p))
one_shows c row units g at p volumes space read size = ap (λ (s : Served). s.puts) (sym (one_is c row units g at p volumes space read size)) ∙ moved_puts c row g at p volumes (move_of space volumes units p)

-- the frames that are written
frames_split : (at : ℕ) (p : Packet) (move : Move) → frames_carried move p ++ (frame_at (status_place at) ∷ []) ≡ frames_by at p move
frames_split at p (Refused status) = refl
frames_split at p (Reads v) = refl
frames_split at p (Writes v) = refl
frames_split at p Prints = refl

frames_are : (units : List (Option Mount)) (g : Guest) (at : ℕ) (p : Packet) (volumes : List (List (List ℕ))) (space : ℕ) → p ≡ packet_at g.memory at → space ≡ length g.memory → frames_carried (move_of space volumes units p) p ++ (frame_at (status_place at) ∷ []) ≡ frames_served units g at volumes
unfolding frames_served
frames_are units g at p volumes space read size = frames_split at p (move_of space volumes units p) ∙ (λ i. frames_by at (read i) (move_of (size i) volumes units (read i)))

pub status_dropped : (at status : ℕ) (bytes : List ℕ) (k k1 k2 : Kept) {x : State} → bytes ≡ long_bytes status → Drops (frames_from (at + 20) bytes) k.shadow k1.shadow → TakesState x k1 k2 → at % 4 ≡ 0 → Drops (frame_at (status_place at) ∷ []) k.shadow k2.shadow
status_dropped at status bytes k k1 k2 is drops turns aligned =
    let four : length bytes ≡ 4 = ap length is in
    subst (Drops (frame_at (status_place at) ∷ []) k.shadow) (sym turns.shadow) (dropped_within (at + 20) bytes (frame_at (status_place at) ∷ []) k.shadow k1.shadow (λ i h. status_frames at i aligned (omega (arith, h, four))) drops)

-- the whole
pub serves_one : (row : GuestRow) (mounts : List (Option Mount)) (at : ℕ) (p : Packet) (volumes volumes' : List (List (List ℕ))) (m : Machine) (k : Kept) (status : ℕ) (job : Option (List ℕ)) (m1 : Machine) (k1 : Kept) (m2 : Machine) (k2 : Kept) → IsShadowedIn m.memory k → p ≡ packet_at (guest_in m.memory k).memory at
    → CarriesAll row mounts p (guest_scene volumes m k) (status, job) (guest_scene volumes' m1 k1) → Becomes (answered at status (guest_in m1.memory k1)) m1 k1 m2 k2 → (at % 4 ≡ 0 → Drops (frame_at (status_place at) ∷ []) k1.shadow k2.shadow) → ServesOne row mounts at (guest_scene volumes m k) job (guest_scene volumes' m2 k2)
serves_one row mounts at p volumes volumes' m k status job m1 k1 m2 k2 stands read all answer answered_drops = record {
  becomes = λ c. becomes_as (answered at status (guest_in m1.memory k1)) (one_packet c row mounts (guest_in m.memory k) at volumes).guest m k m2 k2 (same c) whole;
  volumes_are = λ c. all.carries.volumes_are ∙ one_volumes c row mounts (guest_in m.memory k) at p volumes (512 * k.state.pages) read size;
  shows = λ c. one_shows c row mounts (guest_in m.memory k) at p volumes (512 * k.state.pages) read size ∙ ap (job_on (printer_of c row.printer)) (sym all.job_is);
  drops = λ aligned. subst (λ fs. Drops fs k.shadow k2.shadow) (frames_are mounts (guest_in m.memory k) at p volumes (512 * k.state.pages) read size)
      (dropped_then (frames_carried (move_of (512 * k.state.pages) volumes mounts p) p) (frame_at (status_place at) ∷ []) k.shadow k1.shadow k2.shadow all.carries.drops (answered_drops aligned));
}
  where
    size : 512 * k.state.pages ≡ length (guest_in m.memory k).memory
    size = sym (memory_size m.memory k stands)

    same : (c : Config) → answered at status (guest_in m1.memory k1) ≡ (one_packet c row mounts (guest_in m.memory k) at volumes).guest
    same c = (λ i. answered at (all.carries.status_is i) (all.carries.becomes.guest i)) ∙ one_guest c row mounts (guest_in m.memory k) at p volumes (512 * k.state.pages) read size

    whole : Becomes (answered at status (guest_in m1.memory k1)) m k m2 k2
    whole = becomes_then m k (guest_in m1.memory k1) m1 k1 (answered at status (guest_in m1.memory k1)) m2 k2 stands (becomes_as (carried (move_of (512 * k.state.pages) volumes mounts p) p volumes (guest_in m.memory k)) (guest_in m1.memory k1) m k m1 k1 (sym all.carries.becomes.guest) all.carries.becomes) answer

-- what is at a unit
pub unit_mounted : (Q : Option Mount → Type 0) → Q None → (units : List (Option Mount)) (n : ℕ) → All Q units → Q (slice_index_or units n None)
unit_mounted Q none [] n all = none
unit_mounted Q none (x ∷ units) zero all = all 0 None (omega arith)
unit_mounted Q none (x ∷ units) (suc n) all = unit_mounted Q none units n (λ i d h. all (suc i) d (omega (arith, h)))

pub names_volume : (units : List (Option Mount)) (n : ℕ) (mount : Option Mount) (volumes : List (List (List ℕ))) → mount ≡ slice_index_or units n None → MountsNameVolumes units volumes → IfSome mount (λ (x : Mount). x.volume < length volumes)
names_volume units n mount volumes is all = subst (λ (o : Option Mount). IfSome o (λ (x : Mount). x.volume < length volumes)) (sym is) (unit_mounted (λ (o : Option Mount). IfSome o (λ (x : Mount). x.volume < length volumes)) tt units n all)

-- A block that is read or written is no job.
no_job_in : (row : GuestRow) (p : Packet) (g : Guest) (refused : Option ℕ) (v : ℕ) → (let o : Option (List ℕ) = None in (o ≡ job_by row p g (unless_refused refused (Reads v))) × (o ≡ job_by row p g (unless_refused refused (Writes v))))
no_job_in row p g None v = (refl, refl)
no_job_in row p g (Some status) v = (refl, refl)

pub no_job_read : (row : GuestRow) (space : ℕ) (volumes : List (List (List ℕ))) (mount : Option Mount) (p : Packet) (g : Guest) → None ≡ job_by row p g (to_read space volumes mount p)
no_job_read row space volumes None p g = refl
no_job_read row space volumes (Some m) p g = (no_job_in row p g (refused_block space volumes m false p) m.volume).0

pub no_job_written : (row : GuestRow) (space : ℕ) (volumes : List (List (List ℕ))) (mount : Option Mount) (p : Packet) (g : Guest) → None ≡ job_by row p g (to_write space volumes mount p)
no_job_written row space volumes None p g = refl
no_job_written row space volumes (Some m) p g = (no_job_in row p g (refused_block space volumes m true p) m.volume).1

-- printing changes nothing
print_changes : (space : ℕ) (p : Packet) (volumes : List (List (List ℕ))) (g : Guest) → (carried (to_print space p) p volumes g ≡ g) × (carried_volumes (to_print space p) p volumes g ≡ volumes)
print_changes space p volumes g = by (nat_lt 132 p.size) (is_past space p.buffer p.size)
  where
    by : (long past : Bool) → (carried (if long then Refused 6 else if past then Refused 6 else Prints) p volumes g ≡ g) × (carried_volumes (if long then Refused 6 else if past then Refused 6 else Prints) p volumes g ≡ volumes)
    by true past = (refl, refl)
    by false true = (refl, refl)
    by false false = (refl, refl)

pub prints_only : (row : GuestRow) (space : ℕ) (p : Packet) (volumes : List (List (List ℕ))) (m : Machine) (k : Kept) (status : ℕ) (job : Option (List ℕ)) → IsShadowedIn m.memory k → PrintsOf row p (guest_in m.memory k) (to_print space p) status job → Carries (to_print space p) p (guest_scene volumes m k) status (guest_scene volumes m k)
prints_only row space p volumes m k status job stands printed =
    let same = print_changes space p volumes (guest_in m.memory k) in
    record {
      status_is = printed.status_is;
      becomes = becomes_as (guest_in m.memory k) (carried (to_print space p) p volumes (guest_in m.memory k)) m k m k (sym same.0) (becomes_same m k stands);
      volumes_are = sym same.1;
      drops = none_dropped (frames_carried (to_print space p) p) k.shadow;
    }
