-- A system between two rounds is at a moment that can be written out.
use Rattle.std.proofs.Common.{ℕ, ◌≡◌, ◌≤◌, ◌+◌, ◌*◌, List, [], ◌∷◌, length, map, drop, slice_index, ◌∙◌, ap, subst, arith, All}
use Rattle.std.proofs.lemmas.List.Elements.{All-head, All-tail}
use Rattle.std.specs.List.{AllZip, sum_by}
use Rattle.sys_guests.specs.Layout.{ArePlaced, IsPlaced, guests_in}
use Rattle.sys_moment_laws.specs.ConsistentState.{IsConsistentState}
use Rattle.sys_objects.specs.declared.records.GuestRow.{GuestRow}
use Rattle.sys_objects.specs.declared.records.VolumeRow.{VolumeRow}
use Rattle.sys_snap.specs.Snap.{IsGuestOf, IsMoment, IsSound, IsVolumeOf}
use Rattle.sys_system.specs.System.{IsInMachine, IsSystem, System, moment_of, system_state}
use Rattle.vm_guest.specs.Kept.{Kept, IsShadowedIn as GuestStandsIn, guest_in}
use Rattle.vm_state.proofs.Parts.{part_length}
use Rattle.vm_state.specs.Allowed.{AreAllowed}
use Rattle.vm_state.specs.State.{Guest, state_of as registers_of}
use Rattle.vm_state.specs.Stops.{IsHalt}

abbrev pub HasBlocks : List (List ℕ) → Type 0
HasBlocks blocks = All (λ b. length b ≡ 512) blocks

-- one guest, with the memory of its row
guest_is : (memory : List ℕ) (row : GuestRow) (base tables : ℕ) (k : Kept) → IsPlaced row base tables k → GuestStandsIn memory k → IsSound (registers_of k.state) → IsHalt k.state.halt → IsGuestOf row (guest_in memory k)
guest_is memory row base tables k placed stands sound halt =
    let room : 512 * k.state.base + 512 * k.state.pages ≤ length memory = omega (arith, stands.keeps.fits.partition, stands.serves.base, stands.serves.pages) in
    record {
      size = part_length memory (512 * k.state.base) (512 * k.state.pages) room ∙ ap (λ n. 512 * n) placed.pages;
      modify_faults = placed.modify_faults;
      is = record {
        sound = sound;
        allowed = subst (λ n. AreAllowed (512 * n) (registers_of k.state)) placed.pages stands.allowed;
        halt = halt;
      };
    }

-- and all of them
guests_are : (memory : List ℕ) (base tables : ℕ) (rows : List GuestRow) (ks : List Kept) → ArePlaced base tables rows ks → All (λ k. GuestStandsIn memory k) ks → All (λ k. IsSound (registers_of k.state)) ks → All (λ g. IsHalt g.state.halt) (guests_in memory ks) → AllZip IsGuestOf rows (guests_in memory ks)
guests_are memory base tables [] [] placed stand sound halts = tt
guests_are memory base tables [] (k ∷ ks) placed stand sound halts = absurd placed
guests_are memory base tables (row ∷ rows) [] placed stand sound halts = absurd placed
guests_are memory base tables (row ∷ rows) (k ∷ ks) placed stand sound halts = (
  guest_is memory row base tables k placed.0 (All-head (λ (x : Kept). GuestStandsIn memory x) k ks stand) (All-head (λ (x : Kept). IsSound (registers_of x.state)) k ks sound) (All-head (λ (g : Guest). IsHalt g.state.halt) (guest_in memory k) (guests_in memory ks) halts),
  guests_are memory (base + row.pages) (tables + 580) rows ks placed.1 (All-tail (λ (x : Kept). GuestStandsIn memory x) k ks stand) (All-tail (λ (x : Kept). IsSound (registers_of x.state)) k ks sound) (All-tail (λ (g : Guest). IsHalt g.state.halt) (guest_in memory k) (guests_in memory ks) halts),
)

-- each volume has the blocks of its row
volumes_are : (rows : List VolumeRow) (volumes : List (List (List ℕ))) → map length volumes ≡ map (λ v. v.blocks) rows → All HasBlocks volumes → AllZip IsVolumeOf rows volumes
volumes_are [] [] sizes long = tt
volumes_are [] (blocks ∷ volumes) sizes long = absurd (omega (arith, ap length sizes))
volumes_are (row ∷ rows) [] sizes long = absurd (omega (arith, ap length sizes))
volumes_are (row ∷ rows) (blocks ∷ volumes) sizes long = (
  record { many = ap (λ (ns : List ℕ). slice_index ns 0) sizes; long = All-head HasBlocks blocks volumes long },
  volumes_are rows volumes (ap (drop 1) sizes) (All-tail HasBlocks blocks volumes long),
)

pub is_moment : (memory : List ℕ) (s : System) → IsSystem s → IsInMachine memory s → IsConsistentState s.config (system_state memory s) → s.rounds ≤ 1000000 → All (λ k. IsSound (registers_of k.state)) s.guests → All HasBlocks s.volumes → IsMoment (moment_of memory s)
is_moment memory s holds stands right few sound long = record {
  few_rounds = few;
  seated = right.seated;
  mounted = right.mounted;
  guests = guests_are memory 0 (sum_by (λ row. row.pages) s.config.guests) s.config.guests s.guests stands.laid_out stands.stand sound right.halts;
  volumes = volumes_are s.config.volumes s.volumes holds.volumes long;
}
