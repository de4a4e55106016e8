-- What happens to one guest's first touches leaves the others' as they were.
use Rattle.std.proofs.Common.{ℕ, zero, suc, ◌≡◌, ◌<◌, ◌≤◌, ◌+◌, List, [], ◌∷◌, length, map, slice_set, slice_index_or, Option, Some, refl, ap, ◌∙◌, sym, subst, arith}
use Rattle.std.proofs.lemmas.List.Sums.{sum_by-cons}
use Rattle.std.specs.List.{All, slice_get}
use Rattle.vax_hw.specs.Machine.{Machine}
use Rattle.sys_guests.proofs.Lists.{get_map}
use Rattle.sys_guests.specs.Layout.{guests_in}
use Rattle.sys_guests.specs.Present.{HavePresent, KeepsAll, PaysAll, counted_in}
use Rattle.sys_guests.specs.Loads.{HasFirst}
use Rattle.sys_state.specs.FirstTouches.{none_touched, touching_after_reset, with_reset}
use Rattle.sys_state.specs.Places.{changed}
use Rattle.sys_state.specs.SlicedTouches.{touched_as, touches_of_slice}
use Rattle.sys_state.specs.Slices.{Slice}
use Rattle.vm_simulation_laws.specs.Paid.{Pays}
use Rattle.vm_simulation_laws.specs.Present.{HasPresent}
use Rattle.vm_guest.specs.Kept.{KeepsPresent, Kept, guest_in}
use Rattle.vm_shadow.specs.Shadowed.{Shadowed}
use Rattle.vm_state.specs.State.{Guest}
use Rattle.vm_state.specs.Touches.{Touching, touching_reset, touching_steps}

-- the guest at a place
pub set_present : (ks : List Kept) (place : ℕ) (k k' : Kept) (f : Touching → Touching) → place < length ks → k ≡ slice_index_or ks place k → ((t : Touching) → HasPresent k.shadow t.present → HasPresent k'.shadow (f t).present) → (ts : List Touching) → HavePresent ks ts → HavePresent (slice_set ks place k') (changed f ts place)
set_present [] place k k' f there read keeps ts all = absurd (omega (arith, there))
set_present (x ∷ ks) place k k' f there read keeps [] all = absurd all
set_present (x ∷ ks) zero k k' f there read keeps (t ∷ ts) all = (keeps t (subst (λ (y : Kept). HasPresent y.shadow t.present) (sym read) all.0), all.1)
set_present (x ∷ ks) (suc place) k k' f there read keeps (t ∷ ts) all = (all.0, set_present ks place k k' f (omega (arith, there)) read keeps ts all.1)

set_counts : (ks : List Kept) (place : ℕ) (k : Kept) (f : Touching → Touching) (missed : ℕ) → place < length ks → k ≡ slice_index_or ks place k → ((t : Touching) → HasPresent k.shadow t.present → t.count + missed ≤ (f t).count) → (ts : List Touching) → HavePresent ks ts → counted_in ts + missed ≤ counted_in (changed f ts place)
set_counts [] place k f missed there read pays ts all = absurd (omega (arith, there))
set_counts (x ∷ ks) place k f missed there read pays [] all = absurd all
set_counts (x ∷ ks) zero k f missed there read pays (t ∷ ts) all =
    let one : t.count + missed ≤ (f t).count = pays t (subst (λ (y : Kept). HasPresent y.shadow t.present) (sym read) all.0) in
    let before : counted_in (t ∷ ts) ≡ t.count + counted_in ts = sum_by-cons (λ (y : Touching). y.count) t ts in
    let after : counted_in (f t ∷ ts) ≡ (f t).count + counted_in ts = sum_by-cons (λ (y : Touching). y.count) (f t) ts in
    omega (arith, one, before, after)
set_counts (x ∷ ks) (suc place) k f missed there read pays (t ∷ ts) all =
    let rest : counted_in ts + missed ≤ counted_in (changed f ts place) = set_counts ks place k f missed (omega (arith, there)) read pays ts all.1 in
    let before : counted_in (t ∷ ts) ≡ t.count + counted_in ts = sum_by-cons (λ (y : Touching). y.count) t ts in
    let after : counted_in (t ∷ changed f ts place) ≡ t.count + counted_in (changed f ts place) = sum_by-cons (λ (y : Touching). y.count) t (changed f ts place) in
    omega (arith, rest, before, after)

-- its own first touches count its misses
pub one_pays : (ks : List Kept) (x : Slice) (k k' : Kept) (m m' : Machine) → x.guest < length ks → k ≡ slice_index_or ks x.guest k → Pays (touching_steps x.steps (guest_in m.memory k)) m k.shadow m' k'.shadow → PaysAll (touches_of_slice x (guests_in m.memory ks)) m ks m' (slice_set ks x.guest k')
one_pays ks x k k' m m' there read pays =
    let here : slice_get (guests_in m.memory ks) x.guest ≡ Some (guest_in m.memory k) = get_map (guest_in m.memory) ks x.guest k there read in
    let touching : Option Guest → List Touching → List Touching = λ g ts. changed (touched_as x.steps g) ts x.guest in
    subst (λ (g : Option Guest). PaysAll (touching g) m ks m' (slice_set ks x.guest k')) (sym here) (record {
      missed = pays.missed;
      misses = pays.misses;
      counts = set_counts ks x.guest k (touching_steps x.steps (guest_in m.memory k)) pays.missed there read pays.counts;
      has = set_present ks x.guest k k' (touching_steps x.steps (guest_in m.memory k)) there read pays.has;
    })

get_set : (ks : List Kept) (place : ℕ) (k : Kept) → place < length ks → k ≡ slice_index_or (slice_set ks place k) place k
get_set [] place k there = absurd (omega (arith, there))
get_set (x ∷ ks) zero k there = refl
get_set (x ∷ ks) (suc place) k there = get_set ks place k (omega (arith, there))

set_long : (ks : List Kept) (place : ℕ) (k : Kept) → length (slice_set ks place k) ≡ length ks
set_long [] place k = refl
set_long (x ∷ ks) zero k = refl
set_long (x ∷ ks) (suc place) k = ap suc (set_long ks place k)

-- it starts
pub one_reset : (ks : List Kept) (place : ℕ) (k k' : Kept) (h : Guest) (memory : List ℕ) → place < length ks → k ≡ slice_index_or ks place k → guest_in memory k' ≡ h → KeepsPresent (touching_reset h) k k' → KeepsAll (with_reset (Some place) (guests_in memory (slice_set ks place k'))) ks (slice_set ks place k')
one_reset ks place k k' h memory there read is keeps =
    let within : place < length (slice_set ks place k') = omega (arith, there, set_long ks place k') in
    let here : slice_get (guests_in memory (slice_set ks place k')) place ≡ Some (guest_in memory k') = get_map (guest_in memory) (slice_set ks place k') place k' within (get_set ks place k' there) in
    subst (λ (g : Option Guest). KeepsAll (λ ts. changed (touching_after_reset g) ts place) ks (slice_set ks place k')) (ap Some (sym is) ∙ sym here)
    (set_present ks place k k' (touching_after_reset (Some h)) there read (λ t all. keeps t.present all))

-- its shadow page tables don't switch
pub one_same : (ks : List Kept) (place : ℕ) (k k' : Kept) → place < length ks → k ≡ slice_index_or ks place k → k'.shadow ≡ k.shadow → KeepsAll (λ ts. ts) ks (slice_set ks place k')
one_same [] place k k' there read same ts all = absurd (omega (arith, there))
one_same (x ∷ ks) place k k' there read same [] all = absurd all
one_same (x ∷ ks) zero k k' there read same (t ∷ ts) all = (subst (λ (s : Shadowed). HasPresent s t.present) (ap (λ (y : Kept). y.shadow) (sym read) ∙ sym same) all.0, all.1)
one_same (x ∷ ks) (suc place) k k' there read same (t ∷ ts) all = (all.0, one_same ks place k k' (omega (arith, there)) read same ts all.1)

-- At the beginning nothing is present.
pub first_present : (ks : List Kept) → All HasFirst ks → (memory : List ℕ) → HavePresent ks (map none_touched (guests_in memory ks))
first_present [] all memory = tt
first_present (k ∷ ks) all memory = (all 0 k (omega arith), first_present ks (λ i d h. all (suc i) d (omega (arith, h))) memory)
