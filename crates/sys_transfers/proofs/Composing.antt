-- One change of a guest after another.
use Rattle.std.proofs.Common.{◌≡◌, ℕ, ◌+◌, ◌*◌, ◌<◌, ◌≤◌, ◌⊎◌, true, List, length, refl, ap, ◌∙◌, sym, subst}
use Rattle.vv_base.specs.Bytes.{long_bytes}
use Rattle.vax_hw.specs.Machine.{Machine}
use Rattle.vm_stepping.specs.Guarded.{OnlyBoth}
use Rattle.vm_shadow.specs.Shadowed.{Shadowed}
use Rattle.vm_shadow.proofs.Covering.{own_is, own_length}
use Rattle.vm_state.specs.Outside.{with_bytes}
use Rattle.vm_state.specs.Partition.{part}
use Rattle.vm_state.specs.State.{Guest, State, state_of}
use Rattle.vm_guest.specs.Kept.{Becomes, IsShadowedIn, Kept, TakesState, guest_in}
use Rattle.sys_state.specs.Guests.{answered}

both_then : (s s1 : Shadowed) (a b c : List ℕ) → s1.base ≡ s.base → s1.pages ≡ s.pages → s1.at ≡ s.at → OnlyBoth s a b → OnlyBoth s1 b c → OnlyBoth s a c
both_then s s1 a b c base pages at x y = record {
  size = y.size ∙ x.size;
  other = λ p own tables. y.other p (subst (λ n. (p < 512 * n) ⊎ (512 * (n + s1.pages) ≤ p)) (sym base) (subst (λ n. (p < 512 * s.base) ⊎ (512 * (s.base + n) ≤ p)) (sym pages) own)) (subst (λ n. (p < 512 * n) ⊎ (512 * (n + 580) ≤ p)) (sym at) tables) ∙ x.other p own tables;
}

-- nothing happens
pub becomes_same : (m : Machine) (k : Kept) → IsShadowedIn m.memory k → Becomes (guest_in m.memory k) m k m k
becomes_same m k stands = record {
  guest = refl;
  stands = stands;
  rest = refl;
  only = record { size = refl; other = λ p own tables. refl };
  place = record { pages = refl; base = refl; start = refl };
  tables = refl;
}

pub becomes_then : (m : Machine) (k : Kept) (g : Guest) (m1 : Machine) (k1 : Kept) (h : Guest) (m2 : Machine) (k2 : Kept) → IsShadowedIn m.memory k → Becomes g m k m1 k1 → Becomes h m1 k1 m2 k2 → Becomes h m k m2 k2
becomes_then m k g m1 k1 h m2 k2 stands x y = record {
  guest = y.guest;
  stands = y.stands;
  rest = y.rest ∙ (λ i. record (x.rest i) { memory = m2.memory });
  only = both_then k.shadow k1.shadow m.memory m1.memory m2.memory (x.stands.serves.base ∙ x.place.base ∙ sym stands.serves.base) (x.stands.serves.pages ∙ x.place.pages ∙ sym stands.serves.pages) x.tables x.only y.only;
  place = record { pages = y.place.pages ∙ x.place.pages; base = y.place.base ∙ x.place.base; start = y.place.start ∙ x.place.start };
  tables = y.tables ∙ x.tables;
}

-- with other registers
pub becomes_turned : (m : Machine) (k : Kept) (x : State) (k' : Kept) → IsShadowedIn m.memory k → TakesState x k k' → Becomes (record (guest_in m.memory k) { state = x }) m k m k'
becomes_turned m k x k' stands turns = record {
  guest = λ i. record { memory = part m.memory (512 * turns.place.base i) (512 * turns.place.pages i); state = turns.state i };
  stands = turns.stands m.memory stands;
  rest = refl;
  only = record { size = refl; other = λ p own tables. refl };
  place = turns.place;
  tables = ap (λ (s : Shadowed). s.at) turns.shadow;
}

-- said of another guest that is the same
pub becomes_as : (g h : Guest) (m : Machine) (k : Kept) (m' : Machine) (k' : Kept) → g ≡ h → Becomes g m k m' k' → Becomes h m k m' k'
becomes_as g h m k m' k' same x = subst (λ (y : Guest). Becomes y m k m' k') same x

-- a status is stored, and the interrupt requested
pub becomes_answered : (at status : ℕ) (bytes : List ℕ) (m : Machine) (k : Kept) (m1 : Machine) (k1 k2 : Kept) → IsShadowedIn m.memory k → bytes ≡ long_bytes status → Becomes (with_bytes (at + 20) bytes (guest_in m.memory k)) m k m1 k1 → TakesState (record (state_of k1.state) { kcall_due = true }) k1 k2
    → Becomes (answered at status (guest_in m.memory k)) m k m1 k2
becomes_answered at status bytes m k m1 k1 k2 stands is stored turns =
    let posted : Guest → Guest = λ g. record g { state = record g.state { kcall_due = true } } in
    let turned : Becomes (posted (guest_in m1.memory k1)) m1 k1 m1 k2 = becomes_turned m1 k1 (record (state_of k1.state) { kcall_due = true }) k2 stored.stands turns in
    let same : posted (guest_in m1.memory k1) ≡ answered at status (guest_in m.memory k) = ap posted stored.guest ∙ ap (λ (bs : List ℕ). posted (with_bytes (at + 20) bs (guest_in m.memory k))) is in
    becomes_then m k (with_bytes (at + 20) bytes (guest_in m.memory k)) m1 k1 (answered at status (guest_in m.memory k)) m1 k2 stands stored
    (becomes_as (posted (guest_in m1.memory k1)) (answered at status (guest_in m.memory k)) m1 k1 m1 k2 same turned)

-- the size of its memory
pub memory_size : (memory : List ℕ) (k : Kept) → IsShadowedIn memory k → length (guest_in memory k).memory ≡ 512 * k.state.pages
memory_size memory k stands = ap length (sym (own_is memory k.shadow k.state stands.serves)) ∙ own_length memory k.shadow stands.keeps.fits ∙ ap (λ n. 512 * n) stands.serves.pages
