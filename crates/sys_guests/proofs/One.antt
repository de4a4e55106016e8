-- What happens to one guest in the machine leaves the others.
use Rattle.std.proofs.Common.{ℕ, ◌≡◌, ◌<◌, ◌*◌, inr, List, length, slice_set, slice_index_or, refl, sym, ◌∙◌, ap, subst, arith}
use Rattle.vax_hw.specs.Machine.{Machine}
use Rattle.sys_guests.proofs.LaidOut.{IsWithin, one_before, pages_in, placed_at, placed_row, placed_set, shares}
use Rattle.sys_guests.proofs.Lists.{all_set, got, map_set, one_of_all}
use Rattle.sys_guests.specs.Changes.{ChangesOne, StartsOne, TakesStateAt}
use Rattle.sys_guests.specs.Layout.{AreInMachine, OnlyGuests}
use Rattle.sys_objects.specs.declared.records.GuestRow.{GuestRow}
use Rattle.sys_state.specs.Guests.{reset}
use Rattle.vm_stepping.specs.Guarded.{OnlyBoth}
use Rattle.vm_guest.proofs.Sharing.{stands_elsewhere}
use Rattle.vm_guest.specs.Kept.{Becomes, IsShadowedIn, Kept, TakesState, guest_in}
use Rattle.vm_shadow.specs.Shadowed.{Shadowed}
use Rattle.vm_state.specs.Partition.{part}
use Rattle.vm_state.specs.Start.{started}
use Rattle.vm_state.specs.State.{Guest, HasPlace, State}

-- one guest has become another, in this memory
pub record Became (h : Guest) (k k' : Kept) (memory memory' : List ℕ) : Type 0 where
  pub guest : guest_in memory' k' ≡ h
  pub stands : IsShadowedIn memory' k'
  pub only : OnlyBoth k.shadow memory memory'
  pub place : HasPlace k.state.pages k.state.base k.state.start k'.state
  pub tables : k'.shadow.at ≡ k.shadow.at

pub became : (h : Guest) (m : Machine) (k : Kept) (m' : Machine) (k' : Kept) → Becomes h m k m' k' → Became h k k' m.memory m'.memory
became h m k m' k' b = record { guest = b.guest; stands = b.stands; only = b.only; place = b.place; tables = b.tables }

-- the others are as before, and are in the machine still
other_stays : (rows : List GuestRow) (ks : List Kept) (place : ℕ) (k : Kept) (memory memory' : List ℕ) → place < length ks → k ≡ slice_index_or ks place k → AreInMachine rows memory ks → OnlyBoth k.shadow memory memory'
    → (i : ℕ) (l : Kept) → i < length ks → (i ≡ place → ⊥) → l ≡ slice_index_or ks i l → IsShadowedIn memory' l × (guest_in memory' l ≡ guest_in memory l)
other_stays rows ks place k memory memory' there read a only i l h ne read' =
    let all : ℕ = pages_in rows in
    let stands = one_of_all (λ (y : Kept). IsShadowedIn memory y) ks place k there read a.stand in
    let stands' = one_of_all (λ (y : Kept). IsShadowedIn memory y) ks i l h read' a.stand in
    let at : IsWithin 0 all rows k = placed_at 0 all rows ks place k there read a.laid_out in
    let at' : IsWithin 0 all rows l = placed_at 0 all rows ks i l h read' a.laid_out in
    let order = one_before 0 all rows ks place i k l (λ q. ne (sym q)) there h read read' a.laid_out in
    stands_elsewhere l memory memory' stands' (shares all k l memory memory' order (omega (arith, at.high)) (omega (arith, at'.high)) at.first at'.first stands.serves stands'.serves only)

-- of the machine only the guests' part changes
only_guests : (rows : List GuestRow) (ks : List Kept) (place : ℕ) (k : Kept) (memory memory' : List ℕ) → place < length ks → k ≡ slice_index_or ks place k → AreInMachine rows memory ks → OnlyBoth k.shadow memory memory' → OnlyGuests rows memory memory'
only_guests rows ks place k memory memory' there read a only p later =
    let all : ℕ = pages_in rows in
    let stands = one_of_all (λ (y : Kept). IsShadowedIn memory y) ks place k there read a.stand in
    let at : IsWithin 0 all rows k = placed_at 0 all rows ks place k there read a.laid_out in
    only.other p (inr (omega (arith, later, at.high, stands.serves.base, stands.serves.pages))) (inr (omega (arith, later, at.last)))

pub one_became : (rows : List GuestRow) (place : ℕ) (f : Guest → Guest) (ks : List Kept) (k k' : Kept) (m m' : Machine) → place < length ks → k ≡ slice_index_or ks place k → AreInMachine rows m.memory ks → (f (guest_in m.memory k)).state.modify_faults ≡ k.state.modify_faults → Became (f (guest_in m.memory k)) k k' m.memory m'.memory → ChangesOne rows place f m ks m' (slice_set ks place k')
one_became rows place f ks k k' m m' there read a faults b =
    let stays = other_stays rows ks place k m.memory m'.memory there read a b.only in
    let kept : k'.state.modify_faults ≡ k.state.modify_faults = ap (λ (g : Guest). g.state.modify_faults) b.guest ∙ faults in
    record {
      guests = map_set (guest_in m.memory) (guest_in m'.memory) f ks place k k' there read (λ i l h ne e. (stays i l h ne e).1) b.guest;
      stay = record {
        few = a.few;
        some_pages = a.some_pages;
        laid_out = placed_set 0 (pages_in rows) rows ks place k k' there read b.place kept b.tables a.laid_out;
        stand = all_set (λ (y : Kept). IsShadowedIn m'.memory y) ks place k' b.stands (λ i l h ne e. (stays i l h ne e).0);
      };
      only = only_guests rows ks place k m.memory m'.memory there read a b.only;
      size = b.only.size;
    }

pub one_becomes : (rows : List GuestRow) (place : ℕ) (f : Guest → Guest) (ks : List Kept) (k k' : Kept) (m m' : Machine) → place < length ks → k ≡ slice_index_or ks place k → AreInMachine rows m.memory ks → (f (guest_in m.memory k)).state.modify_faults ≡ k.state.modify_faults → Becomes (f (guest_in m.memory k)) m k m' k' → ChangesOne rows place f m ks m' (slice_set ks place k')
one_becomes rows place f ks k k' m m' there read a faults b = one_became rows place f ks k k' m m' there read a faults (became (f (guest_in m.memory k)) m k m' k' b)

-- one that starts does so by its row
pub one_starts : (place : ℕ) (ks : List Kept) (k k' : Kept) (m m' : Machine) → place < length ks → k ≡ slice_index_or ks place k → Becomes (record (guest_in m.memory k) { state = started k.state.start k.state.modify_faults }) m k m' k' → StartsOne place m ks m' (slice_set ks place k')
one_starts place ks k k' m m' there read b rows row a is =
    let own = placed_row 0 (pages_in rows) rows ks place k row there read (got rows place row is) a.laid_out in
    let by_row : record (guest_in m.memory k) { state = started k.state.start k.state.modify_faults } ≡ reset row (guest_in m.memory k) = λ i. record (guest_in m.memory k) { state = started (own.0 i) (own.1 i) } in
    one_becomes rows place (reset row) ks k k' m m' there read a (sym own.1) (subst (λ h. Becomes h m k m' k') by_row b)

-- one that has other registers
pub one_turns : (place : ℕ) (f : Guest → Guest) (x : Kept → State) (ks : List Kept) (k k' : Kept) → place < length ks → k ≡ slice_index_or ks place k → ((memory : List ℕ) → f (guest_in memory k) ≡ record (guest_in memory k) { state = x k }) → (x k).modify_faults ≡ k.state.modify_faults → TakesState (x k) k k' → TakesStateAt place f ks (slice_set ks place k')
one_turns place f x ks k k' there read same faults t rows m a =
    let stands = one_of_all (λ (y : Kept). IsShadowedIn m.memory y) ks place k there read a.stand in
    one_became rows place f ks k k' m m there read a (ap (λ (g : Guest). g.state.modify_faults) (same m.memory) ∙ faults) (record {
      guest = (λ i. record { memory = memory m.memory i; state = t.state i }) ∙ sym (same m.memory);
      stands = t.stands m.memory stands;
      only = record { size = refl; other = λ p low high. refl };
      place = t.place;
      tables = ap (λ (s : Shadowed). s.at) t.shadow;
    })
  where
    memory : (xs : List ℕ) → (guest_in xs k').memory ≡ (guest_in xs k).memory
    memory xs = λ i. part xs (512 * t.place.base i) (512 * t.place.pages i)
