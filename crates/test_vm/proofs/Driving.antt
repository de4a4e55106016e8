-- What the driver's calls keep.
use Rattle.std.proofs.Common.{◌≡◌, ℕ, ◌+◌, ◌*◌, ◌^◌, ◌≤◌, ◌<◌, ◌==◌, ◌&&◌, ◌||◌, ◌⊎◌, inl, inr, Bool, true, false, List, [], ◌∷◌, length, Option, Some, None, is_some, refl, ap, sym, ◌∙◌, subst, arith, slice_index_or, slice_set}
use Rattle.std.specs.Bool.{OnTrue}
use Rattle.std.proofs.lemmas.Bool.{eq-eqb, eqb-true}
use Rattle.std.proofs.lemmas.List.{get_or-set_same}
use Rattle.std.proofs.lemmas.List.Elements.{All-nil}
use Rattle.vax_arch.specs.Fields.{is_modified, is_valid}
use Rattle.vax_arch.specs.Walk.{Tables, entry_at, page_of}
use Rattle.vax_arch.specs.declared.mode.Intent.{Intent}
use Rattle.vax_arch.specs.declared.mode.Mode.{Mode}
use Rattle.vax_arch.specs.declared.walk.Lookup.{Lookup}
use Rattle.vax_hw.specs.Machine.{Machine}
use Rattle.vm_shadow.specs.Layout.{IsCovered, entry_number}
use Rattle.vm_shadow.specs.Shadowed.{CanBeShadowed, Fits, IsKept, Keeps, Remembers, Shadowed, own, read_at, real_at, seen_at}
use Rattle.vm_shadow.specs.StandsFor.{ClosesPage, FillsPage, MakesTables, IsPresent, GrantsOrLeaves, OpensPage, Serves, StandsFor, Stores, Switches, closed_for, own_number}
use Rattle.vm_shadow.specs.declared.source.Source.{Source}
use Rattle.vm_shadow.proofs.Making.{can_stand}
use Rattle.vm_shadow.proofs.Covering.{covered, own_is, own_length, present_covered, seen_own, slot_small}
use Rattle.vm_shadow.proofs.Places.{number_small}
use Rattle.vm_state.specs.Allowed.{AreAllowed, IsPacket}
use Rattle.vm_state.specs.Partition.{guest_of, partition_of}
use Rattle.vm_state.specs.Start.{stopped_at_first}
use Rattle.vm_state.specs.State.{State, state_of, tables_of}
use Rattle.vm_state.specs.Translation.{look, walk_of}
use Rattle.vm_state.specs.declared.guest_state.GuestState.{GuestState}
use Rattle.vm_state.specs.declared.walk.Walk.TheVariants.{Frame}
use Rattle.vm_state.proofs.Registers.{remapped}
use Rattle.test_vm.specs.Registers.{IsClaimed, are_allowed, is_marked_entry}
use Rattle.vm_shadow.proofs.Present.{walk_present}

-- the guest's memory is the machine's
pub partition_fits : (memory : List ℕ) (s : Shadowed) (g : GuestState) → StandsFor memory s g → 512 * (g.base + g.pages) ≤ length memory
partition_fits memory s g k = omega (arith, k.keeps.fits.partition, k.serves.pages, k.serves.base)

-- a walk's page is present
pub is_present : (memory : List ℕ) (s : Shadowed) (g : GuestState) (va : ℕ) (m : Mode) (i : Intent) (pa : ℕ) (at above : Option ℕ) → StandsFor memory s g → walk_of (guest_of memory g) va m i ≡ Frame pa at above → IsPresent (guest_of memory g) (page_of va)
is_present memory s g va m i pa at above k e =
    let size : length (own memory s) ≡ 512 * s.pages = own_length memory s k.keeps.fits in
    let same : length (own memory s) ≡ length (partition_of memory g) = ap length (own_is memory s g k.serves) in
    walk_present (guest_of memory g) va m i pa at above (omega (arith, size, same, k.keeps.fits.small)) e

-- a guest that starts has allowed registers
pub start_allowed : (size start : ℕ) (faults : Bool) → AreAllowed size (stopped_at_first start faults)
start_allowed size start faults = record {
  p0br = inl refl;
  p0lr = refl;
  p1br = refl;
  p1lr = refl;
  sbr = refl;
  slr = refl;
  pcbb = refl;
  scbb = refl;
  astlvl = refl;
  sisr = refl;
  psl = refl;
  packets = All-nil (IsPacket size);
  few = omega arith;
}

both : (a b : Bool) → (a && b) ≡ true → (a ≡ true) × (b ≡ true)
both true true e = (refl, refl)
both true false e = cc
both false b e = cc

either : (v : ℕ) (b : Bool) → ((v == 0) || b) ≡ true → (v ≡ 0) ⊎ (b ≡ true)
either v b e = by (v == 0) refl e
  where
    by : (t : Bool) → (v == 0) ≡ t → (t || b) ≡ true → (v ≡ 0) ⊎ (b ≡ true)
    by true z e = inl (eqb-true v 0 z)
    by false z e = inr e

-- and so has one whose table registers are allowed
pub loads_allowed : (size : ℕ) (s : State) (t : Tables) → are_allowed t ≡ true → AreAllowed size s → AreAllowed size (record s { tables = t })
loads_allowed size s t e a =
    let b0 = both _ _ e in let b1 = both _ _ b0.1 in let b2 = both _ _ b1.1 in let b3 = both _ _ b2.1 in let b4 = both _ _ b3.1 in
    (remapped size s t (λ h. either t.p0br _ b0.0) (λ h. b1.0) (λ h. b2.0) (λ h. b3.0) (λ h. b4.0) (λ h. b4.1)).allowed a

pub can_load : (size : ℕ) (s : State) → AreAllowed size s → CanBeShadowed s.tables
can_load = can_stand

pub switched : (g : GuestState) (m m' : Machine) (s s' : Shadowed) → AreAllowed (512 * g.pages) (state_of g) → Switches g m s m' s' → StandsFor m'.memory s' g
switched g m m' s s' a w = record { keeps = w.keeps; serves = w.serves; allowed = a }

still_serves : (g : GuestState) (s s' : Shadowed) → s'.pages ≡ s.pages → s'.base ≡ s.base → s'.told ≡ s.told → Serves g s → Serves g s'
still_serves g s s' pages base told v = record { pages = pages ∙ v.pages; base = base ∙ v.base; told = told ∙ v.told }

-- the kernel's writes
pub stored : (pa : ℕ) (memory : List ℕ) (g : GuestState) (m m' : Machine) (s s' : Shadowed) → StandsFor m.memory s g → Stores pa memory m s m' s' → StandsFor m'.memory s' g
stored pa memory g m m' s s' k w = record {
  keeps = w.keeps [] [] k.keeps;
  serves = still_serves g s s' (ap (λ x. x.pages) w.drops.rest) (ap (λ x. x.base) w.drops.rest) (ap (λ x. x.told) w.drops.rest) k.serves;
  allowed = k.allowed;
}

-- a page that was filled is recorded
filled_by : (pending : List ℕ) (size base : ℕ) (memory : List ℕ) (seen : Lookup) (real : ℕ) (o : Option Source) → is_some o ≡ true → IsKept size base memory pending seen real o → is_valid real ≡ true
filled_by pending size base memory seen real None e h = cc
filled_by pending size base memory seen real (Some source) e h = h.0

set_some : (reads : List (Option Source)) (n : ℕ) (source : Source) → n < length reads → is_some (slice_index_or (slice_set reads n (Some source)) n None) ≡ true
set_some reads n source h = ap is_some (get_or-set_same reads n (Some source) None h)

pub is_filled : (page : ℕ) (g : GuestState) (m m' : Machine) (s s' : Shadowed) → StandsFor m.memory s g → IsCovered page → FillsPage page g m s m' s' → is_some (read_at s' (own_number s' page)) ≡ true
is_filled page g m m' s s' k c f =
    let n = own_number s page in
    let small : n < length s.reads = omega (arith, number_small s.slot page (slot_small m.memory s k.keeps.fits) c, k.keeps.remembers.whole) in
    let slot : s'.slot ≡ s.slot = ap (λ x. x.slot) f.fills.rest in
    subst (λ x. is_some (read_at s' (entry_number x page)) ≡ true) (sym slot)
    (subst (λ r. is_some (slice_index_or r n None) ≡ true) (sym f.fills.reads) (set_some s.reads n f.fills.source small))

pub fills_stand : (page : ℕ) (g : GuestState) (m m' : Machine) (s s' : Shadowed) → FillsPage page g m s m' s' → StandsFor m'.memory s' g
fills_stand page g m m' s s' f = f.stands

entry_in : (o : Option ℕ) → is_marked_entry o ≡ true → (entry : ℕ) × (o ≡ Some entry) × (is_modified entry ≡ true)
entry_in None e = cc
entry_in (Some entry) e = (entry, refl, e)

covered_here : (memory : List ℕ) (s : Shadowed) (g : GuestState) (page entry : ℕ) → StandsFor memory s g → entry_at (partition_of memory g) (look (guest_of memory g) page) ≡ Some entry → IsCovered page
covered_here memory s g page entry k e =
    covered (length (partition_of memory g)) (partition_of memory g) (tables_of g) page entry (subst CanBeShadowed k.serves.told k.keeps.fits.told) (omega (arith, own_length memory s k.keeps.fits, ap length (own_is memory s g k.serves), k.keeps.fits.small)) e

-- a page that is filled, whose modify bit the guest has set
pub is_claimed : (memory : List ℕ) (s : Shadowed) (g : GuestState) (page : ℕ) → page < 2 ^ 23 → StandsFor memory s g → is_some (read_at s (own_number s page)) ≡ true → is_marked_entry (entry_at (partition_of memory g) (look (guest_of memory g) page)) ≡ true → IsClaimed memory s page
is_claimed memory s g page small k filled marked =
    let e = entry_in _ marked in
    let c = covered_here memory s g page e.0 k e.1 in
    let n = own_number s page in
    record {
      covered = c;
      marked = record {
        filled = filled_by [] (512 * s.pages) s.base (own memory s) (seen_at memory s n) (real_at memory s n) (read_at s n) filled (k.keeps.entries n (number_small s.slot page (slot_small memory s k.keeps.fits) c));
        entry = e.0;
        has = ap (entry_at (own memory s)) (seen_own memory s g page k.keeps.fits k.serves small c) ∙ ap (λ x. entry_at x (look (guest_of memory g) page)) (own_is memory s g k.serves) ∙ e.1;
        modified = e.2;
      };
    }

-- granted, or not
pub granted : (can : Bool) (n : ℕ) (g : GuestState) (m m' : Machine) (s s' : Shadowed) → StandsFor m.memory s g → GrantsOrLeaves can n m s m' s' → StandsFor m'.memory s' g
granted true n g m m' s s' k w = record {
  keeps = w.keeps [] k.keeps;
  serves = still_serves g s s' (ap (λ x. x.pages) w.rest) (ap (λ x. x.base) w.rest) (ap (λ x. x.told) w.rest) k.serves;
  allowed = k.allowed;
}
granted false n g m m' s s' k w = subst (λ x. StandsFor x.memory s' g) (sym w.0) (subst (λ x. StandsFor m.memory x g) (sym w.1) k)

-- A guarded step: a page is opened, written and closed.
pub opened_fits : (n : ℕ) (g : GuestState) (m m' : Machine) (s s' : Shadowed) → StandsFor m.memory s g → OpensPage n m s m' s' → Fits m'.memory s'
opened_fits n g m m' s s' k w = (w.keeps [] k.keeps).fits

pub opened_remembers : (n : ℕ) (g : GuestState) (m m' : Machine) (s s' : Shadowed) → StandsFor m.memory s g → OpensPage n m s m' s' → Remembers s'
opened_remembers n g m m' s s' k w = (w.keeps [] k.keeps).remembers

pub written_fits : (n pa : ℕ) (memory : List ℕ) (g : GuestState) (m m1 m2 : Machine) (s s1 s2 : Shadowed) → StandsFor m.memory s g → OpensPage n m s m1 s1 → Stores pa memory m1 s1 m2 s2 → Fits m2.memory s2
written_fits n pa memory g m m1 m2 s s1 s2 k o w = (w.keeps [] (n ∷ []) (o.keeps [] k.keeps)).fits

no_more : (n : ℕ) → closed_for n (n ∷ []) ≡ []
no_more n = rw (eq-eqb n n refl) refl

pub same_slot : (n pa : ℕ) (memory : List ℕ) (m m1 m2 : Machine) (s s1 s2 : Shadowed) → OpensPage n m s m1 s1 → Stores pa memory m1 s1 m2 s2 → s2.slot ≡ s.slot
same_slot n pa memory m m1 m2 s s1 s2 o w = ap (λ x. x.slot) w.drops.rest ∙ ap (λ x. x.slot) o.rest

pub closed_again : (page pa : ℕ) (memory : List ℕ) (g : GuestState) (m m1 m2 m3 : Machine) (s s1 s2 : Shadowed) → StandsFor m.memory s g → OpensPage (own_number s page) m s m1 s1 → Stores pa memory m1 s1 m2 s2 → ClosesPage (own_number s2 page) m2 s2 m3 → StandsFor m3.memory s2 g
closed_again page pa memory g m m1 m2 m3 s s1 s2 k o w c =
    let n = own_number s page in
    let same : own_number s2 page ≡ n = ap (λ x. entry_number x page) (same_slot n pa memory m m1 m2 s s1 s2 o w) in
    let before : Keeps [] (n ∷ []) m2.memory s2 = w.keeps [] (n ∷ []) (o.keeps [] k.keeps) in
    let closes : Keeps [] (closed_for n (n ∷ [])) m3.memory s2 = subst (λ x. Keeps [] (closed_for x (n ∷ [])) m3.memory s2) same (c.keeps [] (n ∷ []) before) in
    let one : Serves g s1 = still_serves g s s1 (ap (λ x. x.pages) o.rest) (ap (λ x. x.base) o.rest) (ap (λ x. x.told) o.rest) k.serves in
    record {
      keeps = subst (λ x. Keeps [] x m3.memory s2) (no_more n) closes;
      serves = still_serves g s1 s2 (ap (λ x. x.pages) w.drops.rest) (ap (λ x. x.base) w.drops.rest) (ap (λ x. x.told) w.drops.rest) one;
      allowed = k.allowed;
    }

pub started : (g : GuestState) (at : ℕ) (m m' : Machine) (s : Shadowed) → MakesTables g at m m' s → StandsFor m'.memory s g
started g at m m' s w = w.stands

pub on_true : {A : Type 0} (b : Bool) → (b ≡ true → A) → OnTrue b A
on_true true f = f refl
on_true false f = tt

-- the page of a walk, filled
pub walked_filled : (va : ℕ) (m : Mode) (i : Intent) (pa : ℕ) (at above : Option ℕ) (g : GuestState) (a b : Machine) (s s' : Shadowed) → StandsFor a.memory s g → walk_of (guest_of a.memory g) va m i ≡ Frame pa at above → FillsPage (page_of va) g a s b s' → is_some (read_at s' (own_number s' (page_of va))) ≡ true
walked_filled va m i pa at above g a b s s' k e f =
    is_filled (page_of va) g a b s s' k (present_covered a.memory s g (page_of va) k.keeps.fits k.serves (is_present a.memory s g va m i pa at above k e)) f

pub has_slot : (memory : List ℕ) (s : Shadowed) (g : GuestState) → StandsFor memory s g → s.slot < 4
has_slot memory s g k = slot_small memory s k.keeps.fits
