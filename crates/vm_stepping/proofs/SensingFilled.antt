-- After a PROBE whose pages are filled, fewer entries are empty.
use Rattle.std.proofs.Common.{◌≡◌, ◌⊎◌, ℕ, zero, suc, ◌+◌, ◌<◌, ◌≤◌, Bool, true, false, not, [], None, is_some, refl, ap, ◌∙◌, sym, subst, arith, if◌then◌else◌}
use Rattle.std.proofs.lemmas.Bool.{cases_eq, false≢true, not-false}
use Rattle.vax_arch.specs.Fields.{is_valid}
use Rattle.vax_hw.specs.Machine.{Machine}
use Rattle.vm_stepping.specs.Guarded.{count_below}
use Rattle.vm_stepping.proofs.Completing.{split}
use Rattle.vm_emulate.specs.Emulated.{FillsTwo, HasValidEntry}
use Rattle.vm_simulation_laws.specs.Misses.{KeepsFilled}
use Rattle.vm_shadow.specs.Layout.{all_entries, entry_number}
use Rattle.vm_shadow.specs.Shadowed.{Shadowed, read_at, real_at}
use Rattle.vm_shadow.specs.StandsFor.{IsPresent, OnlyGuest, StandsFor, own_number}
use Rattle.vm_shadow.proofs.Changes.{filled_of}
use Rattle.vm_shadow.proofs.Covering.{present_covered, slot_small}
use Rattle.vm_shadow.proofs.Places.{number_small}
use Rattle.vm_state.specs.Partition.{guest_of}
use Rattle.vm_state.specs.State.{Guest}
use Rattle.vm_state.specs.declared.guest_state.GuestState.{GuestState}
use Rattle.vm_stepping.proofs.MissingPages.{more_may_change}
use Rattle.vm_stepping.specs.Made.{Refills, unfilled}
use Rattle.vm_stepping.proofs.Making.{only_both}

-- a count of fewer
one_most : (a b : Bool) (m n : ℕ) → (b ≡ true → a ≡ true) → n ≤ m → n + (if b then 1 else 0) ≤ m + (if a then 1 else 0)
one_most true true m n h l = omega arith
one_most true false m n h l = omega arith
one_most false true m n h l = absurd (false≢true (h refl))
one_most false false m n h l = omega arith

count_most : (p q : ℕ → Bool) (k : ℕ) → ((j : ℕ) → q j ≡ true → p j ≡ true) → count_below q k ≤ count_below p k
count_most p q zero h = omega arith
count_most p q (suc k) h = one_most (p k) (q k) (count_below p k) (count_below q k) (h k) (count_most p q k h)

count_fewer : (p q : ℕ → Bool) (n k : ℕ) → ((j : ℕ) → q j ≡ true → p j ≡ true) → n < k → p n ≡ true → q n ≡ false → count_below q k < count_below p k
count_fewer p q n zero h l on off = absurd (omega arith)
count_fewer p q n (suc k) h l on off = split (cases_eq n k)
    (λ e.
    let one : p k ≡ true = subst (λ x. p x ≡ true) e on in
    let none : q k ≡ false = subst (λ x. q x ≡ false) e off in
    let before = count_most p q k h in
    rw (one, none) (omega (arith, before)))
    (λ differ.
    let before = count_fewer p q n k h (omega arith) on off in
    let here = one_most (p k) (q k) (count_below p k) (count_below q k + 1) (h k) (omega (arith, before)) in
    omega (arith, here))

abbrev is_empty : Shadowed → ℕ → Bool
is_empty s n = not (is_some (read_at s n))

module _ (p q : ℕ) (g : GuestState) (m : Machine) (s : Shadowed) (m' : Machine) (s' : Shadowed) (stands : StandsFor m.memory s g) (here : IsPresent (guest_of m.memory g) p) (there : IsPresent (guest_of m.memory g) q) (two : FillsTwo p q g m s m' s') where
  number : (page : ℕ) → IsPresent (guest_of m.memory g) page → own_number s page < all_entries
  number page k = number_small s.slot page (slot_small m.memory s stands.keeps.fits) (present_covered m.memory s g page stands.keeps.fits stands.serves k)

  now_filled : (page : ℕ) → own_number s page < all_entries → HasValidEntry page m' s' → is_empty s' (own_number s page) ≡ false
  now_filled page h k =
      let same : own_number s' page ≡ own_number s page = ap (λ (x : Shadowed). entry_number x.slot page) two.rest in
      let valid : is_valid (real_at m'.memory s' (own_number s page)) ≡ true = subst (λ n. is_valid (real_at m'.memory s' n) ≡ true) same k in
      let r = filled_of [] m'.memory s' (own_number s page) two.stands.keeps h valid in
      ap (λ x. not (is_some x)) r.read

  none_else : (page n : ℕ) → IsPresent (guest_of m.memory g) page → HasValidEntry page m' s' → n ≡ own_number s page → is_empty s' n ≡ true → is_empty s n ≡ true
  none_else page n k f e h = absurd (false≢true (sym (now_filled page (number page k) f) ∙ subst (λ x. is_empty s' x ≡ true) e h))

  was_empty : (n : ℕ) → is_empty s' n ≡ true → is_empty s n ≡ true
  was_empty n h = split (two.stay n) (λ e. ap (λ x. not (is_some x)) (sym e) ∙ h) (λ one. split one (λ e. none_else p n here two.first e h) (λ e. none_else q n there two.second e h))

  filled_at : (page n : ℕ) → IsPresent (guest_of m.memory g) page → HasValidEntry page m' s' → n ≡ own_number s page → is_some (read_at s' n) ≡ true
  filled_at page n k f e = not-false (is_some (read_at s' n)) (subst (λ x. is_empty s' x ≡ false) (sym e) (now_filled page (number page k) f))

  -- what is filled stays so
  pub keeps_filled : KeepsFilled s s'
  keeps_filled = record {
    each = λ n h. split (two.stay n) (λ e. ap is_some e ∙ h) (λ one. split one (λ e. filled_at p n here two.first e) (λ e. filled_at q n there two.second e));
    slot = ap (λ (x : Shadowed). x.slot) two.rest;
    held = ap (λ (x : Shadowed). x.held) two.rest;
  }

  one_fewer : (page : ℕ) → IsPresent (guest_of m.memory g) page → HasValidEntry page m' s' → read_at s (own_number s page) ≡ None → unfilled s' < unfilled s
  unfolding unfilled
  one_fewer page k f e = count_fewer (is_empty s) (is_empty s') (own_number s page) all_entries was_empty (number page k) (ap (λ x. not (is_some x)) e) (now_filled page (number page k) f)

  pub refills : (g' : GuestState) → g' ≡ g → OnlyGuest s m m' → (read_at s (own_number s p) ≡ None) ⊎ (read_at s (own_number s q) ≡ None) → Refills m s g m' s' g'
  refills g' same only none = record {
    guest = same;
    stands = two.stands;
    own = ap (λ (x : Guest). x.memory) two.memory;
    machine = more_may_change m m' two.only.rest;
    only = only_both s m m' only;
    tables = ap (λ (x : Shadowed). x.at) two.rest;
    fewer = split none (λ e. one_fewer p here two.first e) (λ e. one_fewer q there two.second e);
  }
