-- A byte that the machine has a place for lies in a page whose real entry is filled.
use Rattle.std.proofs.Common.{◌≡◌, ℕ, ◌+◌, ◌*◌, ◌/◌, ◌%◌, ◌^◌, ◌<◌, ◌≤◌, Bool, true, false, not, List, [], length, Option, Some, None, Result, Ok, Err, refl, ap, ◌∙◌, sym, subst, arith}
use Rattle.std.proofs.lemmas.Bool.{cond_both, eq-eqb, not-false}
use Rattle.std.proofs.lemmas.Option.{none-some, same_Some}
use Rattle.vv_base.specs.Bytes.{long_at}
use Rattle.vax_arch.specs.Fields.{frame_of, is_modified, is_valid, protection_of}
use Rattle.vax_arch.specs.Protection.{may_of}
use Rattle.vax_arch.specs.Ring.{ring_of}
use Rattle.vax_arch.specs.Walk.{entry_at, granted, is_clear_at, is_past, page_of}
use Rattle.vax_arch.specs.declared.mode.Intent.{Intent}
use Rattle.vax_arch.specs.declared.mode.Mode.{Mode}
use Rattle.vax_arch.specs.declared.walk.Grant.{Grant}
use Rattle.vax_arch.specs.WalkLaws.{IsInside}
use Rattle.vax_arch.proofs.Walks.{looks_inside}
use Rattle.vax_arch.specs.declared.walk.Lookup.{Lookup}
use Rattle.vax_arch.specs.declared.walk.Lookup.TheVariants.{Beyond, Direct, Fails, Found}
use Rattle.vax_hw.specs.RealTables.{everywhere, place_by}
use Rattle.vax_table.specs.Interaction.{Absent, Cause, Refusing}
use Rattle.vm_shadow.specs.Laws.{own_place, real_place, relocated}
use Rattle.vm_shadow.specs.Layout.{IsCovered, all_entries}
use Rattle.vm_shadow.specs.Shadowed.{Keeps, Shadowed, mapped_frame, own, read_at, real_at, seen_at}
use Rattle.vm_shadow.specs.StandsFor.{HasModifiedPage, Serves, own_number}
use Rattle.vm_shadow.specs.declared.source.Source.{Source}
use Rattle.vm_shadow.proofs.Changes.{IsFilled}
use Rattle.vm_shadow.proofs.Covering.{own_is, seen_own}
use Rattle.vm_shadow.proofs.Hearing.{empty_answers, filled_there, heard, number_is_small, place_covered, real_by, size_is}
use Rattle.vm_shadow.proofs.Places.{split}
use Rattle.vm_shadow.proofs.Rights.{right_valid}
use Rattle.vm_state.specs.Partition.{guest_of, partition_of}
use Rattle.vm_state.specs.State.{tables_of}
use Rattle.vm_state.specs.Translation.{is_clear, look}
use Rattle.vm_state.specs.declared.guest_state.GuestState.{GuestState}

-- the frame of a place that an entry gives
abbrev GivesFrame : (entry va : ℕ) → Result ℕ Cause → Type 0
GivesFrame entry va (Ok place) = place ≡ 512 * frame_of entry + va % 512
GivesFrame entry va (Err cause) = Unit {0}

by_grant : (may : ℕ → Mode → Intent → Bool) (entry va : ℕ) (m : Mode) (i : Intent) → GivesFrame entry va (place_by va (granted may everywhere entry m i))
unfolding granted
by_grant may entry va m i =
    let P : Grant → Type 0 = λ x. GivesFrame entry va (place_by va x) in
    cond_both (not (may (protection_of entry) m i)) _ _ P (λ h. tt) (λ h.
    cond_both (not (is_valid entry)) _ _ P (λ h. tt) (λ h.
    cond_both (is_past everywhere (512 * frame_of entry) 512) _ _ P (λ h. tt) (λ h. refl)))

-- where the page of a byte is mapped
pub record IsMapped (memory : List ℕ) (s : Shadowed) (g : GuestState) (m : Mode) (i : Intent) (va place : ℕ) : Type 0 where
  pub own : ℕ
  pub has : own_place memory g m i va ≡ Ok own
  pub moves : place ≡ 512 * s.base + own
  pub covered : IsCovered (page_of va)
  pub small : own_number s (page_of va) < all_entries
  pub filled : IsFilled memory s (own_number s (page_of va))
  pub valid : is_valid (real_at memory s (own_number s (page_of va))) ≡ true
  pub frame : mapped_frame s (real_at memory s (own_number s (page_of va))) ≡ own / 512

module _ (opened : List ℕ) (memory : List ℕ) (s : Shadowed) (g : GuestState) (k : Keeps [] opened memory s) (v : Serves g s) (m : Mode) (i : Intent) (va : ℕ) (small : va < 2 ^ 32) where
  -- the guest's place
  moved_back : (place : ℕ) (r : Result ℕ Cause) → Ok place ≡ relocated (512 * s.base) r → (q : ℕ) × (r ≡ Ok q) × (place ≡ 512 * s.base + q)
  moved_back place (Ok q) e = (q, refl, cc)
  moved_back place (Err c) e = cc

  pub own_of : (place : ℕ) → real_place memory s m i va ≡ Ok place → (q : ℕ) × (own_place memory g m i va ≡ Ok q) × (place ≡ 512 * s.base + q)
  own_of place e = split (heard opened memory s g k v m i va small)
      (λ h. moved_back place (own_place memory g m i va) (sym e ∙ h))
      (λ x. split x (λ a. let no_place : real_place memory s m i va ≡ Err Absent = a in cc) (λ b. let no_place : real_place memory s m i va ≡ Err Refusing = b.0 in cc))

  filled_by : (place : ℕ) → real_place memory s m i va ≡ Ok place → IsCovered (page_of va) → (x : Option Source) → read_at s (own_number s (page_of va)) ≡ x → IsFilled memory s (own_number s (page_of va))
  filled_by place e c None is = let miss : real_place memory s m i va ≡ Err Absent = empty_answers opened memory s g k v m i va c is in cc
  filled_by place e c (Some source) is = filled_there opened memory s g k v va source c is

  pub mapped : (place : ℕ) → real_place memory s m i va ≡ Ok place → IsMapped memory s g m i va place
  mapped place e =
      let (q, has, moves) = own_of place e in
      let c = place_covered opened memory s g k v m i va q has in
      let n = own_number s (page_of va) in
      let f = filled_by place e c (read_at s n) refl in
      let gives : place ≡ 512 * frame_of (real_at memory s n) + va % 512 = subst (GivesFrame (real_at memory s n) va) (sym (real_by opened memory s g k v m i va c) ∙ e) (by_grant may_of (real_at memory s n) va (ring_of m) i) in
      record {
        own = q;
        has = has;
        moves = moves;
        covered = c;
        small = number_is_small opened memory s g k v va c;
        filled = f;
        valid = right_valid memory (own memory s) s (seen_at memory s n) (real_at memory s n) k.fits f.right;
        frame = omega (arith, gives, moves);
      }

-- a guest's entry whose modify bit isn't clear
modified_by : (memory : List ℕ) (x : Lookup) (entry : ℕ) → IsInside (length memory) x → length memory ≤ 2 ^ 20 → entry_at memory x ≡ Some entry → is_clear_at memory x ≡ false → is_modified entry ≡ true
modified_by memory (Found place table) entry inside small has e =
    let same : long_at memory place ≡ entry = same_Some (long_at memory place) entry has in
    ap is_modified (sym same) ∙ not-false (is_modified (long_at memory place)) e
modified_by memory (Direct frame) entry inside small has e =
    let same : 2 ^ 31 + 4 * 2 ^ 27 + 2 ^ 26 + frame ≡ entry = same_Some (2 ^ 31 + 4 * 2 ^ 27 + 2 ^ 26 + frame) entry has in
    eq-eqb (entry / 2 ^ 26 % 2) 1 (omega (arith, same, inside, small))
modified_by memory (Fails n p) entry inside small has e = absurd (none-some entry has)
modified_by memory Beyond entry inside small has e = absurd (none-some entry has)

pub may_be_marked : (memory : List ℕ) (s : Shadowed) (g : GuestState) (va : ℕ) → (opened : List ℕ) → Keeps [] opened memory s → Serves g s → va < 2 ^ 32 → IsCovered (page_of va) → IsFilled memory s (own_number s (page_of va)) → is_valid (real_at memory s (own_number s (page_of va))) ≡ true → is_clear (guest_of memory g) va ≡ false → HasModifiedPage memory s (own_number s (page_of va))
may_be_marked memory s g va opened k v small c f valid e =
    let seen = seen_own memory s g (page_of va) k.fits v (omega (arith, small)) c in
    let has : entry_at (partition_of memory g) (look (guest_of memory g) (page_of va)) ≡ Some f.right.entry = (λ j. entry_at (sym (own_is memory s g v) j) (sym seen j)) ∙ f.right.has in
    record {
      filled = valid;
      entry = f.right.entry;
      has = f.right.has;
      modified = modified_by (partition_of memory g) (look (guest_of memory g) (page_of va)) f.right.entry (looks_inside (length (partition_of memory g)) (partition_of memory g) (tables_of g) (page_of va)) (omega (arith, size_is opened memory s g k v, k.fits.small)) has e;
    }
