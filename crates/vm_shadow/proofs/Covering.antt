-- Which pages there are real entries for.
use Rattle.std.proofs.Common.{◌≡◌, ℕ, ◌+◌, ◌*◌, ◌^◌, ◌<◌, ◌≤◌, inl, inr, ◌==◌, List, [], ◌∷◌, All, length, Some, ap, ◌∙◌, sym, subst, arith, nat_le, nat_lt}
use Rattle.std.proofs.lemmas.Bool.{cond_both, eqb-true, leb-false, ltb-false}
use Rattle.std.proofs.lemmas.List.Elements.{All-head}
use Rattle.vax_arch.specs.Walk.{Tables, entry_at, in_region, is_past, lookup, mapped_entry, region_of, system_entry}
use Rattle.vax_arch.specs.declared.walk.Lookup.{Lookup}
use Rattle.vm_slots.specs.Held.{Held}
use Rattle.vm_shadow.specs.Layout.{IsCovered, entry_number}
use Rattle.vm_shadow.specs.Shadowed.{CanBeShadowed, Fits, IsFirst, Shadowed, look_under, own, seen_at, tables_for}
use Rattle.vm_shadow.specs.StandsFor.{IsPresent, Serves}
use Rattle.vm_shadow.proofs.Contexts.{tables_own}
use Rattle.vm_shadow.proofs.Places.{page_again}
use Rattle.vm_state.specs.Partition.{guest_of, part, partition_of}
use Rattle.vm_state.specs.State.{context_of, tables_of}
use Rattle.vm_state.specs.Translation.{look}
use Rattle.vm_state.specs.declared.guest_state.GuestState.{GuestState}
use Rattle.vm_state.proofs.Parts.{part_length}

system_covered : (size : ℕ) (memory : List ℕ) (t : Tables) (page entry : ℕ) → CanBeShadowed t → region_of page ≡ 2 → entry_at memory (system_entry size t (in_region page)) ≡ Some entry → IsCovered page
unfolding system_entry
system_covered size memory t page entry can r = cond_both (nat_le t.slr (in_region page)) _ _ (λ x. entry_at memory x ≡ Some entry → IsCovered page) (λ h e. cc) (λ h e. inl (r, omega (arith, leb-false t.slr (in_region page) h, can.slr)))

-- a page whose entry is found has a real entry
pub covered : (size : ℕ) (memory : List ℕ) (t : Tables) (page entry : ℕ) → CanBeShadowed t → size ≤ 512 * 2048 → entry_at memory (lookup size memory t page) ≡ Some entry → IsCovered page
unfolding lookup mapped_entry
covered size memory t page entry can small =
    let P : Lookup → Type 0 = λ x. entry_at memory x ≡ Some entry → IsCovered page in
    cond_both t.mapped _ _ P
    (λ on. cond_both (region_of page == 0) _ _ P
    (λ r. cond_both (nat_le t.p0lr (in_region page)) _ _ P (λ h e. cc) (λ h e. inr (inl (eqb-true (region_of page) 0 r, omega (arith, leb-false t.p0lr (in_region page) h, can.p0lr)))))
    (λ r0. cond_both (region_of page == 1) _ _ P
    (λ r. cond_both (nat_lt (in_region page) t.p1lr) _ _ P (λ h e. cc) (λ h e. inr (inr (eqb-true (region_of page) 1 r, omega (arith, ltb-false (in_region page) t.p1lr h, can.p1lr)))))
    (λ r1. cond_both (region_of page == 2) _ _ P
    (λ r. system_covered size memory t page entry can (eqb-true (region_of page) 2 r))
    (λ r2 e. cc))))
    (λ off. cond_both (is_past size (512 * page) 512) _ _ P (λ h e. cc) (λ h e.
    let low : 512 * page + 512 ≤ size = ltb-false size (512 * page + 512) h in
    inr (inl (omega arith, omega arith))))

-- the slot in use is one of four
pub slot_small : (memory : List ℕ) (s : Shadowed) → Fits memory s → s.slot < 4
slot_small memory s f = by s.held f.first f.slots.small
  where
    by : (held : Held) → IsFirst (context_of s.told) s.slot held → All (λ h. h.1 < 4) held → s.slot < 4
    by [] e all = absurd e
    by (h ∷ hs) e all = subst (λ n. n < 4) e.1 (All-head (λ k. k.1 < 4) h hs all)

-- the guest's memory
pub own_is : (memory : List ℕ) (s : Shadowed) (g : GuestState) → Serves g s → own memory s ≡ partition_of memory g
own_is memory s g v = λ i. part memory (512 * v.base i) (512 * v.pages i)

pub own_length : (memory : List ℕ) (s : Shadowed) → Fits memory s → length (own memory s) ≡ 512 * s.pages
own_length memory s f = part_length memory (512 * s.base) (512 * s.pages) (omega (arith, f.partition))

-- what the guest's own look-up of a page finds is what its real entry in the slot in use stands for
pub seen_own : (memory : List ℕ) (s : Shadowed) (g : GuestState) (page : ℕ) → Fits memory s → Serves g s → page < 2 ^ 23 → IsCovered page → seen_at memory s (entry_number s.slot page) ≡ look (guest_of memory g) page
unfolding seen_at
seen_own memory s g page f v small c =
    let slot = slot_small memory s f in
    let size : 512 * s.pages ≡ length (partition_of memory g) = sym (own_length memory s f) ∙ ap length (own_is memory s g v) in
    ap (λ p. look_under (512 * s.pages) (own memory s) p (tables_for s (entry_number s.slot page))) (page_again s.slot page slot small c)
    ∙ ap (look_under (512 * s.pages) (own memory s) page) (tables_own memory s page f slot c)
    ∙ (λ i. lookup (size i) (own_is memory s g v i) (v.told i) page)

-- a present page
pub present_covered : (memory : List ℕ) (s : Shadowed) (g : GuestState) (page : ℕ) → Fits memory s → Serves g s → IsPresent (guest_of memory g) page → IsCovered page
present_covered memory s g page f v p =
    covered (length (partition_of memory g)) (partition_of memory g) (tables_of g) page p.entry (subst CanBeShadowed v.told f.told) (omega (arith, own_length memory s f, ap length (own_is memory s g v), f.small)) p.has
