-- A page is filled.
use Rattle.std.proofs.Common.{◌≡◌, ℕ, ◌+◌, ◌-◌, ◌*◌, ◌^◌, ◌<◌, ◌≤◌, ◌⊎◌, inl, inr, Bool, true, false, List, length, set, Some, refl, ap, ◌∙◌, sym, subst, arith, slice_index, get_or}
use Rattle.std.proofs.lemmas.List.{get_or-drop, get_or-take}
use Rattle.std.proofs.lemmas.Option.{same_Some}
use Rattle.vax_arch.specs.Fields.{frame_of, is_valid}
use Rattle.vax_arch.specs.Walk.{entry_at}
use Rattle.vax_arch.specs.declared.pte.Pte.{Pte}
use Rattle.vax_arch.specs.declared.walk.Lookup.{Lookup}
use Rattle.vax_hw.specs.Machine.{Machine}
use Rattle.vm_shadow.specs.Flags.{IsWithin, with_flags}
use Rattle.vm_shadow.specs.Layout.{all_entries, entry_number, entry_place, real_entry}
use Rattle.vm_shadow.specs.Shadowed.{Fits, IsSource, Shadowed, own, seen_at}
use Rattle.vm_shadow.specs.StandsFor.{FillsPage, IsPageEntry, IsPresent, Protects, StandsFor}
use Rattle.vm_shadow.specs.declared.source.Source.{Source}
use Rattle.vm_shadow.proofs.Changes.{filled}
use Rattle.vm_shadow.proofs.Covering.{own_is, own_length, present_covered, seen_own, slot_small}
use Rattle.vm_shadow.proofs.Entries.{seen_kept}
use Rattle.vm_shadow.proofs.Flagging.{flagged_all, flags_size}
use Rattle.vm_shadow.proofs.Places.{number_small, place_within, split}
use Rattle.vm_shadow.proofs.Scanning.{only_more, with_long}
use Rattle.vm_shadow.proofs.Writes.{part_same, written}
use Rattle.vm_state.specs.Partition.{IsApart, guest_of, partition_of}
use Rattle.vm_state.specs.Translation.{look}
use Rattle.vm_state.specs.declared.guest_state.GuestState.{GuestState}

-- bytes outside of a range that alone changed
pub byte_apart : (at n : ℕ) (before after : List ℕ) (p : ℕ) → IsApart at n before after → (p < at) ⊎ (at + n ≤ p) → slice_index after p ≡ slice_index before p
byte_apart at n before after p a (inl h) = sym (get_or-take at after p 0 h) ∙ ap (λ x. get_or x p 0) a.front ∙ get_or-take at before p 0 h
byte_apart at n before after p a (inr h) = let e : at + n + (p - (at + n)) ≡ p = omega arith in subst (λ q. slice_index after q ≡ slice_index before q) e (sym (get_or-drop (at + n) after (p - (at + n)) 0) ∙ ap (λ x. get_or x (p - (at + n)) 0) a.back ∙ get_or-drop (at + n) before (p - (at + n)) 0)

-- then the guest's memory stays
pub own_apart : (before after : List ℕ) (s : Shadowed) → Fits before s → IsApart (512 * s.at) (512 * 580) before after → own after s ≡ own before s
own_apart before after s f a = part_same before after (512 * s.base) (512 * s.pages) a.size (omega (arith, f.partition)) (λ p h k. byte_apart (512 * s.at) (512 * 580) before after p a (split f.apart (λ q. inl (omega arith)) (λ q. inr (omega arith))))

fill_by : (page : ℕ) (g : GuestState) (m m1 : Machine) (s : Shadowed) (w : List Bool) (entry : Pte) (source : Source) (seen : Lookup) (n : ℕ) → page < 2 ^ 23 → StandsFor m.memory s g → IsPresent (guest_of m.memory g) page → seen ≡ look (guest_of m.memory g) page → IsPageEntry g.pages (partition_of m.memory g) seen (Some (entry, source)) → Protects source m s m1 (record s { writable = w }) →
    n ≡ entry_number s.slot page → FillsPage page g m s (with_long m1 (entry_place s.at n) (real_entry s.base false entry.0)) (record s { reads = set s.reads n (Some source); consulted = with_flags true source s.consulted; writable = w })
fill_by page g m m1 s w entry source seen n small stands p is e protects at =
    let v = stands.serves in
    let f = stands.keeps.fits in
    let s1 : Shadowed = record s { writable = w } in
    let k1 = protects.keeps in
    let f1 = k1.fits in
    let c = present_covered m.memory s g page f v p in
    let h : n < all_entries = subst (λ x. x < all_entries) (sym at) (number_small s.slot page (slot_small m.memory s f) c) in
    let own1 : own m1.memory s ≡ own m.memory s = own_apart m.memory m1.memory s f protects.only.tables in
    let now : seen_at m1.memory s1 n ≡ seen = seen_kept m.memory m1.memory s s.reads s.consulted w n own1 ∙ ap (seen_at m.memory s) at ∙ seen_own m.memory s g page f v small c ∙ sym is in
    let has : entry_at (own m1.memory s) seen ≡ Some (entry.0) = ap (λ x. entry_at x seen) (own1 ∙ own_is m.memory s g v) ∙ e.0 in
    let same : p.entry ≡ entry.0 = same_Some p.entry (entry.0) (sym p.has ∙ ap (entry_at (partition_of m.memory g)) (sym is) ∙ e.0) in
    let valid : is_valid (entry.0) ≡ true = subst (λ x. is_valid x ≡ true) same p.valid in
    let size : length (partition_of m.memory g) ≡ 512 * s.pages = ap length (sym (own_is m.memory s g v)) ∙ own_length m.memory s f in
    let inside : 512 * frame_of (entry.0) + 512 ≤ 512 * s.pages = subst (λ x. 512 * frame_of x + 512 ≤ 512 * s.pages) same (omega (arith, p.inside, size)) in
    let within : IsWithin (length s.consulted) source = subst (λ x. IsWithin x source) (sym (stands.keeps.remembers.consulted ∙ v.pages)) e.2 in
    let place = entry_place s.at n in
    let written_is = written m1.memory place (real_entry s.base false (entry.0)) (omega (arith, f1.room, (place_within s.at n h).back)) in
    let done = filled m1.memory _ s1 n (entry.0) source (with_flags true source s.consulted) k1 h (ap (entry_at (own m1.memory s)) now ∙ has) valid inside (subst (λ x. IsSource x source) (sym now) e.1) protects.free (λ frame u. flagged_all source s.consulted frame within u) (flags_size true source s.consulted) written_is in
    record {
      stands = record { keeps = done.keeps; serves = record { pages = v.pages; base = v.base; told = v.told }; allowed = stands.allowed };
      fills = record { source = source; is = subst (λ x. IsSource x source) is e.1; reads = ap (λ x. set s.reads x (Some source)) at; rest = refl };
      only = only_more s.at m m1 place _ f1.room (place_within s.at n h) protects.only;
    }

pub fill_page : (page : ℕ) (g : GuestState) (m m1 m2 : Machine) (s s1 inside : Shadowed) (entry : Pte) (source : Source) (seen : Lookup) (n place real : ℕ) (consulted : List Bool) → page < 2 ^ 23 → StandsFor m.memory s g → IsPresent (guest_of m.memory g) page → seen ≡ look (guest_of m.memory g) page → IsPageEntry g.pages (partition_of m.memory g) seen (Some (entry, source)) → Protects source m s m1 s1 → inside ≡ s1 →
    n ≡ entry_number inside.slot page → place ≡ entry_place inside.at n → real ≡ real_entry inside.base false entry.0 → m2 ≡ with_long m1 place real → consulted ≡ with_flags true source inside.consulted →
    FillsPage page g m s m2 (record inside { reads = set inside.reads n (Some source); consulted = consulted })
fill_page page g m m1 m2 s s1 inside entry source seen n place real consulted small stands p is e protects view at place_is real_is write flags =
    let both : inside ≡ record s { writable = s1.writable } = view ∙ protects.rest in
    let slot : inside.slot ≡ s.slot = ap (λ (x : Shadowed). x.slot) both in
    let tables : inside.at ≡ s.at = ap (λ (x : Shadowed). x.at) both in
    let base : inside.base ≡ s.base = ap (λ (x : Shadowed). x.base) both in
    let q : place ≡ entry_place s.at n = place_is ∙ ap (λ x. entry_place x n) tables in
    let r : real ≡ real_entry s.base false entry.0 = real_is ∙ ap (λ x. real_entry x false entry.0) base in
    let machine : m2 ≡ with_long m1 (entry_place s.at n) (real_entry s.base false entry.0) = write ∙ (λ i. with_long m1 (q i) (r i)) in
    let shadow : record inside { reads = set inside.reads n (Some source); consulted = consulted } ≡ record s { reads = set s.reads n (Some source); consulted = with_flags true source s.consulted; writable = s1.writable } =
    ap (λ x. record inside { reads = set inside.reads n (Some source); consulted = x }) flags ∙ ap (λ (x : Shadowed). record x { reads = set x.reads n (Some source); consulted = with_flags true source x.consulted }) both in
    subst (λ x. FillsPage page g m s x (record inside { reads = set inside.reads n (Some source); consulted = consulted })) (sym machine) (subst (FillsPage page g m s (with_long m1 (entry_place s.at n) (real_entry s.base false entry.0))) (sym shadow)
    (fill_by page g m m1 s s1.writable entry source seen n small stands p is e (subst (Protects source m s m1) protects.rest protects) (at ∙ ap (λ x. entry_number x page) slot)))
