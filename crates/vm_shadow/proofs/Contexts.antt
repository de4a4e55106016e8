-- The registers under which an entry stands for its page.
use Rattle.std.proofs.Common.{◌≡◌, ℕ, ◌<◌, ◌≤◌, ◌⊎◌, inl, inr, Bool, true, false, cond, ◌==◌, List, [], ◌∷◌, find, All, Option, Some, None, option_map, refl, ap, ◌∙◌, sym, subst, arith}
use Rattle.std.proofs.lemmas.Bool.{cases_lt, eq-eqb, le-ltb, lt-ltb}
use Rattle.std.proofs.lemmas.List.Elements.{All-head, All-tail}
use Rattle.std.proofs.lemmas.Option.{same_Some}
use Rattle.vax_arch.specs.Walk.{Tables, in_region, region_of}
use Rattle.vax_arch.specs.WalkLaws.{AreAligned}
use Rattle.vm_slots.specs.Held.{Held}
use Rattle.vm_slots.specs.declared.context.Context.{Context}
use Rattle.vm_shadow.specs.Layout.{IsCovered, entry_number, entry_slot}
use Rattle.vm_shadow.specs.Shadowed.{CanBeShadowed, Fits, IsFirst, Shadowed, context_in, in_context, tables_for}
use Rattle.vm_shadow.proofs.Places.{number_system, slot_again, split}
use Rattle.vm_state.specs.Registers.{first_p1_page}
use Rattle.vm_state.specs.State.{context_of}

pub aligned_of : (t : Tables) → CanBeShadowed t → AreAligned t
aligned_of t c = record { p0br = c.p0br; p1br = c.p1br; sbr = c.sbr }

found_at : (P : Context → Type 0) (h : Context × ℕ) (x : Option (Context × ℕ)) (b : Bool) (u : Context) → option_map (λ k. k.0) (cond b (Some h) x) ≡ Some u → P h.0 → ((option_map (λ k. k.0) x ≡ Some u) → P u) → P u
found_at P h x true u e here rest = subst P (same_Some h.0 u e) here
found_at P h x false u e here rest = rest e

-- the context that has a slot is one of those held
pub of_held : (P : Context → Type 0) (slot : ℕ) (held : Held) → All (λ h. P h.0) held → (c : Context) → context_in slot held ≡ Some c → P c
of_held P slot [] all c e = cc
of_held P slot (h ∷ hs) all c e = found_at P h (find (λ k. k.1 == slot) hs) (h.1 == slot) c e (All-head (λ k. P k.0) h hs all) (λ f. of_held P slot hs (All-tail (λ k. P k.0) h hs all) c f)

mapped_by : (P : Tables → Type 0) (t : Tables) (x : Option Context) → ((c : Context) → x ≡ Some c → P (in_context t c)) → (u : Tables) → option_map (in_context t) x ≡ Some u → P u
mapped_by P t None h u e = cc
mapped_by P t (Some c) h u e = subst P (same_Some (in_context t c) u e) (h c refl)

pub tables_low : (s : Shadowed) (n : ℕ) → n < 8192 → tables_for s n ≡ Some s.told
tables_low s n h = rw (lt-ltb n 8192 h)

pub tables_high : (s : Shadowed) (n : ℕ) → 8192 ≤ n → tables_for s n ≡ option_map (in_context s.told) (context_in (entry_slot n) s.held)
tables_high s n h = rw (le-ltb n 8192 h)

pub stand_for : (memory : List ℕ) (s : Shadowed) (n : ℕ) (u : Tables) → Fits memory s → tables_for s n ≡ Some u → CanBeShadowed u
stand_for memory s n u f e = split (cases_lt n 8192)
    (λ h. subst CanBeShadowed (same_Some s.told u (sym (tables_low s n h) ∙ e)) f.told)
    (λ h. mapped_by CanBeShadowed s.told (context_in (entry_slot n) s.held) (λ c k. of_held (λ d. CanBeShadowed (in_context s.told d)) (entry_slot n) s.held f.contexts c k) u (sym (tables_high s n h) ∙ e))

-- the first context has its slot
first_in : (c : Context) (slot : ℕ) (held : Held) → IsFirst c slot held → context_in slot held ≡ Some c
first_in c slot [] e = absurd e
first_in c slot (h ∷ hs) e = let t : (h.1 == slot) ≡ true = eq-eqb h.1 slot e.1 in ap (λ b. option_map (λ k. k.0) (cond b (Some h) (find (λ k. k.1 == slot) hs))) t ∙ ap Some e.0

-- the guest's own registers are those of its pages' entries in the slot in use
pub tables_own : (memory : List ℕ) (s : Shadowed) (page : ℕ) → Fits memory s → s.slot < 4 → IsCovered page → tables_for s (entry_number s.slot page) ≡ Some s.told
tables_own memory s page f small (inl c) = ap (tables_for s) (number_system s.slot page c.0) ∙ tables_low s _ c.1
tables_own memory s page f small (inr c) =
    let again = slot_again s.slot page small (inr c) (λ r. other c r) in
    tables_high s (entry_number s.slot page) again.0 ∙ ap (λ k. option_map (in_context s.told) (context_in k s.held)) again.1 ∙ ap (option_map (in_context s.told)) (first_in (context_of s.told) s.slot s.held f.first)
  where
    other : ((region_of page ≡ 0) × (in_region page < 8192)) ⊎ ((region_of page ≡ 1) × (first_p1_page ≤ in_region page)) → region_of page ≡ 2 → ⊥
    other (inl a) r = let z : region_of page ≡ 0 = a.0 in omega arith
    other (inr a) r = let z : region_of page ≡ 1 = a.0 in omega arith
