-- The contexts of the slots and the state's, when one of them moves to the front.
use Rattle.std.proofs.Common.{◌≡◌, ℕ, zero, suc, ◌<◌, ◌≤◌, Bool, true, false, cond, not, List, [], ◌∷◌, length, filter, find, map, take, All, IfSome, Option, Some, None, option_map, refl, ap, ◌∙◌, sym, subst, arith}
use Rattle.std.proofs.lemmas.Bool.{false≢true, ne_eqb}
use Rattle.std.proofs.lemmas.List.Elements.{All-head, All-tail}
use Rattle.vax_table.specs.Interaction.{IsIn}
use Rattle.vm_simulation_laws.specs.Present.{HasEntry, HaveEntries, HaveNone, HaveSlots}
use Rattle.vm_shadow.specs.Shadowed.{Shadowed}
use Rattle.vm_shadow.specs.StandsFor.{is_full_for, staying}
use Rattle.vm_slots.specs.Held.{Held, is_same, others_held, slot_of, without}
use Rattle.vm_slots.specs.declared.context.Context.{Context}
use Rattle.vm_slots.proofs.HeldLaws.{is_same-true}
use Rattle.vm_state.specs.Touches.{Process, brought, is_system, no_pages, process_or_new}

-- Entries of a process's pages in a slot stay.
abbrev pub Stays : (s s' : Shadowed) → (slot : ℕ) → Type 0
Stays s s' slot = (page : ℕ) → is_system page ≡ false → HasEntry s slot page → HasEntry s' slot page

pub entries_stay : (s s' : Shadowed) (slot : ℕ) (pages : List ℕ) → Stays s s' slot → HaveEntries s false slot pages → HaveEntries s' false slot pages
entries_stay s s' slot pages stays all page h = let one = all page h in (one.0, stays page one.0 one.1)

pub slots_stay : (s s' : Shadowed) (held : Held) (ps : List Process) → All (λ h. Stays s s' h.1) held → HaveSlots s held ps → HaveSlots s' held ps
slots_stay s s' [] ps all k = k
slots_stay s s' (h ∷ hs) [] all k = k
slots_stay s s' (h ∷ hs) (p ∷ ps) all k =
    (k.0, entries_stay s s' h.1 p.pages (All-head (λ x. Stays s s' x.1) h hs all) k.1, slots_stay s s' hs ps (All-tail (λ x. Stays s s' x.1) h hs all) k.2)

-- Some of the contexts alone, and the first ones alone.
abbrev pub without_process : Context → List Process → List Process
without_process c ps = filter (λ p. not (is_same c p.context)) ps

none_without : (c : Context) (ps : List Process) → HaveNone ps → HaveNone (without_process c ps)
none_without c [] k = tt
none_without c (p ∷ ps) k = one (not (is_same c p.context)) (none_without c ps k.1)
  where
    one : (b : Bool) → HaveNone (without_process c ps) → HaveNone (cond b (p ∷ without_process c ps) (without_process c ps))
    one true rest = (k.0, rest)
    one false rest = rest

slots_without : (s : Shadowed) (c : Context) (held : Held) (ps : List Process) → HaveSlots s held ps → HaveSlots s (without c held) (without_process c ps)
slots_without s c [] ps k = none_without c ps k
slots_without s c (h ∷ hs) [] k = absurd k
slots_without s c (h ∷ hs) (p ∷ ps) k = one (is_same c h.0) (is_same c p.context) (ap (is_same c) (sym k.0)) (slots_without s c hs ps k.2)
  where
    one : (a b : Bool) → a ≡ b → HaveSlots s (without c hs) (without_process c ps) → HaveSlots s (cond (not a) (h ∷ without c hs) (without c hs)) (cond (not b) (p ∷ without_process c ps) (without_process c ps))
    one true true e rest = rest
    one true false e rest = absurd (false≢true (sym e))
    one false true e rest = absurd (false≢true e)
    one false false e rest = (k.0, k.1, rest)

none_first : (n : ℕ) (ps : List Process) → HaveNone ps → HaveNone (take n ps)
none_first zero ps k = tt
none_first (suc n) [] k = tt
none_first (suc n) (p ∷ ps) k = (k.0, none_first n ps k.1)

slots_first : (s : Shadowed) (n : ℕ) (held : Held) (ps : List Process) → HaveSlots s held ps → HaveSlots s (take n held) (take n ps)
slots_first s zero held ps k = tt
slots_first s (suc n) [] ps k = none_first (suc n) ps k
slots_first s (suc n) (h ∷ hs) [] k = absurd k
slots_first s (suc n) (h ∷ hs) (p ∷ ps) k = (k.0, k.1, slots_first s n hs ps k.2)

-- The process of a context, where there is one.
abbrev process_of : Context → List Process → Process
process_of c ps = process_or_new c (find (λ p. is_same c p.context) ps)

its_context : (c : Context) (ps : List Process) → (process_of c ps).context ≡ c
its_context c [] = refl
its_context c (p ∷ ps) = one (is_same c p.context) refl (its_context c ps)
  where
    one : (b : Bool) → is_same c p.context ≡ b → (process_of c ps).context ≡ c → (process_or_new c (cond b (Some p) (find (λ q. is_same c q.context) ps))).context ≡ c
    one true e rest = sym (is_same-true c p.context e)
    one false e rest = rest

none_of : (c : Context) (ps : List Process) → HaveNone ps → (process_of c ps).pages ≡ []
none_of c [] k = refl
none_of c (p ∷ ps) k = one (is_same c p.context) (none_of c ps k.1)
  where
    one : (b : Bool) → (process_of c ps).pages ≡ [] → (process_or_new c (cond b (Some p) (find (λ q. is_same c q.context) ps))).pages ≡ []
    one true rest = k.0
    one false rest = rest

-- where one of its pages is present it has a slot
pub record HasSlot (s : Shadowed) (c : Context) (held : Held) (page : ℕ) : Type 0 where
  pub slot : ℕ
  pub has : slot_of c held ≡ Some slot
  pub process : is_system page ≡ false
  pub entry : HasEntry s slot page

nowhere : (page : ℕ) (pages : List ℕ) → pages ≡ [] → IsIn page pages → ⊥
nowhere page pages e h = subst (IsIn page) e h

its_slot : (s : Shadowed) (c : Context) (held : Held) (ps : List Process) (page : ℕ) → HaveSlots s held ps → IsIn page (process_of c ps).pages → HasSlot s c held page
its_slot s c [] ps page k h = absurd (nowhere page (process_of c ps).pages (none_of c ps k) h)
its_slot s c (x ∷ hs) [] page k h = absurd k
its_slot s c (x ∷ hs) (p ∷ ps) page k h = one (is_same c x.0) (is_same c p.context) refl (ap (is_same c) (sym k.0)) (its_slot s c hs ps page k.2) h
  where
    one : (a b : Bool) → is_same c x.0 ≡ a → a ≡ b → (IsIn page (process_of c ps).pages → HasSlot s c hs page) → IsIn page (process_or_new c (cond b (Some p) (find (λ q. is_same c q.context) ps))).pages → HasSlot s c (x ∷ hs) page
    one true true at e rest j = let there = k.1 page j in record { slot = x.1; has = ap (λ t. option_map (λ (y : Context × ℕ). y.1) (cond t (Some x) (find (λ y. is_same c y.0) hs))) at; process = there.0; entry = there.1 }
    one true false at e rest j = absurd (false≢true (sym e))
    one false true at e rest j = absurd (false≢true e)
    one false false at e rest j =
        let there = rest j in
        record { slot = there.slot; has = ap (λ t. option_map (λ (y : Context × ℕ). y.1) (cond t (Some x) (find (λ y. is_same c y.0) hs))) at ∙ there.has; process = there.process; entry = there.entry }

same_slot : (slot own : ℕ) (o : Option ℕ) → o ≡ Some own → IfSome o (λ n. slot ≡ n) → slot ≡ own
same_slot slot own None e k = cc
same_slot slot own (Some n) e k = let same : n ≡ own = cc in k ∙ same

-- a context moves to the front
pub brought_forward : (s s' : Shadowed) (c : Context) (slot : ℕ) (held : Held) (ps : List Process)
    → IfSome (slot_of c held) (λ own. slot ≡ own)
    → (slot_of c held ≡ Some slot → Stays s s' slot)
    → All (λ h. Stays s s' h.1) (others_held c held)
    → HaveSlots s held ps → HaveSlots s' ((c, slot) ∷ others_held c held) (brought c ps)
brought_forward s s' c slot held ps kept own others k = (its_context c ps, mine, slots_stay s s' (others_held c held) (take 3 (without_process c ps)) others (slots_first s 3 (without c held) (without_process c ps) (slots_without s c held ps k)))
  where
    mine : HaveEntries s' false slot (process_of c ps).pages
    mine page h =
        let there = its_slot s c held ps page k h in
        let same : slot ≡ there.slot = same_slot slot there.slot (slot_of c held) there.has kept in
        let has : slot_of c held ≡ Some slot = there.has ∙ ap (λ (n : ℕ). Some n) (sym same) in
        (there.process, own has page there.process (subst (λ n. HasEntry s n page) (sym same) there.entry))

-- all pages go, and the contexts stay in their order
abbrev pub emptied_all : List Process → List Process
emptied_all ps = map (λ p. no_pages p.context) ps

none_emptied : (ps : List Process) → HaveNone (emptied_all ps)
none_emptied [] = tt
none_emptied (p ∷ ps) = (refl, none_emptied ps)

pub slots_emptied : (s s' : Shadowed) (remapped : Bool) (held : Held) (ps : List Process) → HaveSlots s held ps → HaveSlots s' (staying remapped held) (emptied_all ps)
slots_emptied s s' true held ps k = none_emptied ps
slots_emptied s s' false [] ps k = none_emptied ps
slots_emptied s s' false (h ∷ hs) [] k = absurd k
slots_emptied s s' false (h ∷ hs) (p ∷ ps) k = (k.0, (λ page j. absurd j), slots_emptied s s' false hs ps k.2)

-- a context that has a slot leaves three others at most
fewer_others : (c : Context) (held : Held) → length (without c held) ≤ length held
fewer_others c [] = omega arith
fewer_others c (h ∷ hs) = one (not (is_same c h.0)) (fewer_others c hs)
  where
    one : (b : Bool) → length (without c hs) ≤ length hs → length (cond b (h ∷ without c hs) (without c hs)) ≤ suc (length hs)
    one true e = omega arith
    one false e = omega arith

one_less : (c : Context) (held : Held) (slot : ℕ) → slot_of c held ≡ Some slot → length (without c held) < length held
one_less c [] slot e = cc
one_less c (h ∷ hs) slot e = one (is_same c h.0) (fewer_others c hs) (one_less c hs slot) e
  where
    one : (b : Bool) → length (without c hs) ≤ length hs → (slot_of c hs ≡ Some slot → length (without c hs) < length hs) → option_map (λ (y : Context × ℕ). y.1) (cond b (Some h) (find (λ y. is_same c y.0) hs)) ≡ Some slot → length (cond (not b) (h ∷ without c hs) (without c hs)) < suc (length hs)
    one true few rest f = omega (arith, few)
    one false few rest f = let less : length (without c hs) < length hs = rest f in omega (arith, less)

pub not_full : (c : Context) (held : Held) (slot : ℕ) → length held ≤ 4 → slot_of c held ≡ Some slot → is_full_for c held ≡ false
not_full c held slot few e = let less : length (without c held) < length held = one_less c held slot e in ne_eqb (length (without c held)) 4 (λ four. omega (arith, less, four))
