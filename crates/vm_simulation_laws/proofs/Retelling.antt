-- Present pages, at a switch to registers of page tables.
use Rattle.std.proofs.Common.{◌≡◌, ◌≢◌, ℕ, suc, ◌<◌, ◌≤◌, inl, inr, Bool, true, false, cond, ◌&&◌, ◌||◌, ◌==◌, nat_le, List, [], ◌∷◌, length, get_or, All, AllPairs, IfSome, Option, Some, is_some, refl, ap, ◌∙◌, sym, subst, arith}
use Rattle.std.proofs.lemmas.Bool.{and_left, and_right, eq-eqb, eqb-true, false≢true, lt-leb, ne_eqb}
use Rattle.vax_arch.specs.Walk.{Tables, in_region, region_of}
use Rattle.vm_simulation_laws.specs.Moves.{Moves}
use Rattle.vm_simulation_laws.specs.Present.{HasEntry, HasPresent, HaveEntries, HaveSlots}
use Rattle.vm_simulation_laws.proofs.Slots.{Stays, brought_forward, emptied_all, not_full, slots_emptied}
use Rattle.vm_simulation_laws.proofs.Surviving.{all_survive}
use Rattle.vm_shadow.specs.Calls.{unless_dropped}
use Rattle.vm_shadow.specs.Layout.{IsCovered, entry_number, entry_slot}
use Rattle.vm_shadow.specs.Shadowed.{Keeps, Shadowed, read_at}
use Rattle.vm_shadow.specs.StandsFor.{Retells, Serves, goes, is_full_for, staying}
use Rattle.vm_shadow.specs.declared.source.Source.{Source}
use Rattle.vm_shadow.proofs.Places.{number_system, slot_again}
use Rattle.vm_slots.specs.Held.{AreSlots, Held, others_held, slot_of}
use Rattle.vm_slots.specs.declared.context.Context.{Context}
use Rattle.vm_state.specs.Partition.{guest_of}
use Rattle.vm_state.specs.State.{Guest, context_of, tables_of}
use Rattle.vm_state.specs.Touches.{Present, Process, brought, emptied, is_overwritten, is_remapped, is_system, no_pages, present_after, to_front}
use Rattle.vm_state.specs.declared.guest_state.GuestState.{GuestState}

kept_filled : (b : Bool) (before after : Option Source) → after ≡ unless_dropped b before → b ≡ false → is_some before ≡ true → is_some after ≡ true
kept_filled true before after is e h = absurd (false≢true (sym e))
kept_filled false before after is e h = ap is_some is ∙ h

-- an entry that doesn't go
pub entry_stays : (s s' : Shadowed) (slot page : ℕ) (b : Bool) → read_at s' (entry_number slot page) ≡ unless_dropped b (read_at s (entry_number slot page)) → b ≡ false → HasEntry s slot page → HasEntry s' slot page
entry_stays s s' slot page b is e h = record { small = h.small; covered = h.covered; filled = kept_filled b _ _ is e h.filled }

goes_not : (full : Bool) (slot n : ℕ) → (full ≡ true → (nat_le 8192 n && entry_slot n == slot) ≡ false) → goes false full slot n ≡ false
goes_not true slot n h = h refl
goes_not false slot n h = refl

not_system : (page : ℕ) → is_system page ≡ false → region_of page ≡ 2 → ⊥
not_system page e r = false≢true (sym e ∙ eq-eqb (region_of page) 2 r)

others_apart : (c : Context) (slot : ℕ) (stay : Held) → AllPairs (λ h k. h.1 ≢ k.1) ((c, slot) ∷ stay) → All (λ h. slot ≢ h.1) stay
others_apart c slot stay pairs i e within = pairs 0 (suc i) e (omega arith) (omega arith)

others_small : (c : Context) (slot : ℕ) (stay : Held) → All (λ h. h.1 < 4) ((c, slot) ∷ stay) → All (λ h. h.1 < 4) stay
others_small c slot stay all i e within = all (suc i) e (omega arith)

system_low : (page : ℕ) → region_of page ≡ 2 → IsCovered page → in_region page < 8192
system_low page r (inl c) = c.1
system_low page r (inr (inl c)) = absurd (omega (arith, r, c.0))
system_low page r (inr (inr c)) = absurd (omega (arith, r, c.0))

module _ (t : Tables) (s s' : Shadowed) (r : Retells t s s') where
  abbrev c : Context
  c = context_of t

  front : (remapped : Bool) → is_remapped s.told t ≡ remapped → s'.held ≡ (c, s'.slot) ∷ others_held c (staying remapped s.held)
  front remapped e = r.takes.front ∙ ap (λ b. (c, s'.slot) ∷ others_held c (staying b s.held)) e

  slots : (remapped : Bool) → is_remapped s.told t ≡ remapped → AreSlots ((c, s'.slot) ∷ others_held c (staying remapped s.held))
  slots remapped e = subst AreSlots (front remapped e) r.takes.after

  own_slot : (remapped : Bool) → is_remapped s.told t ≡ remapped → IfSome (slot_of c (staying remapped s.held)) (λ own. s'.slot ≡ own)
  own_slot remapped e = subst (λ b. IfSome (slot_of c (staying b s.held)) (λ own. s'.slot ≡ own)) e r.takes.kept

  stay_few : (remapped : Bool) → is_remapped s.told t ≡ remapped → length (staying remapped s.held) ≤ 4
  stay_few remapped e = subst (λ b. length (staying b s.held) ≤ 4) e r.takes.before.few

  -- an entry that doesn't go where no table was moved
  one_stays : is_remapped s.told t ≡ false → (slot page : ℕ) → (is_full_for c s.held ≡ true → (nat_le 8192 (entry_number slot page) && entry_slot (entry_number slot page) == s'.slot) ≡ false) → HasEntry s slot page → HasEntry s' slot page
  one_stays e slot page h = entry_stays s s' slot page (goes (is_remapped s.told t) (is_full_for c s.held) s'.slot (entry_number slot page)) (r.each (entry_number slot page))
      (ap (λ b. goes b (is_full_for c s.held) s'.slot (entry_number slot page)) e ∙ goes_not (is_full_for c s.held) s'.slot (entry_number slot page) h)

  other_stays : is_remapped s.told t ≡ false → (slot : ℕ) → slot < 4 → s'.slot ≢ slot → Stays s s' slot
  other_stays e slot low apart page process h =
      let again = slot_again slot page low h.covered (not_system page process) in
      one_stays e slot page (λ full. and_right (nat_le 8192 (entry_number slot page)) _ (ne_eqb (entry_slot (entry_number slot page)) s'.slot (λ same. apart (sym same ∙ again.1)))) h

  own_stays : is_remapped s.told t ≡ false → slot_of c s.held ≡ Some s'.slot → Stays s s' s'.slot
  own_stays e has page process h =
      let full : is_full_for c s.held ≡ false = not_full c s.held s'.slot (stay_few false e) has in
      one_stays e s'.slot page (λ is. absurd (false≢true (sym full ∙ is))) h

  others_stay : is_remapped s.told t ≡ false → All (λ h. Stays s s' h.1) (others_held c s.held)
  others_stay e i d within =
      let are = slots false e in
      other_stays e (get_or (others_held c s.held) i d).1 (others_small c s'.slot (others_held c s.held) are.small i d within) (others_apart c s'.slot (others_held c s.held) are.slots i d within)

  system_stays : is_remapped s.told t ≡ false → (pages : List ℕ) → HaveEntries s true 0 pages → HaveEntries s' true 0 pages
  system_stays e pages all page h =
      let one = all page h in
      let region : region_of page ≡ 2 = eqb-true (region_of page) 2 one.0 in
      let number : entry_number 0 page ≡ in_region page = number_system 0 page region in
      let low : in_region page < 8192 = system_low page region one.1.covered in
      (one.0, one_stays e 0 page (λ full. and_left (nat_le 8192 (entry_number 0 page)) _ (ap (nat_le 8192) number ∙ lt-leb 8192 (in_region page) low)) one.1)

  -- the guest's context moves to the front
  pub told_kept : (h : Guest) (p : Present) → h.state.tables ≡ t → is_remapped s.told t ≡ false → HasPresent s p → HasPresent s' (to_front h p)
  told_kept h p is e all = subst (λ (u : Tables). HasPresent s' (record p { processes = brought (context_of u) p.processes })) (sym is) (record {
    system = system_stays e p.system all.system;
    processes = subst (λ held. HaveSlots s' held (brought c p.processes)) (sym (front false e)) (brought_forward s s' c s'.slot s.held p.processes (own_slot false e) (own_stays e) (others_stay e) all.processes);
  })

  -- and all pages go
  pub told_emptied : (h : Guest) (p : Present) → h.state.tables ≡ t → HasPresent s p → HasPresent s' (to_front h (emptied p))
  told_emptied h p is all = by (is_remapped s.told t) refl
    where
      by : (remapped : Bool) → is_remapped s.told t ≡ remapped → HasPresent s' (to_front h (emptied p))
      by remapped e = subst (λ (u : Tables). HasPresent s' (record (emptied p) { processes = brought (context_of u) (emptied p).processes })) (sym is) (record {
        system = λ page j. absurd j;
        processes = subst (λ held. HaveSlots s' held (brought c (emptied p).processes)) (sym (front remapped e))
            (brought_forward s' s' c s'.slot (staying remapped s.held) (emptied_all p.processes) (own_slot remapped e) (λ has page process there. there) (λ i d within page process there. there) (slots_emptied s s' remapped s.held p.processes all.processes));
      })

-- The kernel's work for a guest: frames are written, and then the tables switch to registers.
abbrev after_by : (overwritten remapped : Bool) → Guest → Present → Present
after_by overwritten remapped h p = to_front h (cond (overwritten || remapped) (emptied p) p)

-- nothing is dropped but what frames hold, where all is emptied too
same_slots : (s s' : Shadowed) (held : Held) (ps : List Process) → HaveSlots s held ps → HaveSlots s' held (emptied_all ps)
same_slots s s' held ps k = slots_emptied s s' false held ps k

emptied_twice : (ps : List Process) → emptied_all (emptied_all ps) ≡ emptied_all ps
emptied_twice [] = refl
emptied_twice (p ∷ ps) = ap (λ (xs : List Process). no_pages p.context ∷ xs) (emptied_twice ps)

module _ (s : Shadowed) (h : Guest) (frames : List ℕ) (s' : Shadowed) (p : Present) (m : Moves frames h.state.tables s s') (all : HasPresent s p) where
  -- with all pages gone nothing is asked of entries
  between_emptied : HasPresent m.between (emptied p)
  between_emptied = record { system = λ page j. absurd j; processes = subst (λ held. HaveSlots m.between held (emptied_all p.processes)) (sym m.drops.held) (same_slots s m.between s.held p.processes all.processes) }

  pub reset : HasPresent s' (to_front h (emptied p))
  reset = subst (λ (ps : List Process). HasPresent s' (to_front h (record { system = []; processes = ps }))) (emptied_twice p.processes) (told_emptied h.state.tables m.between s' m.retells h (emptied p) refl between_emptied)

pub moved : (memory : List ℕ) (s : Shadowed) (g : GuestState) (h : Guest) (frames : List ℕ) (s' : Shadowed) (p : Present) → Keeps [] [] memory s → Serves g s → Moves frames h.state.tables s s' → HasPresent s p → HasPresent s' (present_after (guest_of memory g) h frames p)
moved memory s g h frames s' p k v m all = by (is_overwritten (guest_of memory g) frames p) (is_remapped (tables_of g) h.state.tables) refl refl
  where
    told : m.between.told ≡ tables_of g
    told = m.drops.told ∙ v.told

    gone : HasPresent s' (to_front h (emptied p))
    gone = reset s h frames s' p m all

    by : (overwritten remapped : Bool) → is_overwritten (guest_of memory g) frames p ≡ overwritten → is_remapped (tables_of g) h.state.tables ≡ remapped → HasPresent s' (after_by overwritten remapped h p)
    by true remapped e f = gone
    by false true e f = gone
    by false false e f = told_kept h.state.tables m.between s' m.retells h p refl (ap (λ t. is_remapped t h.state.tables) told ∙ f) (all_survive memory s g k v frames m.between m.drops p e all)
