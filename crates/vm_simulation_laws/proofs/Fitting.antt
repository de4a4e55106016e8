-- The laws, from their parts.
use Rattle.std.proofs.Common.{◌≡◌, ℕ, zero, suc, ◌+◌, ◌<◌, ◌≤◌, inl, inr, Bool, true, false, List, [], ◌∷◌, length, Option, Some, None, is_some, Err, refl, ap, ◌∙◌, sym, subst, arith}
use Rattle.std.specs.Prelude.{slice_index_or, slice_set}
use Rattle.vax_arch.specs.Fields.{current_of}
use Rattle.vax_arch.specs.Walk.{page_of}
use Rattle.vax_arch.specs.declared.walk.Lookup.{Lookup}
use Rattle.vax_hw.specs.Machine.{Machine}
use Rattle.vax_hw.specs.Real.{machine_step}
use Rattle.vax_hw.specs.declared.world.Exit.TheVariants as exits
use Rattle.vax_table.specs.Interaction.{IsIn}
use Rattle.vax_table.specs.Troubles.{intent_of}
use Rattle.vax_table.proofs.Among.{among_back, among_front}
use Rattle.vm_simulation_laws.specs.Misses.{EntriesAreValid, FilledEntriesStay, FilledPagesAreCounted, FillsKeepFilled, FoundPagesHaveEntries, KeepsFilled, MissesAreCounted, NewTablesHavePresent, ResetsKeepPresent, StepsKeepPresent, TouchesAreCounted, WritesAreMoves, WritesKeepPresent}
use Rattle.vm_simulation_laws.specs.Present.{HasEntry, HasPresent, HaveSlots, after_touches, is_filled, pages_of, to_miss}
use Rattle.vm_simulation_laws.proofs.Adding.{lacked_leaves, touches_pay}
use Rattle.vm_simulation_laws.proofs.Counting.{AreFilledIn, fewer, one_fewer, some_unfilled}
use Rattle.vm_simulation_laws.proofs.Found.{all_found, found_entries, present_filled}
use Rattle.vm_simulation_laws.proofs.Own.{moves_alone}
use Rattle.vm_simulation_laws.proofs.Retelling.{moved, reset}
use Rattle.vm_simulation_laws.proofs.Slots.{slots_stay}
use Rattle.vm_shadow.specs.Layout.{IsCovered, all_entries, entry_number}
use Rattle.vm_shadow.specs.Shadowed.{Shadowed, read_at}
use Rattle.vm_shadow.specs.StandsFor.{Fills, own_number}
use Rattle.vm_shadow.specs.declared.source.Source.{Source}
use Rattle.vm_shadow.proofs.Changes.{kept_valid}
use Rattle.vm_shadow.proofs.Hearing.{number_is_small, place_covered}
use Rattle.vm_shadow.proofs.Places.{number_small}
use Rattle.vm_simulation_laws.specs.Loaded.{RunsGuest}
use Rattle.vm_slots.specs.Held.{Held, contexts_of}
use Rattle.vm_slots.specs.declared.context.Context.{Context}
use Rattle.vm_state.specs.Partition.{guest_of}
use Rattle.vm_state.specs.State.{context_of, tables_of}
use Rattle.vm_state.specs.Step.{Touched}
use Rattle.vm_state.specs.Touches.{Present, Touching, found_all, no_pages}
use Rattle.vm_state.specs.declared.guest_state.GuestState.{GuestState}
use Rattle.vm_simulation_laws.specs.Touched.{IsTouched, touches_now}
use Rattle.vm_simulation_laws.proofs.Touching.{misses_touched}

-- one context alone, of which no page is present
alone : (s : Shadowed) (c : Context) (held : Held) → contexts_of held ≡ c ∷ [] → HaveSlots s held (no_pages c ∷ [])
alone s c [] e = cc
alone s c (h ∷ k ∷ hs) e = cc
alone s c (h ∷ []) e = let same : c ≡ h.0 = cc in (same, (λ page j. absurd j), tt)

pub entries_valid : EntriesAreValid
entries_valid pending opened memory s slot page k low h =
    kept_valid _ _ _ pending _ _ (read_at s (entry_number slot page)) (k.entries (entry_number slot page) (number_small slot page low h.covered)) h.filled

pub new_has : NewTablesHavePresent
new_has g at m m' s k = record { system = λ page j. absurd j; processes = alone s (context_of (tables_of g)) s.held k.contexts }

pub touches_counted : TouchesAreCounted
touches_counted memory s x t f all = touches_pay x.found x.lacking (is_filled s) t (present_filled memory s t.present f all)

pub in_pages : (page : ℕ) (x : Touched) → IsTouched page x → IsIn page (pages_of x)
in_pages page x (inl h) = among_front x.found x.lacking page h
in_pages page x (inr h) = among_back x.found x.lacking page h

missed_unfilled : (opened : List ℕ) (m : Machine) (s : Shadowed) (g : GuestState) (va : ℕ) (write : Bool) → RunsGuest opened m s g → machine_step m ≡ Err (exits.NotValid va write) → is_filled s (page_of va) ≡ false
missed_unfilled opened m s g va write k e = ap is_some (misses_touched opened m s g va write k e).empty

missed_in : (opened : List ℕ) (m : Machine) (s : Shadowed) (g : GuestState) (va : ℕ) (write : Bool) → RunsGuest opened m s g → machine_step m ≡ Err (exits.NotValid va write) → IsIn (page_of va) (pages_of (touches_now (guest_of m.memory g)))
missed_in opened m s g va write k e = in_pages (page_of va) (touches_now (guest_of m.memory g)) (misses_touched opened m s g va write k e).touched

pub misses_counted : MissesAreCounted
misses_counted opened m s g va write k e = some_unfilled (pages_of (touches_now (guest_of m.memory g))) (page_of va) (is_filled s) (missed_in opened m s g va write k e) (missed_unfilled opened m s g va write k e)

-- an entry that is set
set_some : (xs : List (Option Source)) (n k : ℕ) (x : Source) → is_some (slice_index_or xs k None) ≡ true → is_some (slice_index_or (slice_set xs n (Some x)) k None) ≡ true
set_some [] n k x h = h
set_some (y ∷ ys) zero zero x h = refl
set_some (y ∷ ys) zero (suc k) x h = h
set_some (y ∷ ys) (suc n) zero x h = h
set_some (y ∷ ys) (suc n) (suc k) x h = set_some ys n k x h

set_there : (xs : List (Option Source)) (n : ℕ) (x : Source) → n < length xs → is_some (slice_index_or (slice_set xs n (Some x)) n None) ≡ true
set_there [] n x h = absurd (omega arith)
set_there (y ∷ ys) zero x h = refl
set_there (y ∷ ys) (suc n) x h = set_there ys n x (omega arith)

pub fills_keep : FillsKeepFilled
fills_keep seen n s s' f = record {
  each = λ k h. ap (λ xs. is_some (slice_index_or xs k None)) f.reads ∙ set_some s.reads n k f.source h;
  slot = ap (λ z. z.slot) f.rest;
  held = ap (λ z. z.held) f.rest;
}

filled_more : (s s' : Shadowed) → KeepsFilled s s' → AreFilledIn (is_filled s) (is_filled s')
filled_more s s' k page h = ap (λ slot. is_some (read_at s' (entry_number slot page))) k.slot ∙ k.each (own_number s page) h

entry_kept : (s s' : Shadowed) → KeepsFilled s s' → (slot page : ℕ) → HasEntry s slot page → HasEntry s' slot page
entry_kept s s' k slot page h = record { small = h.small; covered = h.covered; filled = k.each (entry_number slot page) h.filled }

still_present : (s s' : Shadowed) (p : Present) → KeepsFilled s s' → HasPresent s p → HasPresent s' p
still_present s s' p k all = record {
  system = λ page j. let machine_step = all.system page j in (machine_step.0, entry_kept s s' k 0 page machine_step.1);
  processes = subst (λ held. HaveSlots s' held p.processes) (sym k.held) (slots_stay s s' s.held p.processes (λ i d within page process h. entry_kept s s' k _ page h) all.processes);
}

pub filled_stay : FilledEntriesStay
filled_stay s s' p k = record { has = still_present s s' p k; fewer = λ x. fewer (pages_of x) (is_filled s) (is_filled s') (filled_more s s' k) }

-- a touched page that wasn't filled is
pub one_filled : (x : Touched) (s s' : Shadowed) (page : ℕ) (seen : Lookup) → IsTouched page x → is_filled s page ≡ false → own_number s page < length s.reads → Fills seen (own_number s page) s s' → to_miss s' x + 1 ≤ to_miss s x
one_filled x s s' page seen touched empty inside f =
    let n = own_number s page in
    let kept : KeepsFilled s s' = fills_keep seen n s s' f in
    let set : is_some (slice_index_or (slice_set s.reads n (Some f.source)) n None) ≡ true = set_there s.reads n f.source inside in
    let now : is_filled s' page ≡ true = ap (λ slot. is_some (read_at s' (entry_number slot page))) kept.slot ∙ ap (λ xs. is_some (slice_index_or xs n None)) f.reads ∙ set in
    one_fewer (pages_of x) page (is_filled s) (is_filled s') (filled_more s s' kept) (in_pages page x touched) empty now

pub filled_counted : FilledPagesAreCounted
filled_counted opened m s g va pa write seen s' k e place f =
    let there : IsCovered (page_of va) = place_covered opened m.memory s g k.keeps k.serves (current_of g.psl.0) (intent_of write) va pa place in
    let inside : own_number s (page_of va) < all_entries = number_is_small opened m.memory s g k.keeps k.serves va there in
    one_filled (touches_now (guest_of m.memory g)) s s' (page_of va) seen (misses_touched opened m s g va write k e).touched (missed_unfilled opened m s g va write k e) (omega (arith, inside, k.keeps.remembers.whole)) f

pub found_have : FoundPagesHaveEntries
found_have opened memory s g k v filled page h = found_entries opened memory s g k v filled page h

pub steps_keep : StepsKeepPresent
steps_keep memory s g x t s' k v each m all =
    let u : Touching = after_touches x.touched t in
    let found : HasPresent s (found_all x.touched.found t).present = all_found memory s x.touched.found t k.fits each all in
    let touched : HasPresent s u.present = subst (HasPresent s) (sym (lacked_leaves x.touched.lacking (found_all x.touched.found t))) found in
    moved memory s g x.guest x.written s' u.present k v m touched

pub writes_keep : WritesKeepPresent
writes_keep memory s g frames p s' k v m all = moved memory s g (guest_of memory g) frames s' p k v m all

pub resets_keep : ResetsKeepPresent
resets_keep s h frames p s' m all = reset s h frames s' p m all

pub writes_moves : WritesAreMoves
writes_moves frames memory s s' g f v d = moves_alone frames memory s s' (tables_of g) f v.told d
