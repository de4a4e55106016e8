-- Real entries of present pages, when frames are written of which none holds an entry by which a present page was found.
use Rattle.std.proofs.Common.{◌≡◌, ℕ, ◌*◌, ◌^◌, ◌<◌, ◌⊎◌, inl, inr, Bool, true, false, ◌||◌, ◌==◌, List, [], ◌∷◌, length, get_or, All, Option, Some, None, is_some, option_map, refl, ap, ◌∙◌, sym, subst, arith}
use Rattle.std.specs.List.{list_any}
use Rattle.std.proofs.lemmas.Bool.{eq-eqb, eqb-true, false≢true, ne_eqb, or_from, or_parts, true≢false}
use Rattle.std.proofs.lemmas.List.{get_or_default}
use Rattle.std.proofs.lemmas.List.Elements.{All-head, All-tail}
use Rattle.vax_arch.specs.Walk.{Tables, in_region, lookup, region_of}
use Rattle.vax_arch.specs.declared.walk.Lookup.{Lookup}
use Rattle.vax_arch.specs.declared.walk.Lookup.TheVariants.{Beyond, Direct, Fails, Found}
use Rattle.vax_table.specs.Interaction.{IsIn}
use Rattle.vm_simulation_laws.specs.Moves.{Drops}
use Rattle.vm_simulation_laws.specs.Present.{HasEntry, HasPresent, HaveEntries, HaveSlots}
use Rattle.vm_shadow.specs.Layout.{IsCovered, entry_number, entry_page}
use Rattle.vm_shadow.specs.Shadowed.{IsKept, IsSource, Keeps, Shadowed, context_in, in_context, is_pending, look_under, own, read_at, seen_at, tables_for}
use Rattle.vm_shadow.specs.StandsFor.{Serves}
use Rattle.vm_shadow.specs.declared.source.Source.{Source}
use Rattle.vm_shadow.specs.declared.source.Source.TheVariants as sources
use Rattle.vm_shadow.proofs.Contexts.{tables_high, tables_low}
use Rattle.vm_shadow.proofs.Covering.{own_is, own_length}
use Rattle.vm_shadow.proofs.Holding.{its_context}
use Rattle.vm_shadow.proofs.Places.{number_small, number_system, page_again, slot_again}
use Rattle.vm_slots.specs.Held.{AreSlots, Held}
use Rattle.vm_slots.specs.declared.context.Context.{Context}
use Rattle.vm_state.specs.Partition.{guest_of}
use Rattle.vm_state.specs.State.{Guest, tables_of}
use Rattle.vm_state.specs.Touches.{Present, Process, frames_read, has_page, have_common, is_overwritten, under, was_read}
use Rattle.vm_state.specs.Translation.{frame_at}
use Rattle.vm_state.specs.declared.guest_state.GuestState.{GuestState}

-- none of a list passes a test
any_parts : {A : Type 0} (f : A → Bool) (x : A) (xs : List A) → list_any f (x ∷ xs) ≡ false → (f x ≡ false) × (list_any f xs ≡ false)
any_parts f x xs h = one (f x) refl h
  where
    one : (b : Bool) → f x ≡ b → (b || list_any f xs) ≡ false → (f x ≡ false) × (list_any f xs ≡ false)
    one true e k = absurd (true≢false k)
    one false e k = (e, k)

none_passes : (f : ℕ → Bool) (xs : List ℕ) (x : ℕ) → list_any f xs ≡ false → IsIn x xs → f x ≡ false
none_passes f [] x h j = absurd j
none_passes f (y ∷ ys) x h (inl e) = ap f e ∙ (any_parts f y ys h).0
none_passes f (y ∷ ys) x h (inr j) = none_passes f ys x (any_parts f y ys h).1 j

-- a source that has none of the written frames isn't among what they drop
unheld : (frame : ℕ) (frames : List ℕ) (x : ℕ) → has_page x (frame ∷ frames) ≡ false → ((x == frame) ≡ false) × (has_page x frames ≡ false)
unheld frame frames x h =
    let parts = any_parts (λ p. p == x) frame frames h in
    (ne_eqb x frame (λ same. false≢true (sym parts.0 ∙ eq-eqb frame x (sym same))), parts.1)

apart_one : (frames : List ℕ) (entry : ℕ) → has_page entry frames ≡ false → is_pending frames (Some (sources.System entry)) ≡ false
apart_one [] entry h = refl
apart_one (frame ∷ frames) entry h = let parts = unheld frame frames entry h in or_from (entry == frame) (is_pending frames (Some (sources.System entry))) parts.0 (apart_one frames entry parts.1)

apart_two : (frames : List ℕ) (entry table : ℕ) → has_page entry frames ≡ false → has_page table frames ≡ false → is_pending frames (Some (sources.Process entry table)) ≡ false
apart_two [] entry table h k = refl
apart_two (frame ∷ frames) entry table h k =
    let first = unheld frame frames entry h in
    let second = unheld frame frames table k in
    or_from (entry == frame || table == frame) (is_pending frames (Some (sources.Process entry table))) (or_from (entry == frame) (table == frame) first.0 second.0) (apart_two frames entry table first.1 second.1)

apart_none : (frames : List ℕ) → is_pending frames (Some sources.Direct) ≡ false
apart_none [] = refl
apart_none (frame ∷ frames) = apart_none frames

pub unread : (seen : Lookup) (source : Source) (frames : List ℕ) → IsSource seen source → have_common (frames_read seen) frames ≡ false → is_pending frames (Some source) ≡ false
unread (Found place None) (sources.System entry) frames is none =
    apart_one frames entry (ap (λ x. has_page x frames) is ∙ (any_parts (λ x. has_page x frames) (frame_at place) [] none).0)
unread (Found place None) (sources.Process entry table) frames is none = absurd is
unread (Found place None) sources.Direct frames is none = absurd is
unread (Found place (Some above)) (sources.System entry) frames is none = absurd is
unread (Found place (Some above)) sources.Direct frames is none = absurd is
unread (Found place (Some above)) (sources.Process entry table) frames is none =
    let first = any_parts (λ x. has_page x frames) (frame_at place) (frame_at above ∷ []) none in
    let second = any_parts (λ x. has_page x frames) (frame_at above) [] first.1 in
    apart_two frames entry table (ap (λ x. has_page x frames) is.0 ∙ first.0) (ap (λ x. has_page x frames) is.1 ∙ second.0)
unread (Direct frame) sources.Direct frames is none = apart_none frames
unread (Direct frame) (sources.System entry) frames is none = absurd is
unread (Direct frame) (sources.Process entry table) frames is none = absurd is
unread (Fails not_valid parameter) source frames is none = absurd is
unread Beyond source frames is none = absurd is

-- what is dropped, of an entry that stays
stays_filled : (before after : Option Source) (frames : List ℕ) → (after ≡ before) ⊎ ((after ≡ None) × (is_pending frames before ≡ true)) → is_pending frames before ≡ false → is_some before ≡ true → is_some after ≡ true
stays_filled before after frames (inl same) free h = ap is_some same ∙ h
stays_filled before after frames (inr gone) free h = absurd (false≢true (sym free ∙ gone.1))

from_source : (size base : ℕ) (memory : List ℕ) (seen : Lookup) (real : ℕ) (x : Option Source) (frames : List ℕ) → IsKept size base memory [] seen real x → is_some x ≡ true → have_common (frames_read seen) frames ≡ false → is_pending frames x ≡ false
from_source size base memory seen real None frames k h none = absurd (false≢true h)
from_source size base memory seen real (Some source) frames k h none = unread seen source frames (k.1 refl).1 none

module _ (memory : List ℕ) (s : Shadowed) (g : GuestState) (k : Keeps [] [] memory s) (v : Serves g s) (frames : List ℕ) (s' : Shadowed) (d : Drops frames s s') where
  abbrev whole : Guest
  whole = guest_of memory g

  -- what an entry's look-up is
  seen_is : (slot page : ℕ) (t : Tables) → slot < 4 → page < 2 ^ 23 → IsCovered page → tables_for s (entry_number slot page) ≡ Some t → seen_at memory s (entry_number slot page) ≡ lookup (length whole.memory) whole.memory t page
  unfolding seen_at
  seen_is slot page t low small c is =
      let size : 512 * s.pages ≡ length whole.memory = sym (own_length memory s k.fits) ∙ ap length (own_is memory s g v) in
      let mem : own memory s ≡ whole.memory = own_is memory s g v in
      let at : entry_page (entry_number slot page) ≡ page = page_again slot page low small c in
      λ j. look_under (size j) (mem j) (at j) (is j)

  survives : (slot page : ℕ) (t : Tables) → slot < 4 → tables_for s (entry_number slot page) ≡ Some t → was_read whole t frames page ≡ false → HasEntry s slot page → HasEntry s' slot page
  survives slot page t low is none h =
      let n = entry_number slot page in
      let seen : seen_at memory s n ≡ lookup (length whole.memory) whole.memory t page = seen_is slot page t low h.small h.covered is in
      let apart : have_common (frames_read (seen_at memory s n)) frames ≡ false = ap (λ x. have_common (frames_read x) frames) seen ∙ none in
      let free : is_pending frames (read_at s n) ≡ false = from_source _ _ _ _ _ (read_at s n) frames (k.entries n (number_small slot page low h.covered)) h.filled apart in
      record { small = h.small; covered = h.covered; filled = stays_filled (read_at s n) (read_at s' n) frames (d.each n) free h.filled }

  system_survives : (pages : List ℕ) → list_any (was_read whole whole.state.tables frames) pages ≡ false → HaveEntries s true 0 pages → HaveEntries s' true 0 pages
  system_survives pages none all page h =
      let one = all page h in
      let region : region_of page ≡ 2 = eqb-true (region_of page) 2 one.0 in
      let low : in_region page < 8192 = system_low page region one.1.covered in
      let number : entry_number 0 page ≡ in_region page = number_system 0 page region in
      let tables : tables_for s (entry_number 0 page) ≡ Some (tables_of g) = ap (tables_for s) number ∙ tables_low s (in_region page) low ∙ ap (λ (t : Tables). Some t) v.told in
      (one.0, survives 0 page (tables_of g) (omega arith) tables (none_passes (was_read whole whole.state.tables frames) pages page none h) one.1)
    where
      system_low : (page : ℕ) → region_of page ≡ 2 → IsCovered page → in_region page < 8192
      system_low page r (inl c) = c.1
      system_low page r (inr (inl c)) = absurd (omega (arith, r, c.0))
      system_low page r (inr (inr c)) = absurd (omega (arith, r, c.0))

  process_survives : (h : Held) (slot : ℕ) (q : Process) → slot < 4 → context_in slot s.held ≡ Some q.context → list_any (was_read whole (under whole q.context) frames) q.pages ≡ false → HaveEntries s false slot q.pages → HaveEntries s' false slot q.pages
  process_survives held slot q low is none all page h =
      let one = all page h in
      let other : region_of page ≡ 2 → ⊥ = λ e. false≢true (sym one.0 ∙ eq-eqb (region_of page) 2 e) in
      let again = slot_again slot page low one.1.covered other in
      let n = entry_number slot page in
      let tables : tables_for s n ≡ Some (under whole q.context) =
      tables_high s n again.0 ∙ ap (λ x. option_map (in_context s.told) (context_in x s.held)) again.1 ∙ ap (option_map (in_context s.told)) is ∙ ap (λ (t : Tables). Some (in_context t q.context)) v.told in
      (one.0, survives slot page (under whole q.context) low tables (none_passes (was_read whole (under whole q.context) frames) q.pages page none h) one.1)

  abbrev IsHere : Held → Type 0
  IsHere held = All (λ h. (h.1 < 4) × (context_in h.1 s.held ≡ Some h.0)) held

  slots_survive : (held : Held) (ps : List Process) → IsHere held → list_any (λ q. list_any (was_read whole (under whole q.context) frames) q.pages) ps ≡ false → HaveSlots s held ps → HaveSlots s' held ps
  slots_survive [] ps here none all = all
  slots_survive (h ∷ hs) [] here none all = all
  slots_survive (h ∷ hs) (q ∷ qs) here none all =
      let parts = any_parts (λ q. list_any (was_read whole (under whole q.context) frames) q.pages) q qs none in
      let at = All-head (λ x. (x.1 < 4) × (context_in x.1 s.held ≡ Some x.0)) h hs here in
      let context : context_in h.1 s.held ≡ Some q.context = at.1 ∙ ap (λ c. Some c) (sym all.0) in
      (all.0, process_survives hs h.1 q at.0 context parts.0 all.1, slots_survive hs qs (All-tail (λ x. (x.1 < 4) × (context_in x.1 s.held ≡ Some x.0)) h hs here) parts.1 all.2)

  all_here : IsHere s.held
  all_here i e within =
      let h : Context × ℕ = get_or s.held i e in
      let slots : AreSlots s.held = k.fits.slots in
      (slots.small i e within, its_context h.0 h.1 s.held slots.slots (i, within, get_or_default s.held i h e within))

  -- none of the present pages is dropped
  pub all_survive : (p : Present) → is_overwritten whole frames p ≡ false → HasPresent s p → HasPresent s' p
  all_survive p none all =
      let parts = or_parts _ _ none in
      record {
        system = system_survives p.system parts.0 all.system;
        processes = subst (λ held. HaveSlots s' held p.processes) (sym d.held) (slots_survive s.held p.processes all_here parts.1 all.processes);
      }
