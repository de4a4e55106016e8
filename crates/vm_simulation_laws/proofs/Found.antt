-- The pages that gave bytes have real entries, once they are filled.
use Rattle.std.proofs.Common.{◌≡◌, ℕ, ◌+◌, ◌*◌, ◌^◌, ◌<◌, inl, inr, Bool, true, false, cond, List, [], ◌∷◌, length, map, Option, is_some, Result, Ok, Err, refl, ap, ◌∙◌, sym, subst, arith}
use Rattle.std.proofs.lemmas.Bool.{eqb-true}
use Rattle.vax_arch.specs.Walk.{page_of, region_of}
use Rattle.vax_table.specs.Interaction.{AsFar, At, Interaction, IsIn, Space, Test, Trouble, outcome}
use Rattle.vax_table.specs.Whole.{Meant}
use Rattle.vax_table.proofs.Scripts.{outcome_far}
use Rattle.vm_simulation_laws.specs.Present.{HasEntry, HasPresent, HaveEntries, HaveSlots, is_filled}
use Rattle.vm_simulation_laws.proofs.Adding.{ArePresent, held_in}
use Rattle.vm_shadow.specs.Layout.{IsCovered, entry_number}
use Rattle.vm_shadow.specs.Shadowed.{CanBeShadowed, Fits, IsFirst, Keeps, Shadowed, read_at}
use Rattle.vm_shadow.specs.StandsFor.{Serves}
use Rattle.vm_shadow.proofs.Covering.{covered, own_is, own_length}
use Rattle.vm_shadow.proofs.Places.{number_system}
use Rattle.vm_shadow.proofs.Present.{walk_present}
use Rattle.vm_slots.specs.Held.{Held}
use Rattle.vm_slots.specs.declared.context.Context.{Context}
use Rattle.vm_state.specs.Partition.{guest_of}
use Rattle.vm_state.specs.State.{Guest, context_of, mode_of_state, tables_of}
use Rattle.vm_state.specs.Step.{instruction_of}
use Rattle.vm_state.specs.Touches.{Present, Process, Touching, found_all, found_one, front_pages, has_page, is_present, is_system, with_front, with_present_page}
use Rattle.vm_state.specs.Translation.{space_of, walk_of, walked_byte}
use Rattle.vm_state.specs.declared.guest_state.GuestState.{GuestState}
use Rattle.vm_state.specs.declared.walk.Walk.{Walk}
use Rattle.vm_state.specs.declared.walk.Walk.TheVariants as walks
use Rattle.vm_simulation_laws.proofs.Touching.{each_page}
use Rattle.vm_simulation_laws.specs.Touched.{AreFilled, touches_now}
use Rattle.vm_simulation_laws.proofs.Given.{HasByte, StopsToo, given, given_has, touched_is}

-- what has no trouble of its own stops where the space has none
stops_self : {A : Type 0} (s : Space) (r q : Result A Trouble) → AsFar s s r q → StopsToo s r
stops_self s (Ok x) q far = tt
stops_self s (Err (Test k)) q far = tt
stops_self s (Err (At c i a)) q far = (c, far.0)

record IsFrame (w : Walk) : Type 0 where
  pa : ℕ
  at : Option ℕ
  above : Option ℕ
  is : w ≡ walks.Frame pa at above

has_frame : (memory : List ℕ) (w : Walk) (b : ℕ) → walked_byte memory w ≡ Ok b → IsFrame w
has_frame memory (walks.Frame pa at above) b e = record { pa = pa; at = at; above = above; is = refl }
has_frame memory (walks.Fault f) b e = cc
has_frame memory walks.Beyond b e = cc

module _ (opened memory : List ℕ) (s : Shadowed) (g : GuestState) (k : Keeps [] opened memory s) (v : Serves g s) where
  abbrev whole : Guest
  whole = guest_of memory g

  abbrev script : Interaction Meant
  script = instruction_of whole.state

  size_is : length whole.memory ≡ 512 * s.pages
  size_is = ap length (sym (own_is memory s g v)) ∙ own_length memory s k.fits

  byte_covered : (va : ℕ) → HasByte (space_of whole) va → IsCovered (page_of va)
  byte_covered va h =
      let mode = mode_of_state whole.state in
      let frame : IsFrame (walk_of whole va mode h.intent) = has_frame whole.memory (walk_of whole va mode h.intent) h.byte h.is in
      let present = walk_present whole va mode h.intent frame.pa frame.at frame.above (omega (arith, size_is, k.fits.small)) frame.is in
      covered (length whole.memory) whole.memory (tables_of g) (page_of va) present.entry (subst CanBeShadowed v.told k.fits.told) (omega (arith, size_is, k.fits.small)) present.has

  small_page : (va : ℕ) → va < 2 ^ 32 → page_of va < 2 ^ 23
  small_page va h = omega arith

  given_byte : (va : ℕ) → IsIn va (given (space_of whole) script) → HasByte (space_of whole) va
  given_byte va j = given_has (space_of whole) (space_of whole) (λ i a b e. e) script (stops_self (space_of whole) (outcome (space_of whole) script) (outcome (space_of whole) script) (outcome_far (space_of whole) (space_of whole) (λ i a b e. e) script)) va j

  found_are : (touches_now whole).found ≡ map page_of (given (space_of whole) script)
  found_are = ap (λ t. t.found) (touched_is (space_of whole) script)

  abbrev IsPlaced : ℕ → Type 0
  IsPlaced page = (page < 2 ^ 23) × IsCovered page

  found_placed : (page : ℕ) → IsIn page (touches_now whole).found → IsPlaced page
  found_placed page h = each_page IsPlaced (given (space_of whole) script) (λ va j. let b = given_byte va j in (small_page va b.small, byte_covered va b)) page (subst (IsIn page) found_are h)

  pub found_entries : AreFilled s (touches_now whole).found → (page : ℕ) → IsIn page (touches_now whole).found → HasEntry s s.slot page
  found_entries filled page h = let at = found_placed page h in record { small = at.0; covered = at.1; filled = filled page h }

-- a system page has one entry in every slot
system_number : (a b page : ℕ) → is_system page ≡ true → entry_number a page ≡ entry_number b page
system_number a b page e = let r : region_of page ≡ 2 = eqb-true (region_of page) 2 e in number_system a page r ∙ sym (number_system b page r)

system_entry : (s : Shadowed) (a b page : ℕ) → is_system page ≡ true → HasEntry s a page → HasEntry s b page
system_entry s a b page e h = record { small = h.small; covered = h.covered; filled = ap (λ n. is_some (read_at s n)) (sym (system_number a b page e)) ∙ h.filled }

-- What is present is filled.
front_entries : (s : Shadowed) (c : Context) (held : Held) (ps : List Process) (page : ℕ) → IsFirst c s.slot held → HaveSlots s held ps → IsIn page (front_pages ps) → HasEntry s s.slot page
front_entries s c [] ps page first k j = absurd first
front_entries s c (h ∷ hs) [] page first k j = absurd k
front_entries s c (h ∷ hs) (p ∷ ps) page first k j = subst (λ n. HasEntry s n page) first.1 (k.1 page j).1

filled_by : (s : Shadowed) (p : Present) (page : ℕ) (b : Bool) → is_system page ≡ b → IsFirst (context_of s.told) s.slot s.held → HasPresent s p → cond b (has_page page p.system) (has_page page (front_pages p.processes)) ≡ true → is_filled s page ≡ true
filled_by s p page true e first all h = (system_entry s 0 s.slot page e (all.system page (held_in page p.system h)).1).filled
filled_by s p page false e first all h = (front_entries s (context_of s.told) s.held p.processes page first all.processes (held_in page (front_pages p.processes) h)).filled

pub present_filled : (memory : List ℕ) (s : Shadowed) (p : Present) → Fits memory s → HasPresent s p → ArePresent p (is_filled s)
present_filled memory s p f all page h = filled_by s p page (is_system page) refl f.first all h

-- Pages that have entries are added.
add_entry : (s : Shadowed) (system : Bool) (slot page : ℕ) (pages : List ℕ) → is_system page ≡ system → HasEntry s slot page → HaveEntries s system slot pages → HaveEntries s system slot (page ∷ pages)
add_entry s system slot page pages e h all x (inl same) = subst (λ y. (is_system y ≡ system) × HasEntry s slot y) (sym same) (e, h)
add_entry s system slot page pages e h all x (inr more) = all x more

add_front : (s : Shadowed) (c : Context) (held : Held) (ps : List Process) (page : ℕ) → IsFirst c s.slot held → is_system page ≡ false → HasEntry s s.slot page → HaveSlots s held ps → HaveSlots s held (with_front page ps)
add_front s c [] ps page first e h k = absurd first
add_front s c (x ∷ hs) [] page first e h k = k
add_front s c (x ∷ hs) (p ∷ ps) page first e h k = (k.0, add_entry s false x.1 page p.pages e (subst (λ n. HasEntry s n page) (sym first.1) h) k.1, k.2)

add_by : (s : Shadowed) (p : Present) (page : ℕ) (b : Bool) → is_system page ≡ b → IsFirst (context_of s.told) s.slot s.held → HasEntry s s.slot page → HasPresent s p → HasPresent s (cond b (record p { system = page ∷ p.system }) (record p { processes = with_front page p.processes }))
add_by s p page true e first h all = record { system = add_entry s true 0 page p.system e (system_entry s s.slot 0 page e h) all.system; processes = all.processes }
add_by s p page false e first h all = record { system = all.system; processes = add_front s (context_of s.told) s.held p.processes page first e h all.processes }

one_by : (s : Shadowed) (t : Touching) (page : ℕ) (b : Bool) → HasPresent s t.present → HasPresent s (with_present_page page t.present) → HasPresent s (cond b t (record { present = with_present_page page t.present; count = t.count + 1 })).present
one_by s t page true all more = all
one_by s t page false all more = more

pub all_found : (memory : List ℕ) (s : Shadowed) (xs : List ℕ) (t : Touching) → Fits memory s → ((page : ℕ) → IsIn page xs → HasEntry s s.slot page) → HasPresent s t.present → HasPresent s (found_all xs t).present
all_found memory s [] t f each all = all
all_found memory s (x ∷ xs) t f each all =
    all_found memory s xs (found_one t x) f (λ page j. each page (inr j)) (one_by s t x (is_present x t.present) all (add_by s t.present x (is_system x) refl f.first (each x (inl refl)) all))
