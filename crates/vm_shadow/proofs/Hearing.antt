-- The machine's walk against the guest's.
use Rattle.std.proofs.Common.{◌≡◌, ℕ, ◌+◌, ◌*◌, ◌%◌, ◌^◌, ◌<◌, ◌≤◌, ◌⊎◌, inl, inr, Bool, true, false, not, cond, List, [], length, Option, Some, None, Result, Ok, Err, is_some, refl, ap, ◌∙◌, sym, subst, arith}
use Rattle.std.proofs.lemmas.Bool.{false≢true, le-ltb, not-false}
use Rattle.std.proofs.lemmas.Option.{none-some, same_Some}
use Rattle.vv_base.specs.Bytes.{long_at}
use Rattle.vax_arch.specs.Fields.{frame_of, is_modified, is_valid, protection_of}
use Rattle.vax_arch.specs.Protection.{may_of}
use Rattle.vax_arch.specs.Ring.{compressed_of, open_of, ring_of}
use Rattle.vax_arch.specs.Walk.{entry_at, granted, is_clear_at, page_of}
use Rattle.vax_arch.specs.declared.mode.Intent.{Intent}
use Rattle.vax_arch.specs.declared.mode.Intent.TheVariants.{Read, Write}
use Rattle.vax_arch.specs.declared.mode.Mode.{Mode}
use Rattle.vax_arch.specs.declared.mode.Mode.TheVariants.{Executive, Kernel, Supervisor, User}
use Rattle.vax_arch.specs.WalkLaws.{IsInside}
use Rattle.vax_arch.specs.declared.walk.Grant.{Grant}
use Rattle.vax_arch.specs.declared.walk.Grant.TheVariants as grants
use Rattle.vax_arch.specs.declared.walk.Lookup.{Lookup}
use Rattle.vax_arch.specs.declared.walk.Lookup.TheVariants.{Beyond, Direct, Fails, Found}
use Rattle.vax_arch.proofs.Compression.{by_table, compresses}
use Rattle.vax_arch.proofs.Walks.{looks_inside}
use Rattle.vax_hw.specs.RealTables.{access_judged, access_judged_at, everywhere, is_clear_in, is_kernels_alone, judged_by, place_by, place_in, placed_by}
use Rattle.vax_table.specs.Interaction.{Absent, Cause, Refusing}
use Rattle.vm_shadow.specs.Laws.{FindsFilledEntries, HasNone, HearsTheGuest, IsHeard, MarksTheGuest, MirrorsTheGuest, MissesEmptyEntries, ProbesFilledEntries, ProbesTheGuest, guest_place, own_place, real_place, relocated}
use Rattle.vm_shadow.specs.Layout.{IsCovered, all_entries, empty_entry, real_entry, real_tables}
use Rattle.vm_shadow.specs.Shadowed.{CanBeShadowed, IsKept, IsRight, Keeps, Shadowed, own, read_at, real_at, seen_at}
use Rattle.vm_shadow.specs.StandsFor.{Serves, own_number}
use Rattle.vm_shadow.specs.declared.source.Source.{Source}
use Rattle.vm_shadow.proofs.Changes.{IsFilled, filled_of, kept_valid}
use Rattle.vm_shadow.proofs.Covering.{covered, own_is, own_length, present_covered, seen_own, slot_small}
use Rattle.vm_shadow.proofs.Lookups.{IsBy, looks_by}
use Rattle.vm_shadow.proofs.Places.{number_small, split}
use Rattle.vm_shadow.proofs.RealWalks.{IsElsewhere, elsewhere, entry_found}
use Rattle.vm_shadow.proofs.Rights.{code_of, frame_fits, frame_is, right_modify, valid_of}
use Rattle.vm_state.specs.Partition.{guest_of, partition_of}
use Rattle.vm_state.specs.Probe.{Answers, by_entry, probed_by, probed_byte}
use Rattle.vm_state.specs.State.{Guest, tables_of}
use Rattle.vm_state.specs.Translation.{at_entry, is_clear, look, walk_by, walk_of}
use Rattle.vm_state.specs.declared.guest_state.GuestState.{GuestState}

-- what an entry that isn't filled gives
empty_gives : (m : Mode) (i : Intent) → granted may_of everywhere empty_entry (ring_of m) i ≡ grants.Absent
unfolding granted
empty_gives Kernel Read = refl
empty_gives Kernel Write = refl
empty_gives Executive Read = refl
empty_gives Executive Write = refl
empty_gives Supervisor Read = refl
empty_gives Supervisor Write = refl
empty_gives User Read = refl
empty_gives User Write = refl

-- What an entry gives the guest, and what the real entry for it gives the machine.
given : (lets : Bool) (frame : ℕ) → Grant
given true frame = grants.Granted frame
given false frame = grants.Refused

own_gives : (size entry : ℕ) (m : Mode) (i : Intent) → is_valid entry ≡ true → 512 * frame_of entry + 512 ≤ size → granted open_of size entry m i ≡ given (open_of (protection_of entry) m i) (frame_of entry)
unfolding granted given
own_gives size entry m i v inside = rw (v, le-ltb size (512 * frame_of entry + 512) inside) (by (open_of (protection_of entry) m i))
  where
    by : (b : Bool) → cond (not b) grants.Refused (grants.Granted (frame_of entry)) ≡ given b (frame_of entry)
    by true = refl
    by false = refl

code_small : (entry : ℕ) → protection_of entry < 16
code_small entry = omega arith

real_gives : (base : ℕ) (b : Bool) (entry : ℕ) (m : Mode) (i : Intent) → base + frame_of entry < 2 ^ 21 → granted may_of everywhere (real_entry base b entry) (ring_of m) i ≡ given (open_of (protection_of entry) m i) (base + frame_of entry)
unfolding granted given
real_gives base b entry m i small =
    let code : may_of (protection_of (real_entry base b entry)) (ring_of m) i ≡ open_of (protection_of entry) m i = ap (λ c. may_of c (ring_of m) i) (code_of base b entry small) ∙ compresses (protection_of entry) (code_small entry) m i in
    rw (code, valid_of base b entry small, frame_is base b entry small, le-ltb everywhere (512 * (base + frame_of entry) + 512) (omega arith)) (by (open_of (protection_of entry) m i))
  where
    by : (c : Bool) → cond (not c) grants.Refused (grants.Granted (base + frame_of entry)) ≡ given c (base + frame_of entry)
    by true = refl
    by false = refl

-- by an open code
answer : (lets : Bool) → (frame va : ℕ) → Result ℕ Cause
answer true frame va = Ok (512 * frame + va % 512)
answer false frame va = Err Refusing

given_real : (b : Bool) (frame va : ℕ) → place_by va (given b frame) ≡ answer b frame va
unfolding given answer
given_real true frame va = refl
given_real false frame va = refl

given_own : (b : Bool) (frame va place : ℕ) (table : Option ℕ) (i : Intent) → guest_place (at_entry va i place table (given b frame)) ≡ answer b frame va
unfolding given answer
given_own true frame va place table i = refl
given_own false frame va place table i = refl

answer_moved : (base : ℕ) (b : Bool) (frame va : ℕ) → answer b (base + frame) va ≡ relocated (512 * base) (answer b frame va)
unfolding answer
answer_moved base true frame va = ap Ok (omega arith)
answer_moved base false frame va = refl

-- with mapping off, a page is open to all
open_to_all : (m : Mode) (i : Intent) → open_of 4 m i ≡ true
open_to_all Kernel Read = refl
open_to_all Kernel Write = refl
open_to_all Executive Read = refl
open_to_all Executive Write = refl
open_to_all Supervisor Read = refl
open_to_all Supervisor Write = refl
open_to_all User Read = refl
open_to_all User Write = refl

direct_gives : (va frame entry : ℕ) (m : Mode) (i : Intent) → frame ≡ page_of va → frame < 2 ^ 21 → entry ≡ 2 ^ 31 + 4 * 2 ^ 27 + 2 ^ 26 + frame → Ok va ≡ answer (open_of (protection_of entry) m i) (frame_of entry) va
unfolding answer
direct_gives va frame entry m i is small e =
    let code : protection_of entry ≡ 4 = omega arith in
    let same : frame_of entry ≡ frame = omega arith in
    rw (code, open_to_all m i, same) (ap Ok (omega arith))

-- The guest's place, by the entry that it finds.
own_by : (g : Guest) (va entry : ℕ) (m : Mode) (i : Intent) (x : Lookup) → entry_at g.memory x ≡ Some entry → is_valid entry ≡ true → 512 * frame_of entry + 512 ≤ length g.memory → length g.memory ≤ 2 ^ 20 → IsInside (length g.memory) x → IsBy (length g.memory) g.state.tables (page_of va) x → guest_place (walk_by g va m i x) ≡ answer (open_of (protection_of entry) m i) (frame_of entry) va
own_by g va entry m i (Found place table) has v inside small within by =
    let same : long_at g.memory place ≡ entry = same_Some (long_at g.memory place) entry has in
    ap (λ e. guest_place (at_entry va i place table (granted open_of (length g.memory) e m i))) same ∙ ap (λ x. guest_place (at_entry va i place table x)) (own_gives (length g.memory) entry m i v inside) ∙ given_own (open_of (protection_of entry) m i) (frame_of entry) va place table i
own_by g va entry m i (Direct frame) has v inside small within by = direct_gives va frame entry m i by.0 (omega arith) (sym (same_Some _ entry has))
own_by g va entry m i (Fails n p) has v inside small within by = absurd (none-some entry has)
own_by g va entry m i Beyond has v inside small within by = absurd (none-some entry has)

-- where the guest has a place, it has an entry
has_by : (g : Guest) (va pa : ℕ) (m : Mode) (i : Intent) (x : Lookup) → guest_place (walk_by g va m i x) ≡ Ok pa → (entry : ℕ) × (entry_at g.memory x ≡ Some entry)
has_by g va pa m i (Found place table) e = (long_at g.memory place, refl)
has_by g va pa m i (Direct frame) e = (2 ^ 31 + 4 * 2 ^ 27 + 2 ^ 26 + frame, refl)
has_by g va pa m i (Fails true p) e = cc
has_by g va pa m i (Fails false p) e = cc
has_by g va pa m i Beyond e = cc

-- PROBE, by an entry
not_kernels : (code : ℕ) → code < 16 → is_kernels_alone (compressed_of code) ≡ false
not_kernels code h = by_table (λ n. is_kernels_alone (compressed_of n)) (λ n. false) 16 refl code h

judged_real : (base : ℕ) (b : Bool) (entry : ℕ) (m : Mode) (i : Intent) → base + frame_of entry < 2 ^ 21 → judged_by (real_entry base b entry) (ring_of m) i ≡ Some (open_of (protection_of entry) m i)
judged_real base b entry m i small =
    let code : protection_of (real_entry base b entry) ≡ compressed_of (protection_of entry) = code_of base b entry small in
    rw (valid_of base b entry small, code, not_kernels (protection_of entry) (code_small entry)) (ap Some (compresses (protection_of entry) (code_small entry) m i))

empty_unjudged : (m : Mode) (i : Intent) → judged_by empty_entry (ring_of m) i ≡ None
empty_unjudged m i = refl

probed_entry : (g : Guest) (va entry : ℕ) (m : Mode) (i : Intent) (x : Lookup) → entry_at g.memory x ≡ Some entry → is_valid entry ≡ true → 512 * frame_of entry + 512 ≤ length g.memory → length g.memory ≤ 2 ^ 20 → IsInside (length g.memory) x → probed_by g va m i x ≡ Answers (open_of (protection_of entry) m i) true
probed_entry g va entry m i (Found place table) has v inside small within =
    let same : long_at g.memory place ≡ entry = same_Some (long_at g.memory place) entry has in
    ap (λ e. by_entry (length g.memory) e m i) same ∙ rw (v, le-ltb (length g.memory) (512 * frame_of entry + 512) inside) refl
probed_entry g va entry m i (Direct frame) has v inside small within =
    let e : 2 ^ 31 + 4 * 2 ^ 27 + 2 ^ 26 + frame ≡ entry = same_Some _ entry has in
    let code : protection_of entry ≡ 4 = omega arith in
    rw (code, open_to_all m i) refl
probed_entry g va entry m i (Fails n p) has v inside small within = absurd (none-some entry has)
probed_entry g va entry m i Beyond has v inside small within = absurd (none-some entry has)

page_small : (va : ℕ) → va < 2 ^ 32 → page_of va < 2 ^ 23
page_small va h = omega arith

entry_there : (a b : List ℕ) (x y : Lookup) (entry : ℕ) → a ≡ b → x ≡ y → entry_at a x ≡ Some entry → entry_at b y ≡ Some entry
entry_there a b x y entry e d h = subst (λ z. entry_at z y ≡ Some entry) e (subst (λ z. entry_at a z ≡ Some entry) d h)

module _ (opened : List ℕ) (memory : List ℕ) (s : Shadowed) (g : GuestState) (k : Keeps [] opened memory s) (v : Serves g s) where
  pub size_is : length (partition_of memory g) ≡ 512 * s.pages
  size_is = ap length (sym (own_is memory s g v)) ∙ own_length memory s k.fits

  pub can_serve : CanBeShadowed (tables_of g)
  can_serve = subst CanBeShadowed v.told k.fits.told

  -- a page at which the guest has a place is covered
  pub place_covered : (m : Mode) (i : Intent) (va pa : ℕ) → own_place memory g m i va ≡ Ok pa → IsCovered (page_of va)
  unfolding walk_of
  place_covered m i va pa e =
      let has = has_by (guest_of memory g) va pa m i (look (guest_of memory g) (page_of va)) e in
      covered (length (partition_of memory g)) (partition_of memory g) (tables_of g) (page_of va) has.0 can_serve (omega (arith, size_is, k.fits.small)) has.1

  -- the machine's answer by the entry
  pub real_by : (m : Mode) (i : Intent) (va : ℕ) → IsCovered (page_of va) → real_place memory s m i va ≡ place_by va (granted may_of everywhere (real_at memory s (own_number s (page_of va))) (ring_of m) i)
  unfolding place_in
  real_by m i va c = let e = entry_found memory s (page_of va) k.fits (slot_small memory s k.fits) c in ap (placed_by memory va (ring_of m) i) e.1

  -- a page that is filled answers as the guest's
  pub filled_answers : (m : Mode) (i : Intent) (va : ℕ) → va < 2 ^ 32 → IsCovered (page_of va) → IsFilled memory s (own_number s (page_of va)) → real_place memory s m i va ≡ relocated (512 * s.base) (own_place memory g m i va)
  unfolding walk_of
  filled_answers m i va small c r =
      let page = page_of va in
      let f = k.fits in
      let entry = r.right.entry in
      let fits = frame_fits memory s entry f r.right.inside in
      let lets = open_of (protection_of entry) m i in
      let seen = seen_own memory s g page f v (page_small va small) c in
      let has : entry_at (partition_of memory g) (look (guest_of memory g) page) ≡ Some entry = entry_there (own memory s) (partition_of memory g) (seen_at memory s (own_number s page)) (look (guest_of memory g) page) entry (own_is memory s g v) seen r.right.has in
      let real : real_place memory s m i va ≡ answer lets (s.base + frame_of entry) va = real_by m i va c ∙ ap (λ x. place_by va (granted may_of everywhere x (ring_of m) i)) r.right.is ∙ ap (place_by va) (real_gives s.base r.right.modify entry m i fits) ∙ given_real lets (s.base + frame_of entry) va in
      let mine : own_place memory g m i va ≡ answer lets (frame_of entry) va = own_by (guest_of memory g) va entry m i (look (guest_of memory g) page) has r.right.valid (omega (arith, size_is, r.right.inside)) (omega (arith, size_is, f.small)) (looks_inside (length (partition_of memory g)) (partition_of memory g) (tables_of g) page) (looks_by (length (partition_of memory g)) (partition_of memory g) (tables_of g) page) in
      real ∙ answer_moved s.base lets (frame_of entry) va ∙ ap (relocated (512 * s.base)) (sym mine)

  pub number_is_small : (va : ℕ) → IsCovered (page_of va) → own_number s (page_of va) < all_entries
  number_is_small va c = number_small s.slot (page_of va) (slot_small memory s k.fits) c

  -- an entry that isn't filled is missed
  pub empty_answers : (m : Mode) (i : Intent) (va : ℕ) → IsCovered (page_of va) → read_at s (own_number s (page_of va)) ≡ None → real_place memory s m i va ≡ Err Absent
  empty_answers m i va c e =
      let empty : real_at memory s (own_number s (page_of va)) ≡ empty_entry = subst (IsKept (512 * s.pages) s.base (own memory s) [] (seen_at memory s (own_number s (page_of va))) (real_at memory s (own_number s (page_of va)))) e (k.entries (own_number s (page_of va)) (number_is_small va c)) in
      real_by m i va c ∙ ap (λ x. place_by va (granted may_of everywhere x (ring_of m) i)) empty ∙ ap (place_by va) (empty_gives m i)

  pub filled_there : (va : ℕ) (source : Source) → IsCovered (page_of va) → read_at s (own_number s (page_of va)) ≡ Some source → IsFilled memory s (own_number s (page_of va))
  filled_there va source c e =
      let n = own_number s (page_of va) in
      filled_of opened memory s n k (number_is_small va c) (kept_valid (512 * s.pages) s.base (own memory s) [] (seen_at memory s n) (real_at memory s n) (read_at s n) (k.entries n (number_is_small va c)) (ap is_some e))

  no_place : (m : Mode) (i : Intent) (va : ℕ) → (IsCovered (page_of va) → ⊥) → HasNone (own_place memory g m i va)
  no_place m i va u = none_of (own_place memory g m i va) (λ pa e. u (place_covered m i va pa e))
    where
      none_of : (r : Result ℕ Cause) → ((pa : ℕ) → r ≡ Ok pa → ⊥) → HasNone r
      none_of (Ok pa) h = h pa refl
      none_of (Err c) h = tt

  elsewhere_refuses : (m : Mode) (i : Intent) (va : ℕ) → IsElsewhere memory s (page_of va) → real_place memory s m i va ≡ Err Refusing
  unfolding place_in
  elsewhere_refuses m i va e = e.refuses m i va

  heard_by : (m : Mode) (i : Intent) (va : ℕ) → va < 2 ^ 32 → IsCovered (page_of va) → (x : Option Source) → read_at s (own_number s (page_of va)) ≡ x → IsHeard s.base (real_place memory s m i va) (own_place memory g m i va)
  heard_by m i va small c None e = inr (inl (empty_answers m i va c e))
  heard_by m i va small c (Some source) e = inl (filled_answers m i va small c (filled_there va source c e))

  pub heard : (m : Mode) (i : Intent) (va : ℕ) → va < 2 ^ 32 → IsHeard s.base (real_place memory s m i va) (own_place memory g m i va)
  heard m i va small = split (elsewhere memory s (page_of va) k.fits)
      (λ c. heard_by m i va small c (read_at s (own_number s (page_of va))) refl)
      (λ e. inr (inr (elsewhere_refuses m i va e, no_place m i va e.uncovered)))

  empty_by : (m : Mode) (i : Intent) (va pa : ℕ) → va < 2 ^ 32 → real_place memory s m i va ≡ Err Absent → own_place memory g m i va ≡ Ok pa → (x : Option Source) → read_at s (own_number s (page_of va)) ≡ x → x ≡ None
  empty_by m i va pa small miss e None is = refl
  empty_by m i va pa small miss e (Some source) is =
      let c = place_covered m i va pa e in
      let has : real_place memory s m i va ≡ Ok (512 * s.base + pa) = filled_answers m i va small c (filled_there va source c is) ∙ ap (relocated (512 * s.base)) e in
      cc

  pub missing : (m : Mode) (i : Intent) (va pa : ℕ) → va < 2 ^ 32 → real_place memory s m i va ≡ Err Absent → own_place memory g m i va ≡ Ok pa → read_at s (own_number s (page_of va)) ≡ None
  missing m i va pa small miss e = empty_by m i va pa small miss e (read_at s (own_number s (page_of va))) refl

  found_by : (m : Mode) (i : Intent) (va pa : ℕ) → va < 2 ^ 32 → own_place memory g m i va ≡ Ok pa → (x : Option Source) → read_at s (own_number s (page_of va)) ≡ x → is_some x ≡ true → real_place memory s m i va ≡ Ok (512 * s.base + pa)
  found_by m i va pa small e None is some = absurd (false≢true some)
  found_by m i va pa small e (Some source) is some = let c = place_covered m i va pa e in filled_answers m i va small c (filled_there va source c is) ∙ ap (relocated (512 * s.base)) e

  -- modify bits
  pub clear_by : (va : ℕ) → IsCovered (page_of va) → is_clear_in memory (real_tables s.at s.slot) va ≡ not (is_modified (real_at memory s (own_number s (page_of va))))
  clear_by va c = ap (is_clear_at memory) (entry_found memory s (page_of va) k.fits (slot_small memory s k.fits) c).1

  own_clear : (x : Lookup) (entry : ℕ) → entry_at (partition_of memory g) x ≡ Some entry → is_modified entry ≡ true → is_clear_at (partition_of memory g) x ≡ false
  own_clear (Found place table) entry has on = let same : long_at (partition_of memory g) place ≡ entry = same_Some _ entry has in ap not (ap is_modified same ∙ on)
  own_clear (Direct frame) entry has on = refl
  own_clear (Fails n p) entry has on = refl
  own_clear Beyond entry has on = refl

  marked_by_source : (va : ℕ) → va < 2 ^ 32 → IsCovered (page_of va) → is_modified (real_at memory s (own_number s (page_of va))) ≡ true → (x : Option Source) → read_at s (own_number s (page_of va)) ≡ x → is_clear (guest_of memory g) va ≡ false
  marked_by_source va small c on None is =
      let n = own_number s (page_of va) in
      let empty : real_at memory s n ≡ empty_entry = subst (IsKept (512 * s.pages) s.base (own memory s) [] (seen_at memory s n) (real_at memory s n)) is (k.entries n (number_is_small va c)) in
      absurd (false≢true (ap is_modified (sym empty) ∙ on))
  marked_by_source va small c on (Some source) is =
      let r = filled_there va source c is in
      let seen = seen_own memory s g (page_of va) k.fits v (page_small va small) c in
      let has : entry_at (partition_of memory g) (look (guest_of memory g) (page_of va)) ≡ Some (r.right.entry) = entry_there (own memory s) (partition_of memory g) (seen_at memory s (own_number s (page_of va))) (look (guest_of memory g) (page_of va)) (r.right.entry) (own_is memory s g v) seen r.right.has in
      let bit : r.right.modify ≡ true = sym (right_modify memory (own memory s) s (seen_at memory s (own_number s (page_of va))) (real_at memory s (own_number s (page_of va))) k.fits r.right) ∙ on in
      own_clear (look (guest_of memory g) (page_of va)) (r.right.entry) has (r.right.marked bit)

  -- a page that has no entry has no clear modify bit
  none_clear : (va : ℕ) → (IsCovered (page_of va) → ⊥) → is_clear (guest_of memory g) va ≡ false
  none_clear va u = by (look (guest_of memory g) (page_of va)) refl
    where
      by : (x : Lookup) → look (guest_of memory g) (page_of va) ≡ x → is_clear_at (partition_of memory g) x ≡ false
      by (Found place table) e = absurd (u (covered (length (partition_of memory g)) (partition_of memory g) (tables_of g) (page_of va) (long_at (partition_of memory g) place) can_serve (omega (arith, size_is, k.fits.small)) (ap (entry_at (partition_of memory g)) e)))
      by (Direct frame) e = refl
      by (Fails n p) e = refl
      by Beyond e = refl

  pub marks : (va : ℕ) → va < 2 ^ 32 → is_clear_in memory (real_tables s.at s.slot) va ≡ false → is_clear (guest_of memory g) va ≡ false
  marks va small clear = split (elsewhere memory s (page_of va) k.fits)
      (λ c. marked_by_source va small c (not-false _ (sym (clear_by va c) ∙ clear)) (read_at s (own_number s (page_of va))) refl)
      (λ w. none_clear va w.uncovered)

  -- PROBE
  pub judged_on : (m : Mode) (i : Intent) (va : ℕ) → IsCovered (page_of va) → access_judged memory (real_tables s.at s.slot) (ring_of m) i va ≡ judged_by (real_at memory s (own_number s (page_of va))) (ring_of m) i
  unfolding access_judged
  judged_on m i va c = ap (access_judged_at memory (ring_of m) i) (entry_found memory s (page_of va) k.fits (slot_small memory s k.fits) c).1

  elsewhere_unjudged : (m : Mode) (i : Intent) (va : ℕ) → IsElsewhere memory s (page_of va) → access_judged memory (real_tables s.at s.slot) (ring_of m) i va ≡ None
  unfolding access_judged
  elsewhere_unjudged m i va e = e.unjudged m i

  -- what is filled is judged, as the guest's code allows
  filled_judged : (m : Mode) (i : Intent) (va : ℕ) → IsCovered (page_of va) → (r : IsFilled memory s (own_number s (page_of va))) → access_judged memory (real_tables s.at s.slot) (ring_of m) i va ≡ Some (open_of (protection_of (r.right.entry)) m i)
  filled_judged m i va c r = judged_on m i va c ∙ ap (λ x. judged_by x (ring_of m) i) r.right.is ∙ judged_real s.base r.right.modify (r.right.entry) m i (frame_fits memory s (r.right.entry) k.fits r.right.inside)

  probed_by_source : (m : Mode) (i : Intent) (va : ℕ) (b : Bool) → va < 2 ^ 32 → IsCovered (page_of va) → access_judged memory (real_tables s.at s.slot) (ring_of m) i va ≡ Some b → (x : Option Source) → read_at s (own_number s (page_of va)) ≡ x → probed_byte (guest_of memory g) va m i ≡ Answers b true
  unfolding probed_byte
  probed_by_source m i va b small c e None is =
      let n = own_number s (page_of va) in
      let empty : real_at memory s n ≡ empty_entry = subst (IsKept (512 * s.pages) s.base (own memory s) [] (seen_at memory s n) (real_at memory s n)) is (k.entries n (number_is_small va c)) in
      let none : access_judged memory (real_tables s.at s.slot) (ring_of m) i va ≡ None = judged_on m i va c ∙ ap (λ x. judged_by x (ring_of m) i) empty ∙ empty_unjudged m i in
      cc
  probed_by_source m i va b small c e (Some source) is =
      let r = filled_there va source c is in
      let page = page_of va in
      let seen = seen_own memory s g page k.fits v (page_small va small) c in
      let has : entry_at (partition_of memory g) (look (guest_of memory g) page) ≡ Some (r.right.entry) = entry_there (own memory s) (partition_of memory g) (seen_at memory s (own_number s page)) (look (guest_of memory g) page) (r.right.entry) (own_is memory s g v) seen r.right.has in
      let same : open_of (protection_of (r.right.entry)) m i ≡ b = same_Some _ b (sym (filled_judged m i va c r) ∙ e) in
      probed_entry (guest_of memory g) va (r.right.entry) m i (look (guest_of memory g) page) has r.right.valid (omega (arith, size_is, r.right.inside)) (omega (arith, size_is, k.fits.small)) (looks_inside (length (partition_of memory g)) (partition_of memory g) (tables_of g) page) ∙ ap (λ x. Answers x true) same

  pub probes : (m : Mode) (i : Intent) (va : ℕ) (b : Bool) → va < 2 ^ 32 → access_judged memory (real_tables s.at s.slot) (ring_of m) i va ≡ Some b → probed_byte (guest_of memory g) va m i ≡ Answers b true
  probes m i va b small e = split (elsewhere memory s (page_of va) k.fits)
      (λ c. probed_by_source m i va b small c e (read_at s (own_number s (page_of va))) refl)
      (λ w. let none : access_judged memory (real_tables s.at s.slot) (ring_of m) i va ≡ None = elsewhere_unjudged m i va w in cc)

  judged_by_source : (m : Mode) (i : Intent) (va : ℕ) → IsCovered (page_of va) → (x : Option Source) → read_at s (own_number s (page_of va)) ≡ x → is_some x ≡ true → is_some (access_judged memory (real_tables s.at s.slot) (ring_of m) i va) ≡ true
  judged_by_source m i va c None is some = absurd (false≢true some)
  judged_by_source m i va c (Some source) is some = ap is_some (filled_judged m i va c (filled_there va source c is))

is_mirrored : (size base : ℕ) (memory : List ℕ) (seen : Lookup) (real : ℕ) (x : Option Source) → IsKept size base memory [] seen real x → (real ≡ empty_entry) ⊎ IsRight size base memory seen real
is_mirrored size base memory seen real None k = inl k
is_mirrored size base memory seen real (Some source) k = inr (k.1 refl).0

pub mirrors_the_guest : MirrorsTheGuest
mirrors_the_guest opened memory s g k v = record {
  fits = k.fits;
  serves = v;
  entries = λ n h. is_mirrored (512 * s.pages) s.base (own memory s) (seen_at memory s n) (real_at memory s n) (read_at s n) (k.entries n h);
}

pub hears_the_guest : HearsTheGuest
hears_the_guest opened memory s g m i va k v small = heard opened memory s g k v m i va small

pub misses_empty_entries : MissesEmptyEntries
misses_empty_entries opened memory s g m i va pa k v small miss e = missing opened memory s g k v m i va pa small miss e

pub finds_filled_entries : FindsFilledEntries
finds_filled_entries opened memory s g m i va pa k v small some e = found_by opened memory s g k v m i va pa small e (read_at s (own_number s (page_of va))) refl some

pub marks_the_guest : MarksTheGuest
marks_the_guest opened memory s g va k v small clear = marks opened memory s g k v va small clear

pub probes_the_guest : ProbesTheGuest
probes_the_guest opened memory s g m i va b k v small e = probes opened memory s g k v m i va b small e

pub probes_filled_entries : ProbesFilledEntries
probes_filled_entries opened memory s g m i va k v small some p = judged_by_source opened memory s g k v m i va (present_covered memory s g (page_of va) k.fits v p) (read_at s (own_number s (page_of va))) refl some
