-- Pages are opened, granted and closed.
use Rattle.std.proofs.Common.{◌≡◌, ◌≢◌, ℕ, ◌+◌, ◌-◌, ◌/◌, ◌%◌, ◌^◌, ◌<◌, ◌≤◌, Bool, true, false, not, ◌==◌, eqb, cond, List, [], ◌∷◌, length, set, refl, ap, ◌∙◌, sym, subst, arith}
use Rattle.std.proofs.lemmas.Bool.{cases_eq, cases_lt, eqb-false, eqb-true, ne_eqb, or_from, or_parts, true≢false}
use Rattle.std.proofs.lemmas.List.{get_or-set_other, get_or-set_same, length-set, set_past}
use Rattle.std.proofs.lemmas.Option.{same_Some}
use Rattle.vv_base.specs.Bytes.{long_at}
use Rattle.vax_arch.specs.Fields.{frame_of, is_modified}
use Rattle.std.specs.Prelude.{if◌then◌else◌}
use Rattle.vax_arch.specs.Walk.{with_modify}
use Rattle.vax_hw.specs.Machine.{Machine}
use Rattle.vm_shadow.specs.Layout.{IsCovered, all_entries, entry_place}
use Rattle.vm_shadow.specs.Shadowed.{Fits, Keeps, Remembers, Shadowed, is_flagged, is_opened, mapped_frame, own, real_at, seen_at, way_of}
use Rattle.vm_shadow.specs.StandsFor.{ClosesPage, GrantsPage, HasModifiedPage, OpensPage, closed_for, own_number}
use Rattle.vm_shadow.proofs.Changes.{IsFilled, closed, filled_of, grants, one_clear, opens}
use Rattle.vm_shadow.proofs.Covering.{slot_small}
use Rattle.vm_shadow.proofs.Places.{number_small, place_within, places_apart, split}
use Rattle.vm_shadow.proofs.Rights.{right_frame}
use Rattle.vm_shadow.proofs.Scanning.{only_more, only_none, with_long}
use Rattle.vm_shadow.proofs.Writes.{IsWritten, long_kept, written}

-- a flag that is set
flag_set : (flags : List Bool) (at : ℕ) → at < length flags → is_flagged at (set flags at true) ≡ true
flag_set flags at h = get_or-set_same flags at true false h

flag_more : (flags : List Bool) (at frame : ℕ) → is_flagged frame flags ≡ true → is_flagged frame (set flags at true) ≡ true
flag_more flags at frame e = split (cases_eq frame at)
    (λ same. split (cases_lt at (length flags))
    (λ h. ap (λ x. is_flagged x (set flags at true)) same ∙ flag_set flags at h)
    (λ h. ap (is_flagged frame) (set_past flags at true h) ∙ e))
    (λ differ. get_or-set_other flags at frame true false differ ∙ e)

-- the guest's entry that a filled real one stands for has its bit set
marked_right : (memory : List ℕ) (s : Shadowed) (n : ℕ) → HasModifiedPage memory s n → (r : IsFilled memory s n) → is_modified (r.right.entry) ≡ true
marked_right memory s n mark r = let same : r.right.entry ≡ mark.entry = same_Some (r.right.entry) mark.entry (sym r.right.has ∙ mark.has) in subst (λ x. is_modified x ≡ true) (sym same) mark.modified

set_bit : (real : ℕ) → is_modified real ≡ false → is_modified (real + 2 ^ 26) ≡ true
set_bit real e = let b : (real / 2 ^ 26 % 2 ≡ 1) → ⊥ = eqb-false (real / 2 ^ 26 % 2) 1 e in let z : (real + 2 ^ 26) / 2 ^ 26 % 2 ≡ 1 = bit (λ q. b q) in ap (λ x. eqb x 1) z
  where
    bit : (real / 2 ^ 26 % 2 ≢ 1) → (real + 2 ^ 26) / 2 ^ 26 % 2 ≡ 1
    bit n = grind arith

modified_stays : (real : ℕ) → is_modified real ≡ true → with_modify real ≡ real
modified_stays real e = ap (λ b. if b then real else real + 2 ^ 26) e

clear_rises : (real : ℕ) → is_modified real ≡ false → with_modify real ≡ real + 2 ^ 26
clear_rises real e = ap (λ b. if b then real else real + 2 ^ 26) e

opened_more : (opened : List ℕ) (n : ℕ) (memory : List ℕ) (s : Shadowed) → Keeps [] opened memory s → Keeps [] (n ∷ opened) memory s
opened_more opened n memory s k = record { fits = k.fits; remembers = k.remembers; entries = k.entries; writes = k.writes; guarded = λ i j h c o v x. k.guarded i j h c (or_parts (n == j) (is_opened j opened) o).1 v x }

module _ (m : Machine) (s : Shadowed) (n : ℕ) (f : Fits m.memory s) (h : n < all_entries) (mark : HasModifiedPage m.memory s n) where
  -- a page that is open is opened
  pub opens_same : is_modified (real_at m.memory s n) ≡ true → OpensPage n m s m s
  opens_same on = record { keeps = λ opened k. opened_more opened n m.memory s k; opens = on; entry = sym (modified_stays (real_at m.memory s n) on); others = λ k differ. refl; rest = refl; only = only_none s.at m }

  pub grants_same : is_modified (real_at m.memory s n) ≡ true → GrantsPage n m s m s
  grants_same on = record { keeps = λ opened k. k; opens = on; entry = sym (modified_stays (real_at m.memory s n) on); others = λ k differ. refl; rest = refl; only = only_none s.at m }

  place_room : entry_place s.at n + 4 ≤ length m.memory
  place_room = omega (arith, f.room, (place_within s.at n h).back)

  write_of : IsWritten m.memory (with_long m (entry_place s.at n) (real_at m.memory s n + 2 ^ 26)).memory (entry_place s.at n) (real_at m.memory s n + 2 ^ 26)
  write_of = written m.memory (entry_place s.at n) (real_at m.memory s n + 2 ^ 26) place_room

  others_stay : {after : List ℕ} → IsWritten m.memory after (entry_place s.at n) (real_at m.memory s n + 2 ^ 26) → (k : ℕ) → k ≢ n → real_at after s k ≡ real_at m.memory s k
  others_stay {after = after} w k differ = long_kept m.memory after (entry_place s.at n) (real_at m.memory s n + 2 ^ 26) (entry_place s.at k) w (places_apart s.at n k (λ e. differ (sym e)))

  frame_of_filled : (r : IsFilled m.memory s n) → mapped_frame s (real_at m.memory s n) ≡ frame_of (r.right.entry)
  frame_of_filled r = right_frame m.memory (own m.memory s) s (seen_at m.memory s n) (real_at m.memory s n) f r.right

  within_flags : Remembers s → (r : IsFilled m.memory s n) → way_of (mapped_frame s (real_at m.memory s n)) n < length s.writable
  within_flags known r = let e = frame_of_filled r in let i = r.right.inside in let small : mapped_frame s (real_at m.memory s n) < s.pages = omega arith in omega (arith, known.writable)

  pub opens_now : is_modified (real_at m.memory s n) ≡ false → OpensPage n m s (with_long m (entry_place s.at n) (real_at m.memory s n + 2 ^ 26)) (record s { writable = set s.writable (way_of (mapped_frame s (real_at m.memory s n)) n) true })
  opens_now off =
      let at = way_of (mapped_frame s (real_at m.memory s n)) n in
      let w = write_of in
      record {
        keeps = λ opened k.
            let r = filled_of opened m.memory s n k h mark.filled in
            (opens opened m.memory _ s n (set s.writable at true) k h r off (marked_right m.memory s n mark r) (length-set s.writable at true) (λ frame e. flag_more s.writable at frame e)
            (subst (λ x. is_flagged (way_of x n) (set s.writable at true) ≡ true) (frame_of_filled r) (flag_set s.writable at (within_flags k.remembers r))) w).0;
        opens = ap is_modified w.is ∙ set_bit (real_at m.memory s n) off;
        entry = w.is ∙ sym (clear_rises (real_at m.memory s n) off);
        others = others_stay w;
        rest = refl;
        only = only_more s.at m m (entry_place s.at n) _ f.room (place_within s.at n h) (only_none s.at m);
      }

  pub grants_now : is_modified (real_at m.memory s n) ≡ false → is_flagged (mapped_frame s (real_at m.memory s n)) s.consulted ≡ false → GrantsPage n m s (with_long m (entry_place s.at n) (real_at m.memory s n + 2 ^ 26)) (record s { writable = set s.writable (way_of (mapped_frame s (real_at m.memory s n)) n) true })
  grants_now off unread =
      let at = way_of (mapped_frame s (real_at m.memory s n)) n in
      let w = write_of in
      record {
        keeps = λ opened k.
            let r = filled_of opened m.memory s n k h mark.filled in
            (grants opened m.memory _ s n (set s.writable at true) k h r off (marked_right m.memory s n mark r) (subst (λ x. is_flagged x s.consulted ≡ false) (frame_of_filled r) unread) (length-set s.writable at true) (λ frame e. flag_more s.writable at frame e)
            (subst (λ x. is_flagged (way_of x n) (set s.writable at true) ≡ true) (frame_of_filled r) (flag_set s.writable at (within_flags k.remembers r))) w).0;
        opens = ap is_modified w.is ∙ set_bit (real_at m.memory s n) off;
        entry = w.is ∙ sym (clear_rises (real_at m.memory s n) off);
        others = others_stay w;
        rest = refl;
        only = only_more s.at m m (entry_place s.at n) _ f.room (place_within s.at n h) (only_none s.at m);
      }

-- closing

kept_by : (k n : ℕ) (b : Bool) (rest : List ℕ) → (k == n) ≡ b → is_opened n [] ≡ false → (j : ℕ) → j ≢ n → is_opened j (cond (not b) (k ∷ rest) rest) ≡ false → (is_opened j rest ≡ false) × ((k == j) ≡ false)
kept_by k n true rest e z j differ o = (o, ne_eqb k j (λ same. differ (sym same ∙ eqb-true k n e)))
kept_by k n false rest e z j differ o = let p = or_parts (k == j) (is_opened j rest) o in (p.1, p.0)

pub still_opened : (n : ℕ) (opened : List ℕ) (j : ℕ) → j ≢ n → is_opened j (closed_for n opened) ≡ false → is_opened j opened ≡ false
still_opened n [] j differ o = refl
still_opened n (k ∷ ks) j differ o = let p = kept_by k n (k == n) (closed_for n ks) refl refl j differ o in or_from (k == j) (is_opened j ks) p.1 (still_opened n ks j differ p.0)

pub closes_same : (m : Machine) (s : Shadowed) (n : ℕ) → is_modified (real_at m.memory s n) ≡ false → ClosesPage n m s m
closes_same m s n off = record {
  keeps = λ pending opened k. record { fits = k.fits; remembers = k.remembers; entries = k.entries; writes = k.writes; guarded = λ i j h c o v x. k.guarded i j h c (still_opened n opened j (λ same. true≢false (sym x ∙ subst (λ y. is_modified (real_at m.memory s y) ≡ false) (sym same) off)) o) v x };
  closes = off;
  others = λ k differ. refl;
  only = only_none s.at m;
}

pub closes_now : (m : Machine) (s : Shadowed) (n : ℕ) → Fits m.memory s → n < all_entries → is_modified (real_at m.memory s n) ≡ true → ClosesPage n m s (with_long m (entry_place s.at n) (real_at m.memory s n - 2 ^ 26))
closes_now m s n f h on =
    let w = written m.memory (entry_place s.at n) (real_at m.memory s n - 2 ^ 26) (omega (arith, f.room, (place_within s.at n h).back)) in
    record {
      keeps = λ pending opened k. (closed pending opened (closed_for n opened) m.memory _ s n k h on (λ j differ o. still_opened n opened j differ o) w).0;
      closes = ap is_modified w.is ∙ one_clear (real_at m.memory s n) on;
      others = λ k differ. long_kept m.memory _ (entry_place s.at n) (real_at m.memory s n - 2 ^ 26) (entry_place s.at k) w (places_apart s.at n k (λ e. differ (sym e)));
      only = only_more s.at m m (entry_place s.at n) _ f.room (place_within s.at n h) (only_none s.at m);
    }

-- the place of an entry of the slot in use lies in the machine
pub place_inside : (memory : List ℕ) (s : Shadowed) (n place : ℕ) → Fits memory s → n < all_entries → place ≡ entry_place s.at n → place + 4 ≤ length memory
place_inside memory s n place f h e = let l = place_within s.at n h in omega (arith, f.room, l.back, e)

-- the same, of what the code reads and writes

own_small : (memory : List ℕ) (s : Shadowed) (page : ℕ) → Fits memory s → IsCovered page → own_number s page < all_entries
own_small memory s page f c = number_small s.slot page (slot_small memory s f) c

pub closes_then : (m m2 : Machine) (s : Shadowed) (page place real : ℕ) → Fits m.memory s → IsCovered page → place ≡ entry_place s.at (own_number s page) → real ≡ long_at m.memory place → is_modified real ≡ true → m2 ≡ with_long m place (real - 2 ^ 26) → ClosesPage (own_number s page) m s m2
closes_then m m2 s page place real f c is read on write =
    let r : real ≡ real_at m.memory s (own_number s page) = read ∙ ap (long_at m.memory) is in
    subst (ClosesPage (own_number s page) m s) (sym (write ∙ (λ i. with_long m (is i) (r i - 2 ^ 26)))) (closes_now m s (own_number s page) f (own_small m.memory s page f c) (subst (λ x. is_modified x ≡ true) r on))

pub closes_else : (m : Machine) (s : Shadowed) (page place real : ℕ) → place ≡ entry_place s.at (own_number s page) → real ≡ long_at m.memory place → is_modified real ≡ false → ClosesPage (own_number s page) m s m
closes_else m s page place real is read off = closes_same m s (own_number s page) (subst (λ x. is_modified x ≡ false) (read ∙ ap (long_at m.memory) is) off)

module _ (m m2 : Machine) (s inside : Shadowed) (page place real frame n : ℕ) (flags : List Bool) (view : inside ≡ s) (f : Fits m.memory s) (c : IsCovered page) (mark : HasModifiedPage m.memory s (own_number s page)) (is : place ≡ entry_place s.at (own_number s page)) (read : real ≡ long_at m.memory place) where
  real_is : real ≡ real_at m.memory s (own_number s page)
  real_is = read ∙ ap (long_at m.memory) is

  pub opens_else : is_modified real ≡ true → OpensPage (own_number s page) m s m s
  opens_else on = opens_same m s (own_number s page) f (own_small m.memory s page f c) mark (subst (λ x. is_modified x ≡ true) real_is on)

  pub grants_else : is_modified real ≡ true → GrantsPage (own_number s page) m s m s
  grants_else on = grants_same m s (own_number s page) f (own_small m.memory s page f c) mark (subst (λ x. is_modified x ≡ true) real_is on)

  machine_is : m2 ≡ with_long m place (real + 2 ^ 26) → m2 ≡ with_long m (entry_place s.at (own_number s page)) (real_at m.memory s (own_number s page) + 2 ^ 26)
  machine_is write = write ∙ (λ i. with_long m (is i) (real_is i + 2 ^ 26))

  shadow_is : frame ≡ frame_of real - inside.base → n ≡ own_number inside page → flags ≡ set inside.writable (way_of frame n) true → record inside { writable = flags } ≡ record s { writable = set s.writable (way_of (mapped_frame s (real_at m.memory s (own_number s page))) (own_number s page)) true }
  shadow_is at n_is set_ =
      let at_is : frame ≡ mapped_frame s (real_at m.memory s (own_number s page)) = at ∙ (λ i. frame_of (real_is i) - (view i).base) in
      (λ i. record (view i) { writable = set_ i }) ∙ (λ i. record s { writable = set (view i).writable (way_of (at_is i) ((n_is ∙ ap (λ (x : Shadowed). own_number x page) view) i)) true })

  pub opens_then : is_modified real ≡ false → m2 ≡ with_long m place (real + 2 ^ 26) → frame ≡ frame_of real - inside.base → n ≡ own_number inside page → flags ≡ set inside.writable (way_of frame n) true → OpensPage (own_number s page) m s m2 (record inside { writable = flags })
  opens_then off write at n_is set_ = subst (λ x. OpensPage (own_number s page) m s x (record inside { writable = flags })) (sym (machine_is write)) (subst (OpensPage (own_number s page) m s (with_long m (entry_place s.at (own_number s page)) (real_at m.memory s (own_number s page) + 2 ^ 26))) (sym (shadow_is at n_is set_))
      (opens_now m s (own_number s page) f (own_small m.memory s page f c) mark (subst (λ x. is_modified x ≡ false) real_is off)))

  pub grants_then : is_modified real ≡ false → is_flagged frame inside.consulted ≡ false → m2 ≡ with_long m place (real + 2 ^ 26) → frame ≡ frame_of real - inside.base → n ≡ own_number inside page → flags ≡ set inside.writable (way_of frame n) true → GrantsPage (own_number s page) m s m2 (record inside { writable = flags })
  grants_then off unread write at n_is set_ = subst (λ x. GrantsPage (own_number s page) m s x (record inside { writable = flags })) (sym (machine_is write)) (subst (GrantsPage (own_number s page) m s (with_long m (entry_place s.at (own_number s page)) (real_at m.memory s (own_number s page) + 2 ^ 26))) (sym (shadow_is at n_is set_))
      (grants_now m s (own_number s page) f (own_small m.memory s page f c) mark (subst (λ x. is_modified x ≡ false) real_is off)
      (subst (λ x. is_flagged x s.consulted ≡ false) (at ∙ (λ i. frame_of (real_is i) - (view i).base)) (ap (λ (x : Shadowed). is_flagged frame x.consulted) (sym view) ∙ unread))))

-- the frame that a page's real entry maps
pub maps_own : (m : Machine) (s inside : Shadowed) (page place real frame : ℕ) → inside ≡ s → place ≡ entry_place s.at (own_number s page) → real ≡ long_at m.memory place → frame ≡ frame_of real - inside.base → frame ≡ mapped_frame s (real_at m.memory s (own_number s page))
maps_own m s inside page place real frame view is read at = at ∙ (λ i. frame_of ((read ∙ ap (long_at m.memory) is) i) - (view i).base)
