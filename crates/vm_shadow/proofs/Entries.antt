-- Writing one real entry.
use Rattle.std.proofs.Common.{◌≡◌, ◌≢◌, ℕ, ◌+◌, ◌*◌, ◌<◌, inl, inr, Bool, true, false, List, length, set, Option, None, ap, ◌∙◌, sym, subst, arith, slice_index_or}
use Rattle.std.proofs.lemmas.Bool.{cases_eq}
use Rattle.std.proofs.lemmas.List.{get_or-set_other, get_or-set_same, length-set}
use Rattle.vax_arch.specs.Fields.{is_modified, is_valid}
use Rattle.vm_shadow.specs.Layout.{all_entries, entry_page, entry_place}
use Rattle.vm_shadow.specs.Shadowed.{Fits, IsKept, Keeps, Shadowed, is_flagged, is_opened, is_read_from, look_under, mapped_frame, own, read_at, real_at, seen_at, tables_for, way_of}
use Rattle.vm_shadow.specs.declared.source.Source.{Source}
use Rattle.vm_shadow.proofs.Places.{LiesWithin, place_within, places_apart, split, system_apart}
use Rattle.vm_shadow.proofs.Writes.{IsWritten, long_kept, part_same}

-- a write among the real tables leaves the guest's memory
pub own_kept : (memory after : List ℕ) (s : Shadowed) (place long : ℕ) → Fits memory s → LiesWithin s.at place → IsWritten memory after place long → own after s ≡ own memory s
own_kept memory after s place long f l w = part_same memory after (512 * s.base) (512 * s.pages) w.size (omega (arith, f.partition)) (λ p a b. w.other p (split f.apart
    (λ h. inl (omega (arith, l.front)))
    (λ h. inr (omega (arith, l.back)))))

-- with other things recorded of entries
abbrev pub remembers : Shadowed → List (Option Source) → List Bool → List Bool → Shadowed
remembers s reads consulted writable = record s { reads = reads; consulted = consulted; writable = writable }

pub seen_kept : (memory after : List ℕ) (s : Shadowed) (reads : List (Option Source)) (consulted writable : List Bool) (n : ℕ) → own after s ≡ own memory s → seen_at after (remembers s reads consulted writable) n ≡ seen_at memory s n
unfolding seen_at
seen_kept memory after s reads consulted writable n e = ap (λ m. look_under (512 * s.pages) m (entry_page n) (tables_for s n)) e

pub read_here : (s : Shadowed) (n : ℕ) (source : Option Source) → length s.reads ≡ all_entries → n < all_entries → slice_index_or (set s.reads n source) n None ≡ source
read_here s n source whole h = get_or-set_same s.reads n source None (omega arith)

pub read_other : (s : Shadowed) (n k : ℕ) (source : Option Source) → k ≢ n → slice_index_or (set s.reads n source) k None ≡ read_at s k
read_other s n k source differ = get_or-set_other s.reads n k source None differ

-- What has to hold of an entry that is written with its source, and of what is opened and flagged then.
pub record CanSet (pending opened opened' : List ℕ) (memory : List ℕ) (s : Shadowed) (n entry : ℕ) (source : Option Source) (consulted writable : List Bool) : Type 0 where
  pub kept : IsKept (512 * s.pages) s.base (own memory s) pending (seen_at memory s n) entry source
  pub still : (k : ℕ) → k ≢ n → is_opened k opened' ≡ false → is_opened k opened ≡ false
  pub from : (k : ℕ) → k < all_entries → k ≢ n → is_opened k opened' ≡ false → is_valid (real_at memory s k) ≡ true → is_modified (real_at memory s k) ≡ true → is_read_from (mapped_frame s (real_at memory s k)) source ≡ false
  pub onto : is_opened n opened' ≡ false → is_valid entry ≡ true → is_modified entry ≡ true → (k : ℕ) → k < all_entries → is_read_from (mapped_frame s entry) (slice_index_or (set s.reads n source) k None) ≡ false
  pub consulted_size : length consulted ≡ length s.consulted
  pub writable_size : length writable ≡ length s.writable
  pub consults : (frame : ℕ) → is_flagged frame consulted ≡ false → is_flagged frame s.consulted ≡ false
  pub consults_here : (frame : ℕ) → is_flagged frame consulted ≡ false → is_read_from frame source ≡ false
  pub writes : (frame : ℕ) → is_flagged frame s.writable ≡ true → is_flagged frame writable ≡ true
  pub writes_here : is_valid entry ≡ true → is_modified entry ≡ true → is_flagged (way_of (mapped_frame s entry) n) writable ≡ true

-- what one written entry leaves
pub record IsSet (pending opened' : List ℕ) (memory after : List ℕ) (s : Shadowed) (n entry : ℕ) (source : Option Source) (consulted writable : List Bool) : Type 0 where
  pub keeps : Keeps pending opened' after (remembers s (set s.reads n source) consulted writable)
  pub here : real_at after s n ≡ entry
  pub other : (k : ℕ) → k < all_entries → k ≢ n → real_at after s k ≡ real_at memory s k

-- what fits doesn't depend on what is recorded of entries
pub fits_in : {memory : List ℕ} {s : Shadowed} {reads : List (Option Source)} {consulted writable : List Bool} → Fits memory s → Fits memory (remembers s reads consulted writable)
fits_in f = record { few = f.few; small = f.small; partition = f.partition; room = f.room; apart = f.apart; told = f.told; contexts = f.contexts; slots = f.slots; first = f.first; system = f.system }

fits_set : (memory after : List ℕ) (s : Shadowed) (n entry : ℕ) (source : Option Source) (consulted writable : List Bool) → Fits memory s → IsWritten memory after (entry_place s.at n) entry → Fits after (remembers s (set s.reads n source) consulted writable)
fits_set memory after s n entry source consulted writable f w = record {
  few = omega (arith, f.few, w.size);
  small = f.small;
  partition = omega (arith, f.partition, w.size);
  room = omega (arith, f.room, w.size);
  apart = f.apart;
  told = f.told;
  contexts = f.contexts;
  slots = f.slots;
  first = f.first;
  system = λ j l. long_kept memory after (entry_place s.at n) entry (512 * s.at + 4 * (8192 + j)) w (system_apart s.at n j l) ∙ f.system j l;
}

pub set_entry : (pending opened opened' : List ℕ) (memory after : List ℕ) (s : Shadowed) (n entry : ℕ) (source : Option Source) (consulted writable : List Bool) →
    Keeps pending opened memory s → n < all_entries → CanSet pending opened opened' memory s n entry source consulted writable → IsWritten memory after (entry_place s.at n) entry →
    IsSet pending opened' memory after s n entry source consulted writable
set_entry pending opened opened' memory after s n entry source consulted writable keeps h can w =
    let f = keeps.fits in
    let known = keeps.remembers in
    let reads = set s.reads n source in
    let s' = remembers s reads consulted writable in
    let own_is : own after s ≡ own memory s = own_kept memory after s (entry_place s.at n) entry f (place_within s.at n h) w in
    let other : (k : ℕ) → k < all_entries → k ≢ n → real_at after s k ≡ real_at memory s k = λ k d differ. long_kept memory after (entry_place s.at n) entry (entry_place s.at k) w (places_apart s.at n k (λ e. differ (sym e))) in
    let seen : (k : ℕ) → seen_at after s' k ≡ seen_at memory s k = λ k. seen_kept memory after s reads consulted writable k own_is in
    let V : ℕ → Type 0 = λ y. is_valid y ≡ true in
    let M : ℕ → Type 0 = λ y. is_modified y ≡ true in
    let same : (k : ℕ) → k ≢ n → read_at s' k ≡ read_at s k = λ k differ. read_other s n k source differ in
    let here : read_at s' n ≡ source = read_here s n source known.whole h in
    let consults : (m frame : ℕ) → m < all_entries → is_flagged frame consulted ≡ false → is_read_from frame (read_at s' m) ≡ false = λ m frame c u. split (cases_eq m n)
    (λ e. subst (λ y. is_read_from frame y ≡ false) (sym (ap (read_at s') e ∙ here)) (can.consults_here frame u))
    (λ differ. subst (λ y. is_read_from frame y ≡ false) (sym (same m differ)) (known.consults m frame c (can.consults frame u))) in
    record {
      here = w.is;
      other = other;
      keeps = record {
        fits = fits_set memory after s n entry source consulted writable f w;
        remembers = record {
          whole = length-set s.reads n source ∙ known.whole;
          consulted = can.consulted_size ∙ known.consulted;
          writable = can.writable_size ∙ known.writable;
          consults = consults;
        };
        entries = λ k d. rw (seen k, own_is) (split (cases_eq k n)
            (λ e. rw e (rw (here, w.is) can.kept))
            (λ differ. rw (same k differ, other k d differ) (keeps.entries k d)));
        guarded = λ m k c d o v x. split (cases_eq k n)
            (λ e.
            let v' : V entry = subst V (ap (real_at after s) e ∙ w.is) v in
            let x' : M entry = subst M (ap (real_at after s) e ∙ w.is) x in
            let r : real_at after s k ≡ entry = ap (real_at after s) e ∙ w.is in
            subst (λ y. is_read_from (mapped_frame s y) (read_at s' m) ≡ false) (sym r) (can.onto (subst (λ j. is_opened j opened' ≡ false) e o) v' x' m c))
            (λ differ.
            let r : real_at after s k ≡ real_at memory s k = other k d differ in
            let v' : V (real_at memory s k) = subst V r v in
            let x' : M (real_at memory s k) = subst M r x in
            subst (λ y. is_read_from (mapped_frame s y) (read_at s' m) ≡ false) (sym r) (split (cases_eq m n)
            (λ e. subst (λ y. is_read_from (mapped_frame s (real_at memory s k)) y ≡ false) (sym (ap (read_at s') e ∙ here)) (can.from k d differ o v' x'))
            (λ no_. subst (λ y. is_read_from (mapped_frame s (real_at memory s k)) y ≡ false) (sym (same m no_)) (keeps.guarded m k c d (can.still k differ o) v' x'))));
        writes = λ k d v x. split (cases_eq k n)
            (λ e.
            let r : real_at after s k ≡ entry = ap (real_at after s) e ∙ w.is in
            subst (λ y. is_flagged (way_of (mapped_frame s y) k) writable ≡ true) (sym r) (subst (λ j. is_flagged (way_of (mapped_frame s entry) j) writable ≡ true) (sym e) (can.writes_here (subst V r v) (subst M r x))))
            (λ differ.
            let r : real_at after s k ≡ real_at memory s k = other k d differ in
            subst (λ y. is_flagged (way_of (mapped_frame s y) k) writable ≡ true) (sym r) (can.writes _ (keeps.writes k d (subst V r v) (subst M r x))));
      };
    }
