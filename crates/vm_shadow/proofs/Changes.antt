-- What dropping, filling, closing and opening one real entry leaves.
use Rattle.std.proofs.Common.{◌≡◌, ◌≢◌, ℕ, ◌+◌, ◌-◌, ◌*◌, ◌/◌, ◌%◌, ◌^◌, ◌<◌, ◌≤◌, Bool, true, false, List, [], ◌∷◌, length, set, Option, Some, None, is_some, refl, ap, ◌∙◌, sym, subst, arith, slice_index_or, ◌==◌, eqb}
use Rattle.std.proofs.lemmas.Bool.{false≢true, eq-eqb, eqb-true, or_parts}
use Rattle.std.proofs.lemmas.List.{set-get_or}
use Rattle.vax_arch.specs.Fields.{frame_of, is_modified, is_valid}
use Rattle.vax_arch.specs.Walk.{entry_at}
use Rattle.vax_arch.specs.declared.walk.Lookup.{Lookup}
use Rattle.vm_shadow.specs.Layout.{all_entries, empty_entry, entry_place, real_entry}
use Rattle.vm_shadow.specs.Shadowed.{Fits, IsKept, IsRight, IsSource, Keeps, Shadowed, is_flagged, is_opened, is_read_from, mapped_frame, own, read_at, real_at, seen_at, way_of}
use Rattle.vm_shadow.specs.declared.source.Source.{Source}
use Rattle.vm_shadow.proofs.Writes.{IsWritten}
use Rattle.vm_shadow.proofs.Entries.{IsSet, remembers, set_entry}
use Rattle.vm_shadow.proofs.Rights.{frame_fits, modify_of, one_less, one_more, right_frame, right_modify, valid_of}

pub empty_invalid : (A : Type 0) → is_valid empty_entry ≡ true → A
empty_invalid A e = absurd (false≢true e)

-- an entry is dropped
pub dropped : (pending opened : List ℕ) (memory after : List ℕ) (s : Shadowed) (n : ℕ) → Keeps pending opened memory s → n < all_entries → IsWritten memory after (entry_place s.at n) empty_entry → IsSet pending opened memory after s n empty_entry None s.consulted s.writable
dropped pending opened memory after s n k h w = set_entry pending opened opened memory after s n empty_entry None s.consulted s.writable k h (record {
  kept = refl;
  still = λ i d o. o;
  from = λ i c d o v x. refl;
  onto = λ o v. empty_invalid _ v;
  consulted_size = refl;
  writable_size = refl;
  consults = λ frame e. e;
  consults_here = λ frame e. refl;
  writes = λ frame e. e;
  writes_here = λ v. empty_invalid _ v;
}) w

-- what is kept of an entry, where it is filled
pub some_kept : (size base : ℕ) (memory : List ℕ) (pending : List ℕ) (seen : Lookup) (real : ℕ) (source : Option Source) → IsKept size base memory pending seen real source → is_valid real ≡ true → is_some source ≡ true
some_kept size base memory pending seen real None k v = let e : is_valid empty_entry ≡ true = subst (λ x. is_valid x ≡ true) k v in empty_invalid _ e
some_kept size base memory pending seen real (Some source) k v = refl

pub kept_valid : (size base : ℕ) (memory : List ℕ) (pending : List ℕ) (seen : Lookup) (real : ℕ) (source : Option Source) → IsKept size base memory pending seen real source → is_some source ≡ true → is_valid real ≡ true
kept_valid size base memory pending seen real None k e = absurd (false≢true e)
kept_valid size base memory pending seen real (Some source) k e = k.0

-- the right entry of a source that is recorded
pub record IsFilled (memory : List ℕ) (s : Shadowed) (n : ℕ) : Type 0 where
  pub source : Source
  pub read : read_at s n ≡ Some source
  pub right : IsRight (512 * s.pages) s.base (own memory s) (seen_at memory s n) (real_at memory s n)
  pub from : IsSource (seen_at memory s n) source

filled_by : (memory : List ℕ) (s : Shadowed) (n : ℕ) (x : Option Source) → read_at s n ≡ x → IsKept (512 * s.pages) s.base (own memory s) [] (seen_at memory s n) (real_at memory s n) x → is_valid (real_at memory s n) ≡ true → IsFilled memory s n
filled_by memory s n None e k v = let i : is_valid empty_entry ≡ true = subst (λ x. is_valid x ≡ true) k v in empty_invalid _ i
filled_by memory s n (Some source) e k v = record { source = source; read = e; right = (k.1 refl).0; from = (k.1 refl).1 }

pub filled_of : (opened : List ℕ) (memory : List ℕ) (s : Shadowed) (n : ℕ) → Keeps [] opened memory s → n < all_entries → is_valid (real_at memory s n) ≡ true → IsFilled memory s n
filled_of opened memory s n k h v = filled_by memory s n (read_at s n) refl (k.entries n h) v

-- what is recorded stays
pub same_reads : (s : Shadowed) (n : ℕ) → set s.reads n (read_at s n) ≡ s.reads
same_reads s n = set-get_or s.reads n None

-- an entry is filled, with its modify bit clear, by an entry of the guest whose frames no page maps that may be written
pub filled : (memory after : List ℕ) (s : Shadowed) (n entry : ℕ) (source : Source) (consulted : List Bool) → Keeps [] [] memory s → n < all_entries →
    entry_at (own memory s) (seen_at memory s n) ≡ Some entry → is_valid entry ≡ true → 512 * frame_of entry + 512 ≤ 512 * s.pages → IsSource (seen_at memory s n) source →
    ((k : ℕ) → k < all_entries → is_valid (real_at memory s k) ≡ true → is_modified (real_at memory s k) ≡ true → is_read_from (mapped_frame s (real_at memory s k)) (Some source) ≡ false) →
    ((frame : ℕ) → is_flagged frame consulted ≡ false → (is_flagged frame s.consulted ≡ false) × (is_read_from frame (Some source) ≡ false)) → length consulted ≡ length s.consulted →
    IsWritten memory after (entry_place s.at n) (real_entry s.base false entry) → IsSet [] [] memory after s n (real_entry s.base false entry) (Some source) consulted s.writable
filled memory after s n entry source consulted k h has valid inside is free flags size w =
    let small = frame_fits memory s entry k.fits inside in
    let clear : is_modified (real_entry s.base false entry) ≡ false = modify_of s.base false entry small in
    set_entry [] [] [] memory after s n (real_entry s.base false entry) (Some source) consulted s.writable k h (record {
      kept = (valid_of s.base false entry small, λ e. (record { entry = entry; modify = false; has = has; valid = valid; inside = inside; is = refl; marked = λ t. absurd (false≢true t) }, is));
      still = λ i d o. o;
      from = λ i c d o v x. free i c v x;
      onto = λ o v x. absurd (false≢true (sym clear ∙ x));
      consulted_size = size;
      writable_size = refl;
      consults = λ frame e. (flags frame e).0;
      consults_here = λ frame e. (flags frame e).1;
      writes = λ frame e. e;
      writes_here = λ v x. absurd (false≢true (sym clear ∙ x));
    }) w

-- the modify bit of a filled entry is cleared or set
abbrev with_bit : (memory : List ℕ) (s : Shadowed) (n : ℕ) → IsFilled memory s n → Bool → ℕ
with_bit memory s n r b = real_entry s.base b (r.right.entry)

kept_with : (memory : List ℕ) (s : Shadowed) (n : ℕ) (b : Bool) → Fits memory s → (r : IsFilled memory s n) → (b ≡ true → is_modified (r.right.entry) ≡ true) → IsKept (512 * s.pages) s.base (own memory s) [] (seen_at memory s n) (with_bit memory s n r b) (read_at s n)
kept_with memory s n b f r marked = subst (λ x. IsKept (512 * s.pages) s.base (own memory s) [] (seen_at memory s n) (with_bit memory s n r b) x) (sym r.read)
    (valid_of s.base b r.right.entry (frame_fits memory s r.right.entry f r.right.inside), λ e. (record { entry = r.right.entry; modify = b; has = r.right.has; valid = r.right.valid; inside = r.right.inside; is = refl; marked = marked }, r.from))

guard_from : (opened : List ℕ) (memory : List ℕ) (s : Shadowed) (n k : ℕ) → Keeps [] opened memory s → n < all_entries → k < all_entries → is_opened k opened ≡ false → is_valid (real_at memory s k) ≡ true → is_modified (real_at memory s k) ≡ true → is_read_from (mapped_frame s (real_at memory s k)) (read_at s n) ≡ false
guard_from opened memory s n k keeps h c o v x = keeps.guarded n k h c o v x

-- what an entry that is set with its source as before leaves of all
abbrev pub Leaves : (pending opened : List ℕ) → (memory after : List ℕ) → (s : Shadowed) → (n entry : ℕ) → Type 0
Leaves pending opened memory after s n entry = Keeps pending opened after s × ((real_at after s n ≡ entry) × ((k : ℕ) → k < all_entries → k ≢ n → real_at after s k ≡ real_at memory s k))

leaves_of : (pending opened : List ℕ) (memory after : List ℕ) (s : Shadowed) (n entry : ℕ) → IsSet pending opened memory after s n entry (read_at s n) s.consulted s.writable → Leaves pending opened memory after s n entry
leaves_of pending opened memory after s n entry is = (subst (λ x. Keeps pending opened after (remembers s x s.consulted s.writable)) (same_reads s n) is.keeps, (is.here, is.other))

pub one_clear : (real : ℕ) → is_modified real ≡ true → is_modified (real - 2 ^ 26) ≡ false
one_clear real e = let b : real / 2 ^ 26 % 2 ≡ 1 = eqb-true (real / 2 ^ 26 % 2) 1 e in let z : (real - 2 ^ 26) / 2 ^ 26 % 2 ≡ 0 = omega arith in ap (λ x. eqb x 1) z

still_valid : (real : ℕ) → is_modified real ≡ true → is_valid real ≡ true → is_valid (real - 2 ^ 26) ≡ true
still_valid real e v =
    let b : real / 2 ^ 26 % 2 ≡ 1 = eqb-true (real / 2 ^ 26 % 2) 1 e in
    let c : real / 2 ^ 31 % 2 ≡ 1 = eqb-true (real / 2 ^ 31 % 2) 1 v in
    eq-eqb ((real - 2 ^ 26) / 2 ^ 31 % 2) 1 (omega arith)

-- an entry without its modify bit is kept as it was
right_clear : (memory : List ℕ) (s : Shadowed) (n : ℕ) → Fits memory s → is_modified (real_at memory s n) ≡ true → IsRight (512 * s.pages) s.base (own memory s) (seen_at memory s n) (real_at memory s n) → IsRight (512 * s.pages) s.base (own memory s) (seen_at memory s n) (real_at memory s n - 2 ^ 26)
right_clear memory s n f on r =
    let bit_is : r.modify ≡ true = sym (right_modify memory (own memory s) s (seen_at memory s n) (real_at memory s n) f r) ∙ on in
    record { entry = r.entry; modify = false; has = r.has; valid = r.valid; inside = r.inside; is = ap (λ x. x - 2 ^ 26) r.is ∙ one_less s.base r.entry r.modify bit_is; marked = λ e. absurd (false≢true e) }

kept_clear : (pending : List ℕ) (memory : List ℕ) (s : Shadowed) (n : ℕ) (x : Option Source) → Fits memory s → is_modified (real_at memory s n) ≡ true → IsKept (512 * s.pages) s.base (own memory s) pending (seen_at memory s n) (real_at memory s n) x → IsKept (512 * s.pages) s.base (own memory s) pending (seen_at memory s n) (real_at memory s n - 2 ^ 26) x
kept_clear pending memory s n None f on k = absurd (false≢true (sym (ap is_modified k) ∙ on))
kept_clear pending memory s n (Some source) f on k = (still_valid (real_at memory s n) on k.0, λ e. (right_clear memory s n f on (k.1 e).0, (k.1 e).1))

-- Closing an entry; the entry is no longer among the opened.
pub closed : (pending opened opened' : List ℕ) (memory after : List ℕ) (s : Shadowed) (n : ℕ) → Keeps pending opened memory s → n < all_entries → is_modified (real_at memory s n) ≡ true →
    ((k : ℕ) → k ≢ n → is_opened k opened' ≡ false → is_opened k opened ≡ false) →
    IsWritten memory after (entry_place s.at n) (real_at memory s n - 2 ^ 26) → Leaves pending opened' memory after s n (real_at memory s n - 2 ^ 26)
closed pending opened opened' memory after s n k h on still w =
    let clear : is_modified (real_at memory s n - 2 ^ 26) ≡ false = one_clear (real_at memory s n) on in
    leaves_of pending opened' memory after s n (real_at memory s n - 2 ^ 26) (set_entry pending opened opened' memory after s n (real_at memory s n - 2 ^ 26) (read_at s n) s.consulted s.writable k h (record {
      kept = kept_clear pending memory s n (read_at s n) k.fits on (k.entries n h);
      still = still;
      from = λ i c d o v x. k.guarded n i h c (still i d o) v x;
      onto = λ o v x. absurd (false≢true (sym clear ∙ x));
      consulted_size = refl;
      writable_size = refl;
      consults = λ frame e. e;
      consults_here = λ frame e. k.remembers.consults n frame h e;
      writes = λ frame e. e;
      writes_here = λ v x. absurd (false≢true (sym clear ∙ x));
    }) w)

not_other : (n k : ℕ) (opened : List ℕ) → is_opened k (n ∷ opened) ≡ false → is_opened k opened ≡ false
not_other n k opened e = (or_parts (n == k) (is_opened k opened) e).1

not_here : (A : Type 0) (n : ℕ) (opened : List ℕ) → is_opened n (n ∷ opened) ≡ false → A
not_here A n opened e = let t : (n == n) ≡ true = eq-eqb n n refl in absurd (false≢true (sym (or_parts (n == n) (is_opened n opened) e).0 ∙ t))

-- with its frame flagged as one that may be written
abbrev pub flagged : Shadowed → List Bool → Shadowed
flagged s writable = record s { writable = writable }

abbrev pub LeavesFlagged : (opened : List ℕ) → (memory after : List ℕ) → (s : Shadowed) → (n entry : ℕ) → List Bool → Type 0
LeavesFlagged opened memory after s n entry writable = Keeps [] opened after (flagged s writable) × ((real_at after s n ≡ entry) × ((k : ℕ) → k < all_entries → k ≢ n → real_at after s k ≡ real_at memory s k))

flagged_of : (opened : List ℕ) (memory after : List ℕ) (s : Shadowed) (n entry : ℕ) (writable : List Bool) → IsSet [] opened memory after s n entry (read_at s n) s.consulted writable → LeavesFlagged opened memory after s n entry writable
flagged_of opened memory after s n entry writable is = (subst (λ x. Keeps [] opened after (remembers s x s.consulted writable)) (same_reads s n) is.keeps, (is.here, is.other))

-- Opening an entry whose guest's bit is set.
pub opens : (opened : List ℕ) (memory after : List ℕ) (s : Shadowed) (n : ℕ) (writable : List Bool) → Keeps [] opened memory s → n < all_entries → (r : IsFilled memory s n) → is_modified (real_at memory s n) ≡ false → is_modified (r.right.entry) ≡ true →
    length writable ≡ length s.writable → ((frame : ℕ) → is_flagged frame s.writable ≡ true → is_flagged frame writable ≡ true) → is_flagged (way_of (frame_of (r.right.entry)) n) writable ≡ true →
    IsWritten memory after (entry_place s.at n) (real_at memory s n + 2 ^ 26) → LeavesFlagged (n ∷ opened) memory after s n (real_at memory s n + 2 ^ 26) writable
opens opened memory after s n writable k h r off set_ size more flag w =
    let f = k.fits in
    let entry = with_bit memory s n r true in
    let small = frame_fits memory s r.right.entry f r.right.inside in
    let bit_is : r.right.modify ≡ false = sym (right_modify memory (own memory s) s (seen_at memory s n) (real_at memory s n) f r.right) ∙ off in
    let higher : real_at memory s n + 2 ^ 26 ≡ entry = ap (λ x. x + 2 ^ 26) r.right.is ∙ one_more s.base r.right.entry r.right.modify bit_is in
    let again : IsRight (512 * s.pages) s.base (own memory s) (seen_at memory s n) entry = record { entry = r.right.entry; modify = true; has = r.right.has; valid = r.right.valid; inside = r.right.inside; is = refl; marked = λ e. set_ } in
    let frame : mapped_frame s entry ≡ frame_of (r.right.entry) = right_frame memory (own memory s) s (seen_at memory s n) entry f again in
    subst (λ x. LeavesFlagged (n ∷ opened) memory after s n x writable) (sym higher) (flagged_of (n ∷ opened) memory after s n entry writable (set_entry [] opened (n ∷ opened) memory after s n entry (read_at s n) s.consulted writable k h (record {
      kept = kept_with memory s n true f r (λ e. set_);
      still = λ i d o. not_other n i opened o;
      from = λ i c d o v x. k.guarded n i h c (not_other n i opened o) v x;
      onto = λ o. not_here _ n opened o;
      consulted_size = refl;
      writable_size = size;
      consults = λ frame e. e;
      consults_here = λ frame e. k.remembers.consults n frame h e;
      writes = more;
      writes_here = λ v x. subst (λ y. is_flagged (way_of y n) writable ≡ true) (sym frame) flag;
    }) (subst (IsWritten memory after (entry_place s.at n)) higher w)))

-- Writes to a page are granted for good, where no entry was read from its frame.
pub grants : (opened : List ℕ) (memory after : List ℕ) (s : Shadowed) (n : ℕ) (writable : List Bool) → Keeps [] opened memory s → n < all_entries → (r : IsFilled memory s n) → is_modified (real_at memory s n) ≡ false → is_modified (r.right.entry) ≡ true →
    is_flagged (frame_of (r.right.entry)) s.consulted ≡ false →
    length writable ≡ length s.writable → ((frame : ℕ) → is_flagged frame s.writable ≡ true → is_flagged frame writable ≡ true) → is_flagged (way_of (frame_of (r.right.entry)) n) writable ≡ true →
    IsWritten memory after (entry_place s.at n) (real_at memory s n + 2 ^ 26) → LeavesFlagged opened memory after s n (real_at memory s n + 2 ^ 26) writable
grants opened memory after s n writable k h r off set_ unread size more flag w =
    let f = k.fits in
    let entry = with_bit memory s n r true in
    let small = frame_fits memory s r.right.entry f r.right.inside in
    let bit_is : r.right.modify ≡ false = sym (right_modify memory (own memory s) s (seen_at memory s n) (real_at memory s n) f r.right) ∙ off in
    let higher : real_at memory s n + 2 ^ 26 ≡ entry = ap (λ x. x + 2 ^ 26) r.right.is ∙ one_more s.base r.right.entry r.right.modify bit_is in
    let again : IsRight (512 * s.pages) s.base (own memory s) (seen_at memory s n) entry = record { entry = r.right.entry; modify = true; has = r.right.has; valid = r.right.valid; inside = r.right.inside; is = refl; marked = λ e. set_ } in
    let frame : mapped_frame s entry ≡ frame_of (r.right.entry) = right_frame memory (own memory s) s (seen_at memory s n) entry f again in
    subst (λ x. LeavesFlagged opened memory after s n x writable) (sym higher) (flagged_of opened memory after s n entry writable (set_entry [] opened opened memory after s n entry (read_at s n) s.consulted writable k h (record {
      kept = kept_with memory s n true f r (λ e. set_);
      still = λ i d o. o;
      from = λ i c d o v x. k.guarded n i h c o v x;
      onto = λ o v x j c. subst (λ y. is_read_from (mapped_frame s entry) (slice_index_or y j None) ≡ false) (sym (same_reads s n)) (subst (λ y. is_read_from y (read_at s j) ≡ false) (sym frame) (k.remembers.consults j (frame_of (r.right.entry)) c unread));
      consulted_size = refl;
      writable_size = size;
      consults = λ frame e. e;
      consults_here = λ frame e. k.remembers.consults n frame h e;
      writes = more;
      writes_here = λ v x. subst (λ y. is_flagged (way_of y n) writable ≡ true) (sym frame) flag;
    }) (subst (IsWritten memory after (entry_place s.at n)) higher w)))
