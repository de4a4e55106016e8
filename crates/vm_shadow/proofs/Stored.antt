-- A write of the guest's memory, in one frame.
use Rattle.std.proofs.Common.{◌≡◌, ◌≢◌, ℕ, zero, suc, ◌+◌, ◌*◌, ◌/◌, ◌<◌, ◌≤◌, ◌⊎◌, inl, inr, Bool, true, false, ◌||◌, List, [], ◌∷◌, length, Option, Some, None, refl, ◌∙◌, sym, subst, arith, slice_index}
use Rattle.std.proofs.lemmas.Bool.{cases_lt, or_from}
use Rattle.vv_base.specs.Bytes.{long_at}
use Rattle.vax_arch.specs.Fields.{is_modified, is_valid}
use Rattle.vax_arch.specs.declared.walk.Lookup.{Lookup}
use Rattle.vm_shadow.specs.Layout.{all_entries, entry_page, entry_place}
use Rattle.vm_shadow.specs.Shadowed.{Fits, IsKept, IsRight, IsSource, Keeps, Shadowed, is_flagged, is_pending, is_read_from, mapped_frame, own, read_at, real_at, seen_at, tables_for, way_of}
use Rattle.vm_shadow.specs.declared.source.Source.{Source}
use Rattle.vm_shadow.proofs.Contexts.{aligned_of, stand_for}
use Rattle.vm_shadow.proofs.Lookups.{DifferIn, IsSame, same_under}
use Rattle.vm_shadow.proofs.Places.{LiesWithin, place_within, split}
use Rattle.vm_shadow.proofs.Writes.{long_by}
use Rattle.vm_state.specs.Partition.{part}
use Rattle.vm_state.proofs.Parts.{part_byte, part_length}

-- bytes of one frame of the machine are written, and nothing else
pub record IsFrameWritten (frame : ℕ) (memory after : List ℕ) : Type 0 where
  pub size : length after ≡ length memory
  pub other : (p : ℕ) → (p < 512 * frame) ⊎ (512 * frame + 512 ≤ p) → slice_index after p ≡ slice_index memory p

-- beyond a part there is nothing
part_past : (memory : List ℕ) (at size p : ℕ) → at + size ≤ length memory → size ≤ p → slice_index (part memory at size) p ≡ 0
part_past memory at size p room h = past (part memory at size) p (omega (arith, part_length memory at size room))
  where
    past : (xs : List ℕ) (p : ℕ) → length xs ≤ p → slice_index xs p ≡ 0
    past [] p h = refl
    past (x ∷ xs) zero h = absurd (omega arith)
    past (x ∷ xs) (suc p) h = past xs p (omega arith)

-- the guest's memory differs in that frame alone
own_differs : (memory after : List ℕ) (s : Shadowed) (frame : ℕ) → Fits memory s → IsFrameWritten (s.base + frame) memory after → DifferIn frame (own memory s) (own after s)
own_differs memory after s frame f w = record {
  same = λ p differ. split (cases_lt p (512 * s.pages))
      (λ h. part_byte after (512 * s.base) (512 * s.pages) p h ∙ w.other (512 * s.base + p) (beside p differ) ∙ sym (part_byte memory (512 * s.base) (512 * s.pages) p h))
      (λ h. part_past after (512 * s.base) (512 * s.pages) p (omega (arith, f.partition, w.size)) h ∙ sym (part_past memory (512 * s.base) (512 * s.pages) p (omega (arith, f.partition)) h));
}
  where
    beside : (p : ℕ) → p / 512 ≢ frame → (512 * s.base + p < 512 * (s.base + frame)) ⊎ (512 * (s.base + frame) + 512 ≤ 512 * s.base + p)
    beside p n = split (cases_lt p (512 * frame)) (λ h. inl (omega arith)) (λ h. split (cases_lt p (512 * frame + 512)) (λ k. absurd (n (omega arith))) (λ k. inr (omega arith)))

-- the real tables stay
table_long : (memory after : List ℕ) (s : Shadowed) (frame place : ℕ) → Fits memory s → frame < s.pages → IsFrameWritten (s.base + frame) memory after → LiesWithin s.at place → long_at after place ≡ long_at memory place
table_long memory after s frame place f small w l = long_by memory after place (λ p a b. w.other p (split f.apart
    (λ h. inr (omega (arith, l.front)))
    (λ h. inl (omega (arith, l.back)))))

fits_stored : (memory after : List ℕ) (s : Shadowed) (frame : ℕ) → Fits memory s → frame < s.pages → IsFrameWritten (s.base + frame) memory after → Fits after s
fits_stored memory after s frame f small w = record {
  few = omega (arith, f.few, w.size);
  small = f.small;
  partition = omega (arith, f.partition, w.size);
  room = omega (arith, f.room, w.size);
  apart = f.apart;
  told = f.told;
  contexts = f.contexts;
  slots = f.slots;
  first = f.first;
  system = λ j l. table_long memory after s frame (512 * s.at + 4 * (8192 + j)) f small w (record { front = omega arith; back = omega arith }) ∙ f.system j l;
}

pub seen_same : (memory after : List ℕ) (s : Shadowed) (frame n : ℕ) (source : Source) → Fits memory s → IsFrameWritten (s.base + frame) memory after → is_read_from frame (Some source) ≡ false → IsSource (seen_at memory s n) source → IsSame (own memory s) (own after s) (seen_at memory s n) (seen_at after s n)
unfolding seen_at
seen_same memory after s frame n source f w u from = same_under (512 * s.pages) frame (own memory s) (own after s) (entry_page n) (tables_for s n) source (own_differs memory after s frame f w) (λ t e. aligned_of t (stand_for memory s n t f e)) from u

right_stored : (memory after : List ℕ) (s : Shadowed) (frame n : ℕ) (source : Source) → Fits memory s → IsFrameWritten (s.base + frame) memory after → is_read_from frame (Some source) ≡ false → IsRight (512 * s.pages) s.base (own memory s) (seen_at memory s n) (real_at memory s n) × IsSource (seen_at memory s n) source → IsRight (512 * s.pages) s.base (own after s) (seen_at after s n) (real_at memory s n) × IsSource (seen_at after s n) source
right_stored memory after s frame n source f w u (r, from) =
    let same = seen_same memory after s frame n source f w u from in
    rw (same.look) (record { entry = r.entry; modify = r.modify; has = same.entry ∙ r.has; valid = r.valid; inside = r.inside; is = r.is; marked = r.marked }, from)

kept_stored : (pending : List ℕ) (memory after : List ℕ) (s : Shadowed) (frame n : ℕ) (x : Option Source) → Fits memory s → IsFrameWritten (s.base + frame) memory after → (is_pending pending x ≡ false → is_read_from frame x ≡ false) → IsKept (512 * s.pages) s.base (own memory s) pending (seen_at memory s n) (real_at memory s n) x → IsKept (512 * s.pages) s.base (own after s) pending (seen_at after s n) (real_at memory s n) x
kept_stored pending memory after s frame n None f w u k = k
kept_stored pending memory after s frame n (Some source) f w u k = (k.0, λ e. right_stored memory after s frame n source f w (u e) (k.1 e))

-- What was read from that frame is pending, or nothing was: then all that was kept is kept.
pub stored : (pending opened : List ℕ) (memory after : List ℕ) (s : Shadowed) (frame : ℕ) → Keeps pending opened memory s → frame < s.pages → IsFrameWritten (s.base + frame) memory after →
    ((n : ℕ) → n < all_entries → is_pending pending (read_at s n) ≡ false → is_read_from frame (read_at s n) ≡ false) → Keeps pending opened after s
stored pending opened memory after s frame k small w unread =
    let f = k.fits in
    let real : (n : ℕ) → n < all_entries → real_at after s n ≡ real_at memory s n = λ n h. table_long memory after s frame (entry_place s.at n) f small w (place_within s.at n h) in
    record {
      fits = fits_stored memory after s frame f small w;
      remembers = k.remembers;
      entries = λ n h. rw (real n h) (kept_stored pending memory after s frame n (read_at s n) f w (unread n h) (k.entries n h));
      guarded = λ n i h c o v x.
          subst (λ y. is_read_from (mapped_frame s y) (read_at s n) ≡ false) (sym (real i c)) (k.guarded n i h c o (subst (λ y. is_valid y ≡ true) (real i c) v) (subst (λ y. is_modified y ≡ true) (real i c) x));
      writes = λ i c v x. subst (λ y. is_flagged (way_of (mapped_frame s y) i) s.writable ≡ true) (sym (real i c)) (k.writes i c (subst (λ y. is_valid y ≡ true) (real i c) v) (subst (λ y. is_modified y ≡ true) (real i c) x));
    }

-- when nothing is left that was read from a frame, it is no longer pending
noted_entry : (size base frame : ℕ) (memory pending : List ℕ) (seen : Lookup) (real : ℕ) (x : Option Source) → is_read_from frame x ≡ false → IsKept size base memory (frame ∷ pending) seen real x → IsKept size base memory pending seen real x
noted_entry size base frame memory pending seen real None u k = k
noted_entry size base frame memory pending seen real (Some source) u k = (k.0, λ e. k.1 (or_from (is_read_from frame (Some source)) (is_pending pending (Some source)) u e))

pub noted : (frame : ℕ) (pending opened : List ℕ) (memory : List ℕ) (s : Shadowed) → Keeps (frame ∷ pending) opened memory s → ((n : ℕ) → n < all_entries → is_read_from frame (read_at s n) ≡ false) → Keeps pending opened memory s
noted frame pending opened memory s k none = record {
  fits = k.fits;
  remembers = k.remembers;
  entries = λ n h. noted_entry (512 * s.pages) s.base frame (own memory s) pending (seen_at memory s n) (real_at memory s n) (read_at s n) (none n h) (k.entries n h);
  guarded = k.guarded;
  writes = k.writes;
}

-- more may be pending
pending_entry : (size base frame : ℕ) (memory pending : List ℕ) (seen : Lookup) (real : ℕ) (x : Option Source) → IsKept size base memory pending seen real x → IsKept size base memory (frame ∷ pending) seen real x
pending_entry size base frame memory pending seen real None k = k
pending_entry size base frame memory pending seen real (Some source) k = (k.0, λ e. k.1 (rest _ _ e))
  where
    rest : (a b : Bool) → (a || b) ≡ false → b ≡ false
    rest false b e = e
    rest true b e = cc

pub more_pending : (frame : ℕ) (pending opened : List ℕ) (memory : List ℕ) (s : Shadowed) → Keeps pending opened memory s → Keeps (frame ∷ pending) opened memory s
more_pending frame pending opened memory s k = record {
  fits = k.fits;
  remembers = k.remembers;
  entries = λ n h. pending_entry (512 * s.pages) s.base frame (own memory s) pending (seen_at memory s n) (real_at memory s n) (read_at s n) (k.entries n h);
  guarded = k.guarded;
  writes = k.writes;
}
