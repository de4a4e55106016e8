-- A write of a frame of the guest is noted.
use Rattle.std.proofs.Common.{◌≡◌, ℕ, zero, suc, ◌*◌, ◌<◌, ◌≤◌, Bool, true, false, ◌&&◌, List, [], ◌∷◌, length, set, Option, refl, ap, ◌∙◌, sym, subst, arith}
use Rattle.std.proofs.lemmas.Bool.{and_right, cases_lt, le-leb, lt-ltb}
use Rattle.std.proofs.lemmas.List.{length-set}
use Rattle.vax_hw.specs.Machine.{Machine}
use Rattle.vm_shadow.specs.Calls.{DropsEntries, is_between, remembered, unless_dropped}
use Rattle.vm_shadow.specs.Layout.{all_entries}
use Rattle.vm_shadow.specs.Shadowed.{IsKept, Keeps, Remembers, Shadowed, is_flagged, is_read_from, own, read_at, real_at, seen_at}
use Rattle.vm_shadow.specs.StandsFor.{Notes}
use Rattle.vm_shadow.specs.declared.source.Source.{Source}
use Rattle.vm_shadow.specs.declared.scans.Dropped.TheVariants.{ReadFrom}
use Rattle.vm_shadow.proofs.Entries.{fits_in, seen_kept}
use Rattle.vm_shadow.proofs.Flagging.{untaken}
use Rattle.vm_shadow.proofs.Places.{split}
use Rattle.vm_shadow.proofs.Scanning.{only_none}
use Rattle.vm_shadow.proofs.Stored.{noted}

-- reads past the end are none
pub unread_past : (frame : ℕ) (reads : List (Option Source)) (n : ℕ) → length reads ≤ n → is_read_from frame (remembered reads n) ≡ false
unread_past frame [] n h = refl
unread_past frame (x ∷ xs) zero h = absurd (omega arith)
unread_past frame (x ∷ xs) (suc n) h = unread_past frame xs n (omega arith)

-- what was read from a frame that isn't flagged
unflagged : (frame : ℕ) (s : Shadowed) → ((n : ℕ) → n < all_entries → is_read_from frame (read_at s n) ≡ false) → length s.reads ≡ all_entries → (n : ℕ) → is_read_from frame (read_at s n) ≡ false
unflagged frame s h whole n = split (cases_lt n all_entries) (h n) (λ k. unread_past frame s.reads n (omega arith))

none_kept : (x : Option Source) (b : Bool) → b ≡ false → x ≡ unless_dropped b x
none_kept x b e = ap (λ c. unless_dropped c x) (sym e)

-- a shadow in which no valid entry can have been read from the frame
pub quiet : (frame : ℕ) (pending opened : List ℕ) (memory : List ℕ) (s : Shadowed) → Keeps (frame ∷ pending) opened memory s → is_flagged frame s.consulted ≡ false → Keeps pending opened memory s
quiet frame pending opened memory s k e = noted frame pending opened memory s k (λ n h. k.remembers.consults n frame h e)

pub note_none : (m : Machine) (s : Shadowed) (frame : ℕ) → Remembers s → is_flagged frame s.consulted ≡ false → Notes frame m s m s
note_none m s frame r e = record {
  keeps = λ pending opened k. quiet frame pending opened m.memory s k e;
  drops = record { each = λ n. none_kept (read_at s n) (is_read_from frame (read_at s n)) (unflagged frame s (λ i h. r.consults i frame h e) r.whole n); rest = refl };
  only = only_none s.at m;
}

dropped_none : (b : Bool) (frame : ℕ) (x : Option Source) → b ≡ is_read_from frame x → is_read_from frame (unless_dropped b x) ≡ false
dropped_none true frame x e = refl
dropped_none false frame x e = sym e

all_between : (n : ℕ) → n < all_entries → is_between 0 all_entries n ≡ true
all_between n h = rw (le-leb 0 n (omega arith), lt-ltb n all_entries h) refl

each_from : (frame at : ℕ) (m m' : Machine) (reads reads' : List (Option Source)) → length reads ≡ all_entries → DropsEntries at 0 all_entries (ReadFrom frame) m reads m' reads' → (n : ℕ) → remembered reads' n ≡ unless_dropped (is_read_from frame (remembered reads n)) (remembered reads n)
each_from frame at m m' reads reads' whole d n = split (cases_lt n all_entries)
    (λ h. d.each n ∙ ap (λ b. unless_dropped (b && is_read_from frame (remembered reads n)) (remembered reads n)) (all_between n h))
    (λ h.
    let u : is_read_from frame (remembered reads n) ≡ false = unread_past frame reads n (omega arith) in
    d.each n ∙ ap (λ b. unless_dropped b (remembered reads n)) (and_right (is_between 0 all_entries n) _ u) ∙ sym (ap (λ b. unless_dropped b (remembered reads n)) u))

-- the shadow after a scan, with the frame's flag taken away
abbrev pub unflag : Shadowed → List (Option Source) → ℕ → Shadowed
unflag s reads frame = record s { reads = reads; consulted = set s.consulted frame false }

unread_all : (frame : ℕ) (m m' : Machine) (s : Shadowed) (reads' : List (Option Source)) → length s.reads ≡ all_entries → DropsEntries s.at 0 all_entries (ReadFrom frame) m s.reads m' reads' → (n : ℕ) → is_read_from frame (remembered reads' n) ≡ false
unread_all frame m m' s reads' whole d n = subst (λ x. is_read_from frame x ≡ false) (sym (each_from frame s.at m m' s.reads reads' whole d n)) (dropped_none (is_read_from frame (read_at s n)) frame (read_at s n) refl)

unflag_keeps : (frame : ℕ) (pending opened : List ℕ) (memory : List ℕ) (s : Shadowed) → Keeps pending opened memory s → ((n : ℕ) → is_read_from frame (read_at s n) ≡ false) → Keeps pending opened memory (record s { consulted = set s.consulted frame false })
unflag_keeps frame pending opened memory s k none = let r = k.remembers in record {
  fits = fits_in k.fits;
  remembers = record {
    whole = r.whole;
    consulted = length-set s.consulted frame false ∙ r.consulted;
    writable = r.writable;
    consults = λ n other h e. split (untaken s.consulted frame other e) (λ same. subst (λ x. is_read_from x (read_at s n) ≡ false) same (none n)) (λ u. r.consults n other h u);
  };
  entries = entries_kept k.entries;
  guarded = k.guarded;
  writes = k.writes;
}
  where
    entries_kept : ((n : ℕ) → n < all_entries → IsKept (512 * s.pages) s.base (own memory s) pending (seen_at memory s n) (real_at memory s n) (read_at s n)) → (n : ℕ) → n < all_entries → IsKept (512 * s.pages) s.base (own memory s) pending (seen_at memory (record s { consulted = set s.consulted frame false }) n) (real_at memory s n) (read_at s n)
    entries_kept h n l = rw (seen_kept memory memory s s.reads (set s.consulted frame false) s.writable n refl) (h n l)

pub note_all : (m m' : Machine) (s : Shadowed) (reads' : List (Option Source)) (frame : ℕ) → Remembers s → DropsEntries s.at 0 all_entries (ReadFrom frame) m s.reads m' reads' → Notes frame m s m' (unflag s reads' frame)
note_all m m' s reads' frame r d = record {
  keeps = λ pending opened k.
      let after = d.keeps (frame ∷ pending) opened s refl refl k in
      let none = unread_all frame m m' s reads' r.whole d in
      unflag_keeps frame pending opened m'.memory (record s { reads = reads' }) (noted frame pending opened m'.memory (record s { reads = reads' }) after (λ n h. none n)) none;
  drops = record { each = each_from frame s.at m m' s.reads reads' r.whole d; rest = refl };
  only = d.only;
}

-- what is seen of a shadow
pub notes_seen : (frame : ℕ) (m m' : Machine) (inside s s' : Shadowed) → inside ≡ s → Notes frame m inside m' s' → Notes frame m s m' s'
notes_seen frame m m' inside s s' e n = subst (λ x. Notes frame m x m' s') e n
