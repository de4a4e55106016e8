-- Scans over the real entries.
use Rattle.std.proofs.Common.{◌≡◌, ◌≢◌, ℕ, ◌+◌, ◌-◌, ◌*◌, ◌<◌, ◌≤◌, ◌⊎◌, inl, inr, true, false, ◌&&◌, nat_le, List, length, set, take, drop, Option, None, refl, ap, ◌∙◌, sym, subst, arith, slice_index}
use Rattle.std.proofs.lemmas.Bool.{and_left, and_right, cases_eq, cases_lt, le-leb, lt-leb, lt-ltb, le-ltb}
use Rattle.std.proofs.lemmas.List.{ext_get_or, get_or-drop, get_or-set_other, get_or-set_same, get_or-take, length-drop, length-set, length-take-le}
use Rattle.vv_base.specs.Bytes.{long_bytes, overwritten}
use Rattle.vax_hw.specs.Machine.{Machine}
use Rattle.vm_shadow.specs.Layout.{all_entries, empty_entry, entry_place}
use Rattle.vm_shadow.specs.Shadowed.{Keeps, Shadowed}
use Rattle.vm_shadow.specs.Calls.{DropsEntries, OnlyTables, is_between, is_dropped, remembered, unless_dropped}
use Rattle.vm_shadow.specs.Marks.{IsPast}
use Rattle.vm_shadow.specs.declared.source.Source.{Source}
use Rattle.vm_shadow.specs.declared.scans.Dropped.{Dropped}
use Rattle.vm_shadow.proofs.Places.{LiesWithin, place_within, split}
use Rattle.vm_shadow.proofs.Writes.{IsWritten, written}
use Rattle.vm_shadow.proofs.Changes.{dropped}
use Rattle.vm_state.specs.Partition.{IsApart}

-- memories that are one but for a range

pub apart_by : (at n : ℕ) (before after : List ℕ) → length after ≡ length before → at + n ≤ length before → ((p : ℕ) → (p < at) ⊎ (at + n ≤ p) → slice_index after p ≡ slice_index before p) → IsApart at n before after
apart_by at n before after size room same = record {
  size = size;
  front = ext_get_or 0 (take at after) (take at before) (length-take-le at after (omega arith) ∙ sym (length-take-le at before (omega arith))) (λ i h.
      let k : i < at = omega (arith, length-take-le at after (omega arith)) in
      get_or-take at after i 0 k ∙ same i (inl k) ∙ sym (get_or-take at before i 0 k));
  back = ext_get_or 0 (drop (at + n) after) (drop (at + n) before) (length-drop (at + n) after ∙ ap (λ m. m - (at + n)) size ∙ sym (length-drop (at + n) before)) (λ i h.
      get_or-drop (at + n) after i 0 ∙ same (at + n + i) (inr (omega arith)) ∙ sym (get_or-drop (at + n) before i 0));
}

pub nothing_apart : (at n : ℕ) (memory : List ℕ) → IsApart at n memory memory
nothing_apart at n memory = record { front = refl; back = refl; size = refl }

pub apart_again : (at n : ℕ) (a b c : List ℕ) → IsApart at n a b → IsApart at n b c → IsApart at n a c
apart_again at n a b c x y = record { front = y.front ∙ x.front; back = y.back ∙ x.back; size = y.size ∙ x.size }

pub only_none : (at : ℕ) (m : Machine) → OnlyTables at m m
only_none at m = record { rest = refl; tables = nothing_apart (512 * at) (512 * 580) m.memory }

-- a machine in which a longword is written
abbrev pub with_long : Machine → (place long : ℕ) → Machine
with_long m place long = record m { memory = overwritten m.memory place (long_bytes long) }

pub only_more : (at : ℕ) (m n : Machine) (place long : ℕ) → 512 * (at + 580) ≤ length n.memory → LiesWithin at place → OnlyTables at m n → OnlyTables at m (with_long n place long)
only_more at m n place long room l o =
    let w = written n.memory place long (omega (arith, l.back)) in
    record {
      rest = ap (λ (x : Machine). record x { memory = overwritten n.memory place (long_bytes long) }) o.rest;
      tables = apart_again (512 * at) (512 * 580) m.memory n.memory _ o.tables (apart_by (512 * at) (512 * 580) n.memory _ w.size (omega arith) (λ p h. w.other p (split h (λ a. inl (omega (arith, l.front))) (λ a. inr (omega (arith, l.back))))));
    }

-- dropping

between_none : (first n : ℕ) → is_between first first n ≡ false
between_none first n = split (cases_lt n first) (λ h. and_left _ _ (lt-leb first n h)) (λ h. and_right _ _ (le-ltb n first h))

pub drops_none : (at first : ℕ) (which : Dropped) (m : Machine) (reads : List (Option Source)) → DropsEntries at first first which m reads m reads
drops_none at first which m reads = record {
  only = only_none at m;
  whole = refl;
  each = λ n. sym (ap (λ b. unless_dropped (b && is_dropped which (remembered reads n)) (remembered reads n)) (between_none first n));
  keeps = λ pending opened s e f k. subst (λ r. Keeps pending opened m.memory (record s { reads = r })) f k;
}

between_here : (first n : ℕ) → is_between first n n ≡ false
between_here first n = and_right _ _ (le-ltb n n (omega arith))

between_next : (first n : ℕ) → first ≤ n → is_between first (n + 1) n ≡ true
between_next first n h = rw (le-leb first n h, lt-ltb n (n + 1) (omega arith)) refl

between_other : (first n k : ℕ) → k ≢ n → is_between first (n + 1) k ≡ is_between first n k
between_other first n k differ = ap (λ b. nat_le first k && b) (split (cases_lt k n)
    (λ h. lt-ltb k (n + 1) (omega arith) ∙ sym (lt-ltb k n h))
    (λ h. le-ltb k (n + 1) (more h) ∙ sym (le-ltb k n h)))
  where
    more : n ≤ k → n + 1 ≤ k
    more h = split (cases_lt n k) (λ q. omega arith) (λ q. absurd (differ (omega arith)))

-- the outcome of a scan is still what was recorded
still : (at first n : ℕ) (which : Dropped) (m m' : Machine) (reads reads' : List (Option Source)) → DropsEntries at first n which m reads m' reads' → remembered reads' n ≡ remembered reads n
still at first n which m m' reads reads' d = d.each n ∙ ap (λ b. unless_dropped (b && is_dropped which (remembered reads n)) (remembered reads n)) (between_here first n)

-- entries that aren't to be dropped are passed
pub drops_more : (at first n end : ℕ) (which : Dropped) (m m' : Machine) (reads reads' : List (Option Source)) → IsPast which reads' n end → DropsEntries at first n which m reads m' reads' → DropsEntries at first end which m reads m' reads'
drops_more at first n end which m m' reads reads' past d = record {
  only = d.only;
  whole = d.whole;
  keeps = d.keeps;
  each = λ k. split (cases_lt k n)
      (λ h. d.each k ∙ ap (λ b. unless_dropped (nat_le first k && b && is_dropped which (remembered reads k)) (remembered reads k)) (lt-ltb k n h ∙ sym (lt-ltb k end (omega (arith, past.order)))))
      (λ h.
      let same : remembered reads' k ≡ remembered reads k = d.each k ∙ ap (λ b. unless_dropped (b && is_dropped which (remembered reads k)) (remembered reads k)) (and_right (nat_le first k) _ (le-ltb k n h)) in
      split (cases_lt k end)
      (λ l. same ∙ sym (ap (λ b. unless_dropped b (remembered reads k)) (and_right (is_between first end k) _ (subst (λ x. is_dropped which x ≡ false) same (past.free k h l)))))
      (λ l. same ∙ sym (ap (λ b. unless_dropped (b && is_dropped which (remembered reads k)) (remembered reads k)) (and_right (nat_le first k) _ (le-ltb k end l)))));
}

pub drops_taken : (at first n place : ℕ) (which : Dropped) (m m' : Machine) (reads reads' : List (Option Source)) → first ≤ n → n < all_entries → length reads ≡ all_entries → 512 * (at + 580) ≤ length m'.memory → place ≡ entry_place at n → is_dropped which (remembered reads' n) ≡ true → DropsEntries at first n which m reads m' reads' → DropsEntries at first (n + 1) which m reads (with_long m' place empty_entry) (set reads' n None)
drops_taken at first n place which m m' reads reads' order h whole room is takes d =
    let l = place_within at n h in
    let w = written m'.memory (entry_place at n) empty_entry (omega (arith, l.back)) in
    rw is (record {
      only = only_more at m m' (entry_place at n) empty_entry room l d.only;
      whole = length-set reads' n None ∙ d.whole;
      keeps = λ pending opened s e f k.
          let s' : Shadowed = record s { reads = reads' } in
          let done = dropped pending opened m'.memory _ s' n (d.keeps pending opened s e f k) h (subst (λ x. IsWritten m'.memory (with_long m' (entry_place at n) empty_entry).memory (entry_place x n) empty_entry) (sym e) w) in
          done.keeps;
      each = λ k. split (cases_eq k n)
          (λ e. rw e (get_or-set_same reads' n None None (omega (arith, d.whole)) ∙ sym (ap (λ b. unless_dropped b (remembered reads n)) (ap (λ b. b && is_dropped which (remembered reads n)) (between_next first n order) ∙ subst (λ x. is_dropped which x ≡ true) (still at first n which m m' reads reads' d) takes))))
          (λ differ. get_or-set_other reads' n k None None differ ∙ d.each k ∙ sym (ap (λ b. unless_dropped (b && is_dropped which (remembered reads k)) (remembered reads k)) (between_other first n k differ)));
    })
