-- A scan that clears the modify bit of each real entry that maps a frame.
use Rattle.std.proofs.Common.{◌≡◌, ◌≢◌, ℕ, ◌+◌, ◌-◌, ◌*◌, ◌/◌, ◌%◌, ◌^◌, ◌<◌, ◌≤◌, ◌⊎◌, ◌==◌, Bool, true, false, List, [], length, Option, is_some, refl, ap, ◌∙◌, sym, subst, arith}
use Rattle.std.proofs.lemmas.Bool.{and_left, and_parts, both_ways, cases_eq, cases_lt, eqb-true, false_from_ne_true, false≢true}
use Rattle.vv_base.specs.Bytes.{long_at}
use Rattle.vax_arch.specs.Fields.{is_modified, is_valid}
use Rattle.vax_hw.specs.Machine.{Machine}
use Rattle.vm_shadow.specs.Layout.{all_entries, entry_place}
use Rattle.vm_shadow.specs.Shadowed.{Keeps, Shadowed, is_flagged, mapped_frame, own, read_at, real_at, seen_at, way_of}
use Rattle.vm_shadow.specs.Calls.{OnlyTables, closed_at, maps_open, remembered}
use Rattle.vm_shadow.specs.Marks.{IsPastIn, Shuts, flags_of, is_in}
use Rattle.vm_shadow.specs.declared.source.Source.{Source}
use Rattle.vm_shadow.specs.declared.source.Source.TheVariants.{System}
use Rattle.vm_shadow.proofs.Places.{place_within, places_apart, split}
use Rattle.vm_shadow.proofs.Writes.{IsWritten, long_kept, written}
use Rattle.vm_shadow.proofs.Changes.{closed, one_clear, some_kept}
use Rattle.vm_shadow.proofs.Scanning.{only_more, only_none, with_long}
use Rattle.vm_shadow.proofs.Ways.{flag_is}

pub shuts_none : (at base frame : ℕ) (ways : List ℕ) (m : Machine) (reads : List (Option Source)) → Shuts at base 0 frame ways m reads m
shuts_none at base frame ways m reads = record { only = only_none at m; keeps = λ s e f d k. k; same = λ n h x. refl; gone = λ s e f d w k n h v. absurd (omega arith) }

abbrev Gone : (base frame : ℕ) → (memory : List ℕ) → Shadowed → ℕ → Type 0
Gone base frame memory s n = is_valid (real_at memory s n) ≡ true → maps_open base (System frame) (real_at memory s n) ≡ false

-- an entry that isn't filled isn't valid
unfilled : (A : Type 0) (opened : List ℕ) (memory : List ℕ) (s : Shadowed) (n : ℕ) → Keeps [] opened memory s → n < all_entries → is_some (read_at s n) ≡ false → is_valid (real_at memory s n) ≡ true → A
unfilled A opened memory s n k h e v = absurd (false≢true (sym e ∙ some_kept (512 * s.pages) s.base (own memory s) [] (seen_at memory s n) (real_at memory s n) (read_at s n) (k.entries n h) v))

-- an entry in a group that isn't marked doesn't map the frame with its modify bit set
unmarked : (base frame : ℕ) (ways : List ℕ) (memory : List ℕ) (s : Shadowed) (n : ℕ) → Keeps [] [] memory s → s.base ≡ base → s.writable ≡ flags_of ways → n < all_entries → is_in (576 * frame + n / 128) ways ≡ false → Gone base frame memory s n
unmarked base frame ways memory s n k f w h none v = false_from_ne_true (maps_open base (System frame) (real_at memory s n)) (λ e.
    let p = and_parts (is_modified (real_at memory s n)) (frame == real_at memory s n % 2097152 - base) e in
    let same : frame ≡ real_at memory s n % 2097152 - base = eqb-true frame (real_at memory s n % 2097152 - base) p.1 in
    let mapped : mapped_frame s (real_at memory s n) ≡ frame = ap (λ b. real_at memory s n % 2097152 - b) f ∙ sym same in
    let way : is_flagged (way_of frame n) s.writable ≡ true = subst (λ x. is_flagged (way_of x n) s.writable ≡ true) mapped (k.writes n h v p.0) in
    both_ways (is_in (576 * frame + n / 128) ways) none (sym (flag_is ways (576 * frame + n / 128)) ∙ ap (is_flagged (576 * frame + n / 128)) (sym w) ∙ way))

-- entries that aren't filled, or in groups that aren't marked, are passed
pub shuts_more : (at base n end frame : ℕ) (ways : List ℕ) (m m' : Machine) (reads : List (Option Source)) → end ≤ all_entries → IsPastIn ways (576 * frame) reads n end → Shuts at base n frame ways m reads m' → Shuts at base end frame ways m reads m'
shuts_more at base n end frame ways m m' reads h past c = record {
  only = c.only;
  keeps = c.keeps;
  same = c.same;
  gone = λ s e f d w k j b. split (cases_lt j n)
      (λ l. c.gone s e f d w k j l)
      (λ l. split (past.free j l b)
      (λ none v. unfilled _ [] m'.memory s j (c.keeps s e f d k) (omega arith) (subst (λ r. is_some (remembered r j) ≡ false) (sym d) none) v)
      (λ none. unmarked base frame ways m'.memory s j (c.keeps s e f d k) f w (omega arith) none));
}

next_gone : (base frame : ℕ) (memory : List ℕ) (s : Shadowed) (end : ℕ) → ((n : ℕ) → n < end → Gone base frame memory s n) → Gone base frame memory s end → (n : ℕ) → n < end + 1 → Gone base frame memory s n
next_gone base frame memory s end old here n h = split (cases_eq n end) (λ e. subst (Gone base frame memory s) (sym e) here) (λ differ. old n (omega arith))

shuts_shut : (at base end place frame : ℕ) (ways : List ℕ) (m m' : Machine) (reads : List (Option Source)) → place ≡ entry_place at end → maps_open base (System frame) (long_at m'.memory place) ≡ false → Shuts at base end frame ways m reads m' → Shuts at base (end + 1) frame ways m reads m'
shuts_shut at base end place frame ways m m' reads is shut c = record {
  only = c.only;
  keeps = c.keeps;
  same = c.same;
  gone = λ s e f d w k. next_gone base frame m'.memory s end (c.gone s e f d w k) (λ v. subst (λ x. maps_open base (System frame) (long_at m'.memory x) ≡ false) (is ∙ ap (λ a. entry_place a end) (sym e)) shut);
}

shuts_one : (at base end place frame : ℕ) (ways : List ℕ) (m m' : Machine) (reads : List (Option Source)) → end < all_entries → 512 * (at + 580) ≤ length m'.memory → place ≡ entry_place at end → maps_open base (System frame) (long_at m'.memory place) ≡ true → Shuts at base end frame ways m reads m' → Shuts at base (end + 1) frame ways m reads (with_long m' place (long_at m'.memory place - 2 ^ 26))
shuts_one at base end place frame ways m m' reads h room is opens c =
    let l = place_within at end h in
    let w = written m'.memory place (long_at m'.memory place - 2 ^ 26) (omega (arith, l.back, is)) in
    let after = with_long m' place (long_at m'.memory place - 2 ^ 26) in
    let on : is_modified (long_at m'.memory place) ≡ true = (and_parts _ _ opens).0 in
    let off : is_modified (long_at m'.memory place - 2 ^ 26) ≡ false = one_clear (long_at m'.memory place) on in
    let done : (s : Shadowed) → s.at ≡ at → s.base ≡ base → s.reads ≡ reads → Keeps [] [] m.memory s → Keeps [] [] after.memory s × ((real_at after.memory s end ≡ long_at m'.memory place - 2 ^ 26) × ((k : ℕ) → k < all_entries → k ≢ end → real_at after.memory s k ≡ real_at m'.memory s k)) = λ s e f d k.
    let old = c.keeps s e f d k in
    let here : place ≡ entry_place s.at end = is ∙ ap (λ a. entry_place a end) (sym e) in
    let x : is_modified (real_at m'.memory s end) ≡ true = subst (λ p. is_modified (long_at m'.memory p) ≡ true) here on in
    let r = closed [] [] [] m'.memory after.memory s end old h x (λ k differ o. o) (subst (λ p. IsWritten m'.memory after.memory p (long_at m'.memory p - 2 ^ 26)) here w) in
    (r.0, (r.1.0 ∙ ap (λ p. long_at m'.memory p - 2 ^ 26) (sym here), r.1.1)) in
    let there : long_at after.memory (entry_place at end) ≡ long_at m'.memory place - 2 ^ 26 = ap (long_at after.memory) (sym is) ∙ w.is in
    record {
      only = subst (λ p. OnlyTables at m (with_long m' p (long_at m'.memory p - 2 ^ 26))) (sym is) (only_more at m m' (entry_place at end) _ room l c.only);
      keeps = λ s e f d k. (done s e f d k).0;
      same = λ n b x. split (cases_eq n end)
          (λ e. absurd (both_ways (is_modified (long_at after.memory (entry_place at n))) (ap (λ j. is_modified (long_at after.memory (entry_place at j))) e ∙ ap is_modified there ∙ off) x))
          (λ differ.
          let stays : long_at after.memory (entry_place at n) ≡ long_at m'.memory (entry_place at n) = long_kept m'.memory after.memory place (long_at m'.memory place - 2 ^ 26) (entry_place at n) w (subst (λ p. (entry_place at n + 4 ≤ p) ⊎ (p + 4 ≤ entry_place at n)) (sym is) (places_apart at end n (λ q. differ (sym q)))) in
          stays ∙ c.same n b (subst (λ y. is_modified y ≡ true) stays x));
      gone = λ s e f d u k.
          let r = done s e f d k in
          next_gone base frame after.memory s end
          (λ n b v.
          let same : real_at after.memory s n ≡ real_at m'.memory s n = r.1.1 n (omega arith) (λ q. omega arith) in
          subst (λ y. maps_open base (System frame) y ≡ false) (sym same) (c.gone s e f d u k n b (subst (λ y. is_valid y ≡ true) same v)))
          (λ v. subst (λ y. maps_open base (System frame) y ≡ false) (sym r.1.0) (and_left _ _ off));
    }

pub shuts_next : (at base end place frame : ℕ) (ways : List ℕ) (m m' : Machine) (reads : List (Option Source)) (b : Bool) → end < all_entries → 512 * (at + 580) ≤ length m'.memory → place ≡ entry_place at end → maps_open base (System frame) (long_at m'.memory place) ≡ b → Shuts at base end frame ways m reads m' → Shuts at base (end + 1) frame ways m reads (closed_at b m' place)
shuts_next at base end place frame ways m m' reads false h room is opens c = shuts_shut at base end place frame ways m m' reads is opens c
shuts_next at base end place frame ways m m' reads true h room is opens c = shuts_one at base end place frame ways m m' reads h room is opens c
