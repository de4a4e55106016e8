-- The kernel writes the guest's memory.
use Rattle.std.proofs.Common.{◌≡◌, ℕ, zero, suc, ◌+◌, ◌-◌, ◌*◌, ◌/◌, ◌%◌, ◌^◌, ◌<◌, ◌≤◌, ◌⊎◌, inl, inr, Bool, true, false, List, [], ◌∷◌, ◌++◌, length, set, take, drop, get_or, Option, refl, ap, ◌∙◌, sym, subst, arith}
use Rattle.std.proofs.lemmas.Bool.{cases_eq, cases_lt}
use Rattle.std.proofs.lemmas.List.{set_past}
use Rattle.std.proofs.lemmas.Nat.{le_bytes_4}
use Rattle.std.specs.Int.{from_le_bytes, to_le_bytes, w32}
use Rattle.std.proofs.lemmas.List.{append_assoc, ext_get_or, get_or-append_right, get_or-set_other, get_or-set_same, get_or_append_left, length-set, length-take-le}
use Rattle.vv_base.specs.Bytes.{long_at, long_bytes, overwritten}
use Rattle.vax_hw.specs.Machine.{Machine}
use Rattle.vm_shadow.specs.Shadowed.{Fits, Shadowed, is_read_from, own, read_at}
use Rattle.vm_shadow.specs.StandsFor.{Notes, Stores}
use Rattle.vm_shadow.specs.Calls.{unless_dropped}
use Rattle.vm_shadow.proofs.Places.{split}
use Rattle.vm_shadow.proofs.Filling.{byte_apart, own_apart}
use Rattle.vm_shadow.proofs.Scanning.{with_long}
use Rattle.vm_shadow.proofs.Stored.{IsFrameWritten, more_pending, stored}
use Rattle.vm_shadow.proofs.Writes.{written}
use Rattle.vm_state.specs.Partition.{part}
use Rattle.vm_state.specs.Translation.{long_stored}
use Rattle.vm_state.proofs.Parts.{part_byte, part_length}
use Rattle.vm_shadow.specs.declared.source.Source.{Source}

-- a byte of a part
pub part_set : (memory : List ℕ) (at size i v : ℕ) → at + size ≤ length memory → i < size → part (set memory (at + i) v) at size ≡ set (part memory at size) i v
part_set memory at size i v room h =
    let whole : length (part memory at size) ≡ size = part_length memory at size room in
    let now : length (part (set memory (at + i) v) at size) ≡ size = part_length (set memory (at + i) v) at size (omega (arith, length-set memory (at + i) v)) in
    ext_get_or 0 (part (set memory (at + i) v) at size) (set (part memory at size) i v) (now ∙ sym whole ∙ sym (length-set (part memory at size) i v)) (λ j b.
    let k : j < size = omega arith in
    part_byte (set memory (at + i) v) at size j k ∙ split (cases_eq j i)
    (λ e. ap (λ x. get_or (set memory (at + i) v) (at + x) 0) e ∙ get_or-set_same memory (at + i) v 0 (omega arith) ∙ sym (get_or-set_same (part memory at size) i v 0 (omega arith)) ∙ ap (λ x. get_or (set (part memory at size) i v) x 0) (sym e))
    (λ differ. get_or-set_other memory (at + i) (at + j) v 0 (λ e. differ (omega arith)) ∙ sym (part_byte memory at size j k) ∙ sym (get_or-set_other (part memory at size) i j v 0 differ)))

-- a longword is four bytes
over_byte : (memory : List ℕ) (at v k : ℕ) → at + 4 ≤ length memory → k < 4 → get_or (overwritten memory at (long_bytes v)) (at + k) 0 ≡ get_or (long_bytes v) k 0
over_byte memory at v k room h =
    let front : length (take at memory) ≡ at = length-take-le at memory (omega arith) in
    ap (λ xs. get_or xs (at + k) 0) (append_assoc (take at memory) (long_bytes v) (drop (at + 4) memory))
    ∙ get_or-append_right (take at memory) (long_bytes v ++ drop (at + 4) memory) at (at + k) 0 front (omega arith)
    ∙ ap (λ n. get_or (long_bytes v ++ drop (at + 4) memory) n 0) (omega arith)
    ∙ get_or_append_left (long_bytes v) (drop (at + 4) memory) 0 k h

pub four_sets : List ℕ → (at v : ℕ) → List ℕ
four_sets memory at v = set (set (set (set memory at (v % 256)) (at + 1) (v / 256 % 256)) (at + 2) (v / 65536 % 256)) (at + 3) (v / 16777216)

pub over_sets : (memory : List ℕ) (at v : ℕ) → at + 4 ≤ length memory → overwritten memory at (long_bytes v) ≡ four_sets memory at v
unfolding four_sets
over_sets memory at v room =
    let w = written memory at v room in
    let a = set memory at (v % 256) in
    let b = set a (at + 1) (v / 256 % 256) in
    let c = set b (at + 2) (v / 65536 % 256) in
    let la : length a ≡ length memory = length-set memory at (v % 256) in
    let lb : length b ≡ length a = length-set a (at + 1) (v / 256 % 256) in
    let lc : length c ≡ length b = length-set b (at + 2) (v / 65536 % 256) in
    let ld : length (set c (at + 3) (v / 16777216)) ≡ length c = length-set c (at + 3) (v / 16777216) in
    let e3 : get_or (set c (at + 3) (v / 16777216)) (at + 3) 0 ≡ v / 16777216 = get_or-set_same c (at + 3) (v / 16777216) 0 (omega arith) in
    let e2 : get_or (set c (at + 3) (v / 16777216)) (at + 2) 0 ≡ v / 65536 % 256 = get_or-set_other c (at + 3) (at + 2) _ 0 (λ e. omega arith) ∙ get_or-set_same b (at + 2) (v / 65536 % 256) 0 (omega arith) in
    let e1 : get_or (set c (at + 3) (v / 16777216)) (at + 1) 0 ≡ v / 256 % 256 = get_or-set_other c (at + 3) (at + 1) _ 0 (λ e. omega arith) ∙ get_or-set_other b (at + 2) (at + 1) _ 0 (λ e. omega arith) ∙ get_or-set_same a (at + 1) (v / 256 % 256) 0 (omega arith) in
    let e0 : get_or (set c (at + 3) (v / 16777216)) at 0 ≡ v % 256 = get_or-set_other c (at + 3) at _ 0 (λ e. omega arith) ∙ get_or-set_other b (at + 2) at _ 0 (λ e. omega arith) ∙ get_or-set_other a (at + 1) at _ 0 (λ e. omega arith) ∙ get_or-set_same memory at (v % 256) 0 (omega arith) in
    let other : (p : ℕ) → (p < at) ⊎ (at + 4 ≤ p) → get_or (set c (at + 3) (v / 16777216)) p 0 ≡ get_or memory p 0 = λ p h. get_or-set_other c (at + 3) p _ 0 (λ e. apart p 3 h (omega arith) e) ∙ get_or-set_other b (at + 2) p _ 0 (λ e. apart p 2 h (omega arith) e) ∙ get_or-set_other a (at + 1) p _ 0 (λ e. apart p 1 h (omega arith) e) ∙ get_or-set_other memory at p _ 0 (λ e. apart p 0 h (omega arith) (omega arith)) in
    ext_get_or 0 _ _ (w.size ∙ sym (ld ∙ lc ∙ lb ∙ la)) (λ i h. split (cases_lt i at)
    (λ low. w.other i (inl low) ∙ sym (other i (inl low)))
    (λ from. split (cases_lt i (at + 4))
    (λ within. here i from within e0 e1 e2 e3)
    (λ high. w.other i (inr high) ∙ sym (other i (inr high)))))
  where
    apart : (p k : ℕ) → (p < at) ⊎ (at + 4 ≤ p) → k < 4 → p ≡ at + k → ⊥
    apart p k (inl h) l e = omega arith
    apart p k (inr h) l e = omega arith

    four : (k : ℕ) → k < 4 → (k ≡ 0) ⊎ ((k ≡ 1) ⊎ ((k ≡ 2) ⊎ (k ≡ 3)))
    four zero h = inl refl
    four (suc zero) h = inr (inl refl)
    four (suc (suc zero)) h = inr (inr (inl refl))
    four (suc (suc (suc zero))) h = inr (inr (inr refl))
    four (suc (suc (suc (suc k)))) h = absurd (omega arith)

    here : (i : ℕ) → at ≤ i → i < at + 4 → get_or (four_sets memory at v) at 0 ≡ v % 256 → get_or (four_sets memory at v) (at + 1) 0 ≡ v / 256 % 256 → get_or (four_sets memory at v) (at + 2) 0 ≡ v / 65536 % 256 → get_or (four_sets memory at v) (at + 3) 0 ≡ v / 16777216 → get_or (overwritten memory at (long_bytes v)) i 0 ≡ get_or (four_sets memory at v) i 0
    here i from within e0 e1 e2 e3 = split (four (i - at) (omega arith))
        (λ k. let e : i ≡ at = omega arith in subst (λ x. get_or (overwritten memory at (long_bytes v)) x 0 ≡ get_or (four_sets memory at v) x 0) (sym e) (ap (λ x. get_or (overwritten memory at (long_bytes v)) x 0) (omega arith) ∙ over_byte memory at v 0 room (omega arith) ∙ sym e0))
        (λ r. split r
        (λ k. let e : i ≡ at + 1 = omega arith in subst (λ x. get_or (overwritten memory at (long_bytes v)) x 0 ≡ get_or (four_sets memory at v) x 0) (sym e) (over_byte memory at v 1 room (omega arith) ∙ sym e1))
        (λ r. split r
        (λ k. let e : i ≡ at + 2 = omega arith in subst (λ x. get_or (overwritten memory at (long_bytes v)) x 0 ≡ get_or (four_sets memory at v) x 0) (sym e) (over_byte memory at v 2 room (omega arith) ∙ sym e2))
        (λ k. let e : i ≡ at + 3 = omega arith in subst (λ x. get_or (overwritten memory at (long_bytes v)) x 0 ≡ get_or (four_sets memory at v) x 0) (sym e) (over_byte memory at v 3 room (omega arith) ∙ sym e3))))

-- four bytes of a part
pub part_sets : (memory : List ℕ) (at size pa v : ℕ) → at + size ≤ length memory → pa + 4 ≤ size → part (four_sets memory (at + pa) v) at size ≡ four_sets (part memory at size) pa v
unfolding four_sets
part_sets memory at size pa v room h =
    let b0 = v % 256 in let b1 = v / 256 % 256 in let b2 = v / 65536 % 256 in let b3 = v / 16777216 in
    let a = set memory (at + pa) b0 in
    let b = set a (at + pa + 1) b1 in
    let c = set b (at + pa + 2) b2 in
    let la : length a ≡ length memory = length-set memory (at + pa) b0 in
    let lb : length b ≡ length a = length-set a (at + pa + 1) b1 in
    let lc : length c ≡ length b = length-set b (at + pa + 2) b2 in
    let p0 : part a at size ≡ set (part memory at size) pa b0 = part_set memory at size pa b0 room (omega arith) in
    let p1 : part b at size ≡ set (part a at size) (pa + 1) b1 = ap (λ x. part (set a x b1) at size) (omega arith) ∙ part_set a at size (pa + 1) b1 (omega arith) (omega arith) in
    let p2 : part c at size ≡ set (part b at size) (pa + 2) b2 = ap (λ x. part (set b x b2) at size) (omega arith) ∙ part_set b at size (pa + 2) b2 (omega arith) (omega arith) in
    let p3 : part (set c (at + pa + 3) b3) at size ≡ set (part c at size) (pa + 3) b3 = ap (λ x. part (set c x b3) at size) (omega arith) ∙ part_set c at size (pa + 3) b3 (omega arith) (omega arith) in
    p3 ∙ ap (λ x. set x (pa + 3) b3) (p2 ∙ ap (λ x. set x (pa + 2) b2) (p1 ∙ ap (λ x. set x (pa + 1) b1) p0))

-- a longword stored is those
pub sets_stored : (memory : List ℕ) (pa v : ℕ) → pa + 4 ≤ 2 ^ 32 → v < 2 ^ 32 → four_sets memory pa v ≡ long_stored pa v memory
unfolding four_sets
sets_stored memory pa v h k =
    let a0 : pa % 2 ^ 32 ≡ pa = omega arith in
    let a1 : (pa + 1) % 2 ^ 32 ≡ pa + 1 = omega arith in
    let a2 : (pa + 1 + 1) % 2 ^ 32 ≡ pa + 2 = omega arith in
    let a3 : (pa + 1 + 1 + 1) % 2 ^ 32 ≡ pa + 3 = omega arith in
    let v2 : v / 256 / 256 % 256 ≡ v / 65536 % 256 = omega arith in
    let v3 : v / 256 / 256 / 256 % 256 ≡ v / 16777216 = omega arith in
    rw (a0, a1, a2, a3, v2, v3) refl

-- a byte written by its longword

abbrev four_of : List ℕ → ℕ → List ℕ
four_of memory at = get_or memory at 0 ∷ get_or memory (at + 1) 0 ∷ get_or memory (at + 2) 0 ∷ get_or memory (at + 3) 0 ∷ []

pub four_small : (memory : List ℕ) (at : ℕ) → ((p : ℕ) → get_or memory p 0 < 256) → (i : ℕ) → get_or (four_of memory at) i 0 < 256
four_small memory at small zero = small at
four_small memory at small (suc zero) = small (at + 1)
four_small memory at small (suc (suc zero)) = small (at + 2)
four_small memory at small (suc (suc (suc zero))) = small (at + 3)
four_small memory at small (suc (suc (suc (suc i)))) = omega arith

pub four_at : (memory : List ℕ) (at j : ℕ) → j < 4 → get_or (four_of memory at) j 0 ≡ get_or memory (at + j) 0
four_at memory at zero h = ap (λ x. get_or memory x 0) (omega arith)
four_at memory at (suc zero) h = refl
four_at memory at (suc (suc zero)) h = refl
four_at memory at (suc (suc (suc zero))) h = refl
four_at memory at (suc (suc (suc (suc j)))) h = absurd (omega arith)

pub long_from : (b0 b1 b2 b3 : ℕ) → b0 + 256 * b1 + 65536 * b2 + 16777216 * b3 ≡ from_le_bytes w32 (b0 ∷ b1 ∷ b2 ∷ b3 ∷ [])
long_from b0 b1 b2 b3 = grind arith

set_small : (bs : List ℕ) (k byte : ℕ) → byte < 256 → ((i : ℕ) → get_or bs i 0 < 256) → (i : ℕ) → get_or (set bs k byte) i 0 < 256
set_small bs k byte h small i = split (cases_eq i k)
    (λ e. split (cases_lt k (length bs))
    (λ l. subst (λ x. x < 256) (sym (ap (λ x. get_or (set bs k byte) x 0) e ∙ get_or-set_same bs k byte 0 l)) h)
    (λ l. subst (λ x. get_or x i 0 < 256) (sym (set_past bs k byte l)) (small i)))
    (λ n. subst (λ x. x < 256) (sym (get_or-set_other bs k i byte 0 n)) (small i))

low_first : (n : ℕ) → n < 2 ^ 32 → long_bytes n ≡ to_le_bytes w32 n
low_first n h = let e : n / 16777216 % 256 ≡ n / 16777216 = omega arith in rw e refl

pub byte_written : (memory : List ℕ) (at byte long n : ℕ) (bs : List ℕ) → at - at % 4 + 4 ≤ length memory → byte < 256 → n < 2 ^ 32 → ((p : ℕ) → get_or memory p 0 < 256) → long ≡ long_at memory (at - at % 4) → n ≡ from_le_bytes w32 bs → bs ≡ set (to_le_bytes w32 long) (at % 4) byte → overwritten memory (at - at % 4) (long_bytes n) ≡ set memory at byte
byte_written memory at byte long n bs room b small bytes is n_is bs_is =
    let q = at - at % 4 in
    let k = at % 4 in
    let four = four_of memory q in
    let l : to_le_bytes w32 long ≡ four = ap (to_le_bytes w32) is ∙ le_bytes_4 four (long_at memory q) refl (four_small memory q bytes) (long_from (get_or memory q 0) (get_or memory (q + 1) 0) (get_or memory (q + 2) 0) (get_or memory (q + 3) 0)) in
    let bs_four : bs ≡ set four k byte = bs_is ∙ ap (λ x. set x k byte) l in
    let new : long_bytes n ≡ set four k byte = low_first n small ∙ le_bytes_4 (set four k byte) n (length-set four k byte) (set_small four k byte b (four_small memory q bytes)) (n_is ∙ ap (from_le_bytes w32) bs_four) in
    let w = written memory q n room in
    ext_get_or 0 (overwritten memory q (long_bytes n)) (set memory at byte) (w.size ∙ sym (length-set memory at byte)) (λ i h. split (cases_lt i q)
    (λ low. w.other i (inl low) ∙ sym (get_or-set_other memory at i byte 0 (λ e. omega arith)))
    (λ from. split (cases_lt i (q + 4))
    (λ within.
    let j = i - q in
    let e : q + j ≡ i = omega arith in
    let there : get_or (overwritten memory q (long_bytes n)) i 0 ≡ get_or (set four k byte) j 0 = ap (λ x. get_or (overwritten memory q (long_bytes n)) x 0) (sym e) ∙ over_byte memory q n j room (omega arith) ∙ ap (λ x. get_or x j 0) new in
    there ∙ split (cases_eq i at)
    (λ same. let jk : j ≡ k = omega arith in ap (λ x. get_or (set four k byte) x 0) jk ∙ get_or-set_same four k byte 0 (omega arith) ∙ sym (ap (λ x. get_or (set memory at byte) x 0) same ∙ get_or-set_same memory at byte 0 (omega arith)))
    (λ differ. get_or-set_other four k j byte 0 (λ same. differ (omega arith)) ∙ four_at memory q j (omega arith) ∙ ap (λ x. get_or memory x 0) e ∙ sym (get_or-set_other memory at i byte 0 differ)))
    (λ high. w.other i (inr high) ∙ sym (get_or-set_other memory at i byte 0 (λ e. omega arith)))))

-- The kernel's write, after the note of its frame.

gone_from : (frame : ℕ) (x : Option Source) → is_read_from frame (unless_dropped (is_read_from frame x) x) ≡ false
gone_from frame x = by (is_read_from frame x) x refl
  where
    by : (b : Bool) (x : Option Source) → b ≡ is_read_from frame x → is_read_from frame (unless_dropped b x) ≡ false
    by true x e = refl
    by false x e = sym e

own_rest : (memory : List ℕ) (s s1 : Shadowed) → s1 ≡ record s { reads = s1.reads; consulted = s1.consulted } → own memory s1 ≡ own memory s
own_rest memory s s1 e = ap (own memory) e

pub stores : (pa : ℕ) (change : List ℕ → List ℕ) (m m1 : Machine) (s s1 : Shadowed) (after : List ℕ) → Fits m.memory s → pa < 512 * s.pages → Notes (pa / 512) m s m1 s1 → IsFrameWritten (s.base + pa / 512) m1.memory after → own after s ≡ change (own m1.memory s) → Stores pa (change (own m.memory s)) m s (record m1 { memory = after }) s1
stores pa change m m1 s s1 after f inside n w is =
    let frame = pa / 512 in
    let rest = n.drops.rest in
    let base : s1.base ≡ s.base = ap (λ (x : Shadowed). x.base) rest in
    let pages : s1.pages ≡ s.pages = ap (λ (x : Shadowed). x.pages) rest in
    let kept_own : own m1.memory s ≡ own m.memory s = own_apart m.memory m1.memory s f n.only.tables in
    let size : length m1.memory ≡ length m.memory = n.only.tables.size in
    record {
      keeps = λ pending opened k.
          stored pending opened m1.memory after s1 frame (n.keeps pending opened (more_pending frame pending opened m.memory s k)) (subst (λ x. frame < x) (sym pages) (omega arith)) (subst (λ b. IsFrameWritten (b + frame) m1.memory after) (sym base) w)
          (λ i h p. subst (λ x. is_read_from frame x ≡ false) (sym (n.drops.each i)) (gone_from frame (read_at s i)));
      own = own_rest after s s1 rest ∙ is ∙ ap change kept_own;
      drops = n.drops;
      only = record {
        rest = ap (λ (x : Machine). record x { memory = after }) n.only.rest;
        size = w.size ∙ size;
        other = λ p outside beyond. w.other p (split outside (λ h. inl (omega arith)) (λ h. inr (omega arith))) ∙ byte_apart (512 * s.at) (512 * 580) m.memory m1.memory p n.only.tables (split beyond (λ h. inl h) (λ h. inr (omega arith)));
      };
    }

-- a byte's and a longword's write lie in one frame
pub byte_in_frame : (memory : List ℕ) (base pa byte : ℕ) → IsFrameWritten (base + pa / 512) memory (set memory (512 * base + pa) byte)
byte_in_frame memory base pa byte = record {
  size = length-set memory (512 * base + pa) byte;
  other = λ p h. get_or-set_other memory (512 * base + pa) p byte 0 (λ e. apart p h e);
}
  where
    apart : (p : ℕ) → (p < 512 * (base + pa / 512)) ⊎ (512 * (base + pa / 512) + 512 ≤ p) → p ≡ 512 * base + pa → ⊥
    apart p (inl h) e = omega arith
    apart p (inr h) e = omega arith

pub long_in_frame : (memory : List ℕ) (base pa long : ℕ) → pa % 4 ≡ 0 → 512 * base + pa + 4 ≤ length memory → IsFrameWritten (base + pa / 512) memory (overwritten memory (512 * base + pa) (long_bytes long))
long_in_frame memory base pa long aligned room =
    let w = written memory (512 * base + pa) long room in
    record { size = w.size; other = λ p h. w.other p (split h (λ a. inl (omega arith)) (λ a. inr (omega arith))) }

pub long_of_own : (memory : List ℕ) (s : Shadowed) (pa long : ℕ) → 512 * s.base + 512 * s.pages ≤ length memory → s.pages ≤ 2048 → pa + 4 ≤ 512 * s.pages → long < 2 ^ 32 → own (overwritten memory (512 * s.base + pa) (long_bytes long)) s ≡ long_stored pa long (own memory s)
long_of_own memory s pa long room few h k =
    ap (λ x. own x s) (over_sets memory (512 * s.base + pa) long (omega arith)) ∙ part_sets memory (512 * s.base) (512 * s.pages) pa long room h ∙ sets_stored (own memory s) pa long (omega arith) k

pub byte_of_own : (memory : List ℕ) (s : Shadowed) (pa byte : ℕ) → 512 * s.base + 512 * s.pages ≤ length memory → pa < 512 * s.pages → own (set memory (512 * s.base + pa) byte) s ≡ set (own memory s) pa byte
byte_of_own memory s pa byte room h = part_set memory (512 * s.base) (512 * s.pages) pa byte room h

-- as the code has them
pub stores_long : (pa long : ℕ) (m m1 m2 : Machine) (s s1 inside : Shadowed) → Fits m.memory s → pa % 4 ≡ 0 → pa + 4 ≤ 512 * s.pages → long < 2 ^ 32 → Notes (pa / 512) m s m1 s1 → inside ≡ s1 → m2 ≡ with_long m1 (512 * inside.base + pa) long → Stores pa (long_stored pa long (own m.memory s)) m s m2 s1
stores_long pa long m m1 m2 s s1 inside f aligned within small n view write =
    let base : inside.base ≡ s.base = ap (λ (x : Shadowed). x.base) (view ∙ n.drops.rest) in
    let room : 512 * s.base + 512 * s.pages ≤ length m1.memory = omega (arith, f.partition, n.only.tables.size) in
    subst (λ x. Stores pa (long_stored pa long (own m.memory s)) m s x s1) (sym (write ∙ ap (λ b. with_long m1 (512 * b + pa) long) base))
    (stores pa (long_stored pa long) m m1 s s1 (overwritten m1.memory (512 * s.base + pa) (long_bytes long)) f (omega arith) n (long_in_frame m1.memory s.base pa long aligned (omega arith)) (long_of_own m1.memory s pa long room f.small within small))

pub stores_byte : (pa byte : ℕ) (m m1 m2 : Machine) (s s1 inside : Shadowed) → Fits m.memory s → pa < 512 * s.pages → Notes (pa / 512) m s m1 s1 → inside ≡ s1 → m2 ≡ record m1 { memory = set m1.memory (512 * inside.base + pa) byte } → Stores pa (set (own m.memory s) pa byte) m s m2 s1
stores_byte pa byte m m1 m2 s s1 inside f within n view write =
    let base : inside.base ≡ s.base = ap (λ (x : Shadowed). x.base) (view ∙ n.drops.rest) in
    let room : 512 * s.base + 512 * s.pages ≤ length m1.memory = omega (arith, f.partition, n.only.tables.size) in
    subst (λ x. Stores pa (set (own m.memory s) pa byte) m s x s1) (sym (write ∙ ap (λ b. record m1 { memory = set m1.memory (512 * b + pa) byte }) base))
    (stores pa (λ x. set x pa byte) m m1 s s1 (set m1.memory (512 * s.base + pa) byte) f within n (byte_in_frame m1.memory s.base pa byte) (byte_of_own m1.memory s pa byte room within))
