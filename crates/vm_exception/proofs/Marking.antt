-- Modify bits are set, and bytes are written to their homes.
use Rattle.std.proofs.Common.{◌≡◌, ◌≢◌, ℕ, zero, suc, ◌+◌, ◌-◌, ◌*◌, ◌/◌, ◌%◌, ◌^◌, ◌<◌, ◌≤◌, ◌⊎◌, inl, inr, Bool, true, false, not, cond, eqb, List, [], ◌∷◌, ◌++◌, length, map, take, drop, set, get_or, slice_index, Option, Some, None, refl, ap, ◌∙◌, sym, subst, arith}
use Rattle.std.proofs.lemmas.Bool.{cases_Bool, cases_eq, cases_lt, eqb-false, false≢true, or_left, or_right, true≢false}
use Rattle.std.proofs.lemmas.List.{get_or-set_other, get_or-set_same, length-set, map-append, set-get_or, take_more, take_all}
use Rattle.vv_base.specs.Bytes.{long_at}
use Rattle.vax_arch.specs.Fields.{is_modified}
use Rattle.vax_arch.specs.Walk.{with_modify}
use Rattle.vax_hw.specs.Machine.{Machine}
use Rattle.vm_exception.specs.Pushed.{home_of}
use Rattle.vm_exception.specs.Wrote.{AreHomes, IsEntryPlace, IsHome, PutsHomes, Wrote, frames_of}
use Rattle.vm_exception.specs.declared.pushes.Home.{Home}
use Rattle.vm_exception.proofs.Writing.{Among, wrote_as, wrote_none, wrote_one, wrote_then}
use Rattle.vm_shadow.proofs.Writes.{long_by}
use Rattle.vm_shadow.specs.Shadowed.{Fits, Keeps, Shadowed, is_pending, is_read_from, own}
use Rattle.vm_shadow.specs.StandsFor.{Stores}
use Rattle.vm_shadow.specs.declared.source.Source.{Source}
use Rattle.vm_shadow.proofs.Covering.{own_length}
use Rattle.vm_state.specs.Pushes as pushes
use Rattle.vm_state.specs.Pushes.{all_marked, all_put, frames_pushed, mark_written, marked_at, pushed}
use Rattle.vm_state.specs.Translation.{frame_at, long_stored, marked}
use Rattle.vm_state.proofs.Parts.{part_byte, part_long}
use Rattle.vm_state.proofs.Sizes.{marked_size}

split : {A B C : Type 0} → A ⊎ B → (A → C) → (B → C) → C
split (inl a) f g = f a
split (inr b) f g = g b

-- A longword stored.

abbrev four : List ℕ → (at v : ℕ) → List ℕ
four memory at v = set (set (set (set memory at (v % 256)) (at + 1) (v / 256 % 256)) (at + 2) (v / 256 / 256 % 256)) (at + 3) (v / 256 / 256 / 256 % 256)

stored_four : (memory : List ℕ) (at v : ℕ) → at + 4 ≤ 2 ^ 32 → long_stored at v memory ≡ four memory at v
stored_four memory at v h =
    let a0 : at % 2 ^ 32 ≡ at = omega arith in
    let a1 : (at + 1) % 2 ^ 32 ≡ at + 1 = omega arith in
    let a2 : (at + 1 + 1) % 2 ^ 32 ≡ at + 2 = omega arith in
    let a3 : (at + 1 + 1 + 1) % 2 ^ 32 ≡ at + 3 = omega arith in
    rw (a0, a1, a2, a3) refl

four_other : (memory : List ℕ) (at v p : ℕ) → (p < at) ⊎ (at + 4 ≤ p) → slice_index (four memory at v) p ≡ slice_index memory p
four_other memory at v p h = get_or-set_other _ (at + 3) p _ 0 (λ e. apart 3 (omega arith) e) ∙ get_or-set_other _ (at + 2) p _ 0 (λ e. apart 2 (omega arith) e) ∙ get_or-set_other _ (at + 1) p _ 0 (λ e. apart 1 (omega arith) e) ∙ get_or-set_other memory at p _ 0 (λ e. apart 0 (omega arith) (omega arith))
  where
    apart : (k : ℕ) → k < 4 → p ≡ at + k → ⊥
    apart k l e = split h (λ a. absurd (omega arith)) (λ b. absurd (omega arith))

-- its bytes
four_bytes : (memory : List ℕ) (at v : ℕ) → at + 4 ≤ length memory → (get_or (four memory at v) at 0 ≡ v % 256) × (get_or (four memory at v) (at + 1) 0 ≡ v / 256 % 256) × (get_or (four memory at v) (at + 2) 0 ≡ v / 256 / 256 % 256) × (get_or (four memory at v) (at + 3) 0 ≡ v / 256 / 256 / 256 % 256)
four_bytes memory at v room =
    let b0 = v % 256 in let b1 = v / 256 % 256 in let b2 = v / 256 / 256 % 256 in let b3 = v / 256 / 256 / 256 % 256 in
    let a = set memory at b0 in
    let b = set a (at + 1) b1 in
    let c = set b (at + 2) b2 in
    let la : length a ≡ length memory = length-set memory at b0 in
    let lb : length b ≡ length a = length-set a (at + 1) b1 in
    let lc : length c ≡ length b = length-set b (at + 2) b2 in
    let e3 : get_or (set c (at + 3) b3) (at + 3) 0 ≡ b3 = get_or-set_same c (at + 3) b3 0 (omega arith) in
    let e2 : get_or (set c (at + 3) b3) (at + 2) 0 ≡ b2 = get_or-set_other c (at + 3) (at + 2) b3 0 (λ e. omega arith) ∙ get_or-set_same b (at + 2) b2 0 (omega arith) in
    let e1 : get_or (set c (at + 3) b3) (at + 1) 0 ≡ b1 = get_or-set_other c (at + 3) (at + 1) b3 0 (λ e. omega arith) ∙ get_or-set_other b (at + 2) (at + 1) b2 0 (λ e. omega arith) ∙ get_or-set_same a (at + 1) b1 0 (omega arith) in
    let e0 : get_or (set c (at + 3) b3) at 0 ≡ b0 = get_or-set_other c (at + 3) at b3 0 (λ e. omega arith) ∙ get_or-set_other b (at + 2) at b2 0 (λ e. omega arith) ∙ get_or-set_other a (at + 1) at b1 0 (λ e. omega arith) ∙ get_or-set_same memory at b0 0 (omega arith) in
    (e0, e1, e2, e3)

four_here : (memory : List ℕ) (at v : ℕ) → at + 4 ≤ length memory → long_at (four memory at v) at ≡ v % 2 ^ 32
four_here memory at v room =
    let e = four_bytes memory at v room in
    (λ i. e.0 i + 256 * e.1 i + 65536 * e.2 i + 16777216 * e.3 i) ∙ omega arith

-- A modify bit that is set stays set.

modify_set : (v : ℕ) → is_modified (with_modify v % 2 ^ 32) ≡ true
modify_set v = split (cases_Bool (is_modified v))
    (λ on. ap (λ b. is_modified (cond b v (v + 2 ^ 26) % 2 ^ 32)) on ∙ wrapped v on)
    (λ off. ap (λ b. is_modified (cond b v (v + 2 ^ 26) % 2 ^ 32)) off ∙ added v off)
  where
    wrapped : (v : ℕ) → is_modified v ≡ true → is_modified (v % 2 ^ 32) ≡ true
    wrapped v e = let k : v % 2 ^ 32 / 2 ^ 26 % 2 ≡ v / 2 ^ 26 % 2 = omega arith in ap (λ x. eqb x 1) k ∙ e

    added : (v : ℕ) → is_modified v ≡ false → is_modified ((v + 2 ^ 26) % 2 ^ 32) ≡ true
    added v e = let n : v / 2 ^ 26 % 2 ≢ 1 = eqb-false (v / 2 ^ 26 % 2) 1 e in let k : (v + 2 ^ 26) % 2 ^ 32 / 2 ^ 26 % 2 ≡ 1 = bit v n in ap (λ x. eqb x 1) k
      where
        bit : (v : ℕ) → v / 2 ^ 26 % 2 ≢ 1 → (v + 2 ^ 26) % 2 ^ 32 / 2 ^ 26 % 2 ≡ 1
        bit v n = grind arith

pub one_stays : (memory : List ℕ) (p q : ℕ) → p % 4 ≡ 0 → q % 4 ≡ 0 → q + 4 ≤ length memory → q + 4 ≤ 2 ^ 32 → is_modified (long_at memory p) ≡ true → is_modified (long_at (marked q memory) p) ≡ true
one_stays memory p q a b room small on = split (cases_eq p q)
    (λ e. subst (λ x. is_modified (long_at (marked q memory) x) ≡ true) (sym e) (ap (λ m. is_modified (long_at m q)) (stored_four memory q (with_modify (long_at memory q)) small) ∙ ap is_modified (four_here memory q (with_modify (long_at memory q)) room) ∙ modify_set (long_at memory q)))
    (λ differ. ap (λ m. is_modified (long_at m p)) (stored_four memory q (with_modify (long_at memory q)) small) ∙ ap is_modified (long_by memory (four memory q (with_modify (long_at memory q))) p (λ i h k. four_other memory q (with_modify (long_at memory q)) i (beside i h k differ))) ∙ on)
  where
    beside : (i : ℕ) → p ≤ i → i < p + 4 → p ≢ q → (i < q) ⊎ (q + 4 ≤ i)
    beside i h k differ = split (cases_lt p q) (λ l. inl (omega arith)) (λ l. split (cases_lt q p) (λ m. inr (omega arith)) (λ m. absurd (differ (omega arith))))

at_size : (x : Option ℕ) (memory : List ℕ) → length (marked_at x memory) ≡ length memory
at_size None memory = refl
at_size (Some place) memory = marked_size place memory

at_stays : (x : Option ℕ) (memory : List ℕ) (p : ℕ) → p % 4 ≡ 0 → length memory ≤ 2 ^ 32 → IsEntryPlace (length memory) x → is_modified (long_at memory p) ≡ true → is_modified (long_at (marked_at x memory) p) ≡ true
at_stays None memory p a few is on = on
at_stays (Some q) memory p a few is on = one_stays memory p q a is.0 is.1 (omega (arith, is.1)) on

pub all_stay : (hs : List pushes.Home) (memory : List ℕ) (p : ℕ) → p % 4 ≡ 0 → length memory ≤ 2 ^ 32 → AreHomes (length memory) hs → is_modified (long_at memory p) ≡ true → is_modified (long_at (all_marked hs memory) p) ≡ true
all_stay [] memory p a few are on = on
all_stay (h ∷ hs) memory p a few are on = all_stay hs (marked_at h.entry memory) p a (omega (arith, at_size h.entry memory)) (subst (λ n. AreHomes n hs) (sym (at_size h.entry memory)) are.1) (at_stays h.entry memory p a few are.0.1 on)

-- the frame of an entry whose bit was clear is among those written
mark_among : (memory now : List ℕ) (place : ℕ) (x : Option Source) → (is_modified (long_at memory place) ≡ true → is_modified (long_at now place) ≡ true) → is_pending (mark_written now (Some place)) x ≡ true → is_pending (mark_written memory (Some place)) x ≡ true
mark_among memory now place x stays e = split (cases_Bool (is_modified (long_at memory place)))
    (λ on. let none : is_pending (mark_written now (Some place)) x ≡ false = ap (λ b. is_pending (cond (not b) (frame_at place ∷ []) []) x) (stays on) in absurd (true≢false (sym e ∙ none)))
    (λ off. split (cases_Bool (is_modified (long_at now place)))
    (λ on. let none : is_pending (mark_written now (Some place)) x ≡ false = ap (λ b. is_pending (cond (not b) (frame_at place ∷ []) []) x) on in absurd (true≢false (sym e ∙ none)))
    (λ clear. ap (λ b. is_pending (cond (not b) (frame_at place ∷ []) []) x) off ∙ sym (ap (λ b. is_pending (cond (not b) (frame_at place ∷ []) []) x) clear) ∙ e))

pub pending_append : (fs gs : List ℕ) (x : Option Source) → (is_pending fs x ≡ true) ⊎ (is_pending gs x ≡ true) → is_pending (fs ++ gs) x ≡ true
pending_append [] gs x (inl e) = absurd (false≢true e)
pending_append [] gs x (inr e) = e
pending_append (f ∷ fs) gs x h = split (cases_Bool (is_read_from f x))
    (λ on. or_left _ _ on)
    (λ off. or_right _ _ (pending_append fs gs x (split h (λ e. inl (sym (ap (λ b. Rattle.std.specs.Prelude.◌||◌ b (is_pending fs x)) off) ∙ e)) (λ e. inr e))))

pub mark_of : (memory : List ℕ) (hs : List pushes.Home) (i : ℕ) (h : pushes.Home) (x : Option Source) → i < length hs → get_or hs i h ≡ h → is_pending (mark_written memory h.entry) x ≡ true → is_pending (frames_pushed memory hs) x ≡ true
mark_of memory [] i h x l e p = absurd (omega arith)
mark_of memory (k ∷ ks) zero h x l e p = pending_append (mark_written memory k.entry) (frame_at k.place ∷ frames_pushed memory ks) x (inl (subst (λ (y : pushes.Home). is_pending (mark_written memory y.entry) x ≡ true) (sym e) p))
mark_of memory (k ∷ ks) (suc i) h x l e p = pending_append (mark_written memory k.entry) (frame_at k.place ∷ frames_pushed memory ks) x (inr (or_right _ _ (mark_of memory ks i h x (omega arith) e p)))

pub frames_among : (memory : List ℕ) (hs : List pushes.Home) → Among (frames_of hs) (frames_pushed memory hs)
frames_among memory [] x p = p
frames_among memory (k ∷ ks) x p = pending_append (mark_written memory k.entry) (frame_at k.place ∷ frames_pushed memory ks) x (inr (split (cases_Bool (is_read_from (frame_at k.place) x))
    (λ on. or_left _ _ on)
    (λ off. or_right _ _ (frames_among memory ks x (sym (ap (λ b. Rattle.std.specs.Prelude.◌||◌ b (is_pending (frames_of ks) x)) off) ∙ p)))))

-- One entry is marked.

own_few : (memory : List ℕ) (s : Shadowed) → Fits memory s → length (own memory s) ≤ 2 ^ 32
own_few memory s f = omega (arith, own_length memory s f, f.small)

entry_own : (memory : List ℕ) (s : Shadowed) (base place entry : ℕ) → s.base ≡ base → place + 4 ≤ 512 * s.pages → entry ≡ long_at memory (512 * base + place) → entry ≡ long_at (own memory s) place
entry_own memory s base place entry e inside is = is ∙ ap (λ b. long_at memory (512 * b + place)) (sym e) ∙ sym (part_long memory (512 * s.base) (512 * s.pages) place inside)

pub mark_one : (m m' : Machine) (s s' : Shadowed) (base place entry : ℕ) → s.base ≡ base → place + 4 ≤ 512 * s.pages → entry ≡ long_at m.memory (512 * base + place) → is_modified entry ≡ false → Stores place (long_stored place (entry + 2 ^ 26) (own m.memory s)) m s m' s' → Wrote (mark_written (own m.memory s) (Some place)) (marked place (own m.memory s)) m s m' s'
mark_one m m' s s' base place entry e inside is off st =
    let same : entry ≡ long_at (own m.memory s) place = entry_own m.memory s base place entry e inside is in
    let clear : is_modified (long_at (own m.memory s) place) ≡ false = subst (λ x. is_modified x ≡ false) same off in
    let value : entry + 2 ^ 26 ≡ with_modify (long_at (own m.memory s) place) = ap (λ x. x + 2 ^ 26) same ∙ sym (ap (λ b. cond b (long_at (own m.memory s) place) (long_at (own m.memory s) place + 2 ^ 26)) clear) in
    subst (λ fs. Wrote fs (marked place (own m.memory s)) m s m' s') (sym (ap (λ b. cond (not b) (frame_at place ∷ []) []) clear)) (wrote_as (place / 512 ∷ []) _ (marked place (own m.memory s)) m m' s s' (ap (λ v. long_stored place v (own m.memory s)) value) (wrote_one place _ m m' s s' st))

four_same : (memory : List ℕ) (at : ℕ) → get_or memory at 0 < 256 → get_or memory (at + 1) 0 < 256 → get_or memory (at + 2) 0 < 256 → get_or memory (at + 3) 0 < 256 → four memory at (long_at memory at) ≡ memory
four_same memory at h0 h1 h2 h3 =
    let b0 = get_or memory at 0 in let b1 = get_or memory (at + 1) 0 in let b2 = get_or memory (at + 2) 0 in let b3 = get_or memory (at + 3) 0 in
    let v0 : long_at memory at % 256 ≡ b0 = parts0 b0 b1 b2 b3 h0 in
    let v1 : long_at memory at / 256 % 256 ≡ b1 = parts1 b0 b1 b2 b3 h0 h1 in
    let v2 : long_at memory at / 256 / 256 % 256 ≡ b2 = parts2 b0 b1 b2 b3 h0 h1 h2 in
    let v3 : long_at memory at / 256 / 256 / 256 % 256 ≡ b3 = parts3 b0 b1 b2 b3 h0 h1 h2 h3 in
    (λ i. set (set (set (set memory at (v0 i)) (at + 1) (v1 i)) (at + 2) (v2 i)) (at + 3) (v3 i))
    ∙ ap (λ x. set (set (set x (at + 1) b1) (at + 2) b2) (at + 3) b3) (set-get_or memory at 0)
    ∙ ap (λ x. set (set x (at + 2) b2) (at + 3) b3) (set-get_or memory (at + 1) 0)
    ∙ ap (λ x. set x (at + 3) b3) (set-get_or memory (at + 2) 0)
    ∙ set-get_or memory (at + 3) 0
  where
    parts0 : (b0 b1 b2 b3 : ℕ) → b0 < 256 → (b0 + 256 * b1 + 65536 * b2 + 16777216 * b3) % 256 ≡ b0
    parts0 b0 b1 b2 b3 h0 = omega arith

    parts1 : (b0 b1 b2 b3 : ℕ) → b0 < 256 → b1 < 256 → (b0 + 256 * b1 + 65536 * b2 + 16777216 * b3) / 256 % 256 ≡ b1
    parts1 b0 b1 b2 b3 h0 h1 = omega arith

    parts2 : (b0 b1 b2 b3 : ℕ) → b0 < 256 → b1 < 256 → b2 < 256 → (b0 + 256 * b1 + 65536 * b2 + 16777216 * b3) / 256 / 256 % 256 ≡ b2
    parts2 b0 b1 b2 b3 h0 h1 h2 = omega arith

    parts3 : (b0 b1 b2 b3 : ℕ) → b0 < 256 → b1 < 256 → b2 < 256 → b3 < 256 → (b0 + 256 * b1 + 65536 * b2 + 16777216 * b3) / 256 / 256 / 256 % 256 ≡ b3
    parts3 b0 b1 b2 b3 h0 h1 h2 h3 = omega arith

own_bytes : (memory : List ℕ) (s : Shadowed) → ((p : ℕ) → slice_index memory p < 256) → (p : ℕ) → slice_index (own memory s) p < 256
own_bytes memory s small p = split (cases_lt p (512 * s.pages))
    (λ h. subst (λ x. x < 256) (sym (part_byte memory (512 * s.base) (512 * s.pages) p h)) (small (512 * s.base + p)))
    (λ h. past (take (512 * s.pages) (drop (512 * s.base) memory)) p (omega (arith, Rattle.std.proofs.lemmas.List.length-take (512 * s.pages) (drop (512 * s.base) memory))))
  where
    past : (xs : List ℕ) (p : ℕ) → length xs ≤ p → slice_index xs p < 256
    past [] p h = omega arith
    past (x ∷ xs) zero h = absurd (omega arith)
    past (x ∷ xs) (suc p) h = past xs p (omega arith)

pub mark_none : (m : Machine) (s : Shadowed) (base place entry : ℕ) → Keeps [] [] m.memory s → s.base ≡ base → place + 4 ≤ 512 * s.pages → entry ≡ long_at m.memory (512 * base + place) → ((p : ℕ) → slice_index m.memory p < 256) → is_modified entry ≡ true → Wrote (mark_written (own m.memory s) (Some place)) (marked place (own m.memory s)) m s m s
mark_none m s base place entry k e inside is small on =
    let f = k.fits in
    let same : entry ≡ long_at (own m.memory s) place = entry_own m.memory s base place entry e inside is in
    let set_ : is_modified (long_at (own m.memory s) place) ≡ true = subst (λ x. is_modified x ≡ true) same on in
    let value : with_modify (long_at (own m.memory s) place) ≡ long_at (own m.memory s) place = ap (λ b. cond b (long_at (own m.memory s) place) (long_at (own m.memory s) place + 2 ^ 26)) set_ in
    let byte = own_bytes m.memory s small in
    let same_own : four (own m.memory s) place (long_at (own m.memory s) place) ≡ own m.memory s = four_same (own m.memory s) place (byte place) (byte (place + 1)) (byte (place + 2)) (byte (place + 3)) in
    let memory : own m.memory s ≡ marked place (own m.memory s) = sym (ap (λ v. long_stored place v (own m.memory s)) value ∙ stored_four (own m.memory s) place (long_at (own m.memory s) place) (omega (arith, f.small)) ∙ same_own) in
    subst (λ fs. Wrote fs (marked place (own m.memory s)) m s m s) (sym (ap (λ b. cond (not b) (frame_at place ∷ []) []) set_)) (wrote_as [] (own m.memory s) (marked place (own m.memory s)) m m s s memory (wrote_none [] m s))

-- A modify bit that is set twice is set once.
marked_twice : (place : ℕ) (memory : List ℕ) → place + 4 ≤ length memory → length memory ≤ 2 ^ 32 → marked place (marked place memory) ≡ marked place memory
marked_twice place memory room few =
    let w = with_modify (long_at memory place) in
    let once = four memory place w in
    let is : marked place memory ≡ once = stored_four memory place w (omega arith) in
    let e = four_bytes memory place w room in
    let on : is_modified (long_at once place) ≡ true = ap is_modified (four_here memory place w room) ∙ modify_set (long_at memory place) in
    let value : with_modify (long_at once place) ≡ long_at once place = ap (λ b. cond b (long_at once place) (long_at once place + 2 ^ 26)) on in
    ap (marked place) is ∙ ap (λ v. long_stored place v once) value ∙ stored_four once place (long_at once place) (omega arith) ∙ four_same once place (omega (arith, e.0)) (omega (arith, e.1)) (omega (arith, e.2)) (omega (arith, e.3)) ∙ sym is

-- Marks, one after another.

marked_more : (hs : List pushes.Home) (h : pushes.Home) (memory : List ℕ) → all_marked (hs ++ h ∷ []) memory ≡ marked_at h.entry (all_marked hs memory)
marked_more [] h memory = refl
marked_more (k ∷ ks) h memory = marked_more ks h (marked_at k.entry memory)

put_more : (hs ks : List pushes.Home) (memory : List ℕ) → all_put (hs ++ ks) memory ≡ all_put ks (all_put hs memory)
put_more [] ks memory = refl
put_more (h ∷ hs) ks memory = put_more hs ks (set memory h.place h.value)

-- the homes up to one more
homes_more : (homes : List Home) (i : ℕ) (h : Home) → i < length homes → h ≡ get_or homes i h → map home_of (take (i + 1) homes) ≡ map home_of (take i homes) ++ home_of h ∷ []
homes_more homes i h l e = ap (map home_of) (take_more homes i h l ∙ ap (λ (x : Home). take i homes ++ x ∷ []) (sym e)) ∙ map-append home_of (take i homes) (h ∷ [])

home_at : (homes : List Home) (i : ℕ) (h : Home) → h ≡ get_or homes i h → get_or (map home_of homes) i (home_of h) ≡ home_of h
home_at homes i h e = mapped homes i h ∙ ap home_of (sym e)
  where
    mapped : (homes : List Home) (i : ℕ) (h : Home) → get_or (map home_of homes) i (home_of h) ≡ home_of (get_or homes i h)
    mapped [] i h = refl
    mapped (x ∷ xs) zero h = refl
    mapped (x ∷ xs) (suc i) h = mapped xs i h

is_home : (size : ℕ) (hs : List pushes.Home) (i : ℕ) (h : pushes.Home) → AreHomes size hs → i < length hs → get_or hs i h ≡ h → IsHome size h
is_home size [] i h are l e = absurd (omega arith)
is_home size (k ∷ ks) zero h are l e = subst (IsHome size) e are.0
is_home size (k ∷ ks) (suc i) h are l e = is_home size ks i h are.1 (omega arith) e

some_homes : (size : ℕ) (homes : List Home) (i : ℕ) → AreHomes size (map home_of homes) → AreHomes size (map home_of (take i homes))
some_homes size [] zero are = are
some_homes size [] (suc i) are = are
some_homes size (h ∷ hs) zero are = tt
some_homes size (h ∷ hs) (suc i) are = (are.0, some_homes size hs i are.1)

map_size : (homes : List Home) → length (map home_of homes) ≡ length homes
map_size homes = Rattle.std.proofs.lemmas.List.length-map homes home_of

-- an entry's modify bit is set already, where there is one
abbrev pub IsMarked : Option ℕ → Machine → Shadowed → Type 0
IsMarked entry m s = marked_at entry (own m.memory s) ≡ own m.memory s

-- so far the modify bits of these are set
abbrev pub Marking : List Home → ℕ → Machine → Shadowed → Machine → Shadowed → Type 0
Marking homes n m s m' s' = Wrote (frames_pushed (own m.memory s) (map home_of homes)) (all_marked (map home_of (take n homes)) (own m.memory s)) m s m' s'

pages_kept : (fs memory : List ℕ) (m m' : Machine) (s s' : Shadowed) → Wrote fs memory m s m' s' → s'.pages ≡ s.pages
pages_kept fs memory m m' s s' w = ap (λ (x : Shadowed). x.pages) w.drops.rest

base_kept : (fs memory : List ℕ) (m m' : Machine) (s s' : Shadowed) → Wrote fs memory m s m' s' → s'.base ≡ s.base
base_kept fs memory m m' s s' w = ap (λ (x : Shadowed). x.base) w.drops.rest

pub marking_none : (homes : List Home) (m : Machine) (s : Shadowed) → Marking homes 0 m s m s
marking_none homes m s = wrote_none (frames_pushed (own m.memory s) (map home_of homes)) m s

module _ (homes : List Home) (n base : ℕ) (m m1 : Machine) (s s1 : Shadowed) (h : Home) (l : n < length homes) (e : h ≡ get_or homes n h) (k : Keeps [] [] m.memory s) (b : s.base ≡ base) (are : AreHomes (512 * s.pages) (map home_of homes)) (w : Marking homes n m s m1 s1) where
  within : n < length (map home_of homes)
  within = omega (arith, map_size homes)

  home_is : IsHome (512 * s.pages) (home_of h)
  home_is = is_home (512 * s.pages) (map home_of homes) n (home_of h) are within (home_at homes n h e)

  pub still_keeps : Keeps [] [] m1.memory s1
  still_keeps = w.keeps k

  pub still_based : s1.base ≡ base
  still_based = base_kept _ _ m m1 s s1 w ∙ b

  pub still_entry : (place : ℕ) → h.entry ≡ Some place → (place % 4 ≡ 0) × (place + 4 ≤ 512 * s1.pages)
  still_entry place is =
      let p : IsEntryPlace (512 * s.pages) (Some place) = subst (IsEntryPlace (512 * s.pages)) is home_is.1 in
      (p.0, omega (arith, p.1, pages_kept _ _ m m1 s s1 w))

  pub marking_skip : IsMarked h.entry m1 s1 → Marking homes (n + 1) m s m1 s1
  marking_skip same = wrote_as _ _ _ m m1 s s1 (sym (ap (λ x. all_marked x (own m.memory s)) (homes_more homes n h l e) ∙ marked_more (map home_of (take n homes)) (home_of h) (own m.memory s) ∙ ap (marked_at h.entry) (sym w.own) ∙ same ∙ w.own)) w

  pub marked_now : (place : ℕ) (m2 : Machine) (s2 : Shadowed) → h.entry ≡ Some place → Wrote (mark_written (own m1.memory s1) (Some place)) (marked place (own m1.memory s1)) m1 s1 m2 s2 → IsMarked h.entry m2 s2
  marked_now place m2 s2 is one =
      let size : length (own m1.memory s1) ≡ 512 * s1.pages = own_length m1.memory s1 still_keeps.fits in
      let room : place + 4 ≤ length (own m1.memory s1) = omega (arith, size, (still_entry place is).1) in
      subst (λ x. IsMarked x m2 s2) (sym is) (ap (marked place) one.own ∙ marked_twice place (own m1.memory s1) room (own_few m1.memory s1 still_keeps.fits) ∙ sym one.own)

  pub marking_next : (place : ℕ) (m2 : Machine) (s2 : Shadowed) → h.entry ≡ Some place → Wrote (mark_written (own m1.memory s1) (Some place)) (marked place (own m1.memory s1)) m1 s1 m2 s2 → Marking homes (n + 1) m s m2 s2
  marking_next place m2 s2 is one =
      let size : length (own m.memory s) ≡ 512 * s.pages = own_length m.memory s k.fits in
      let p = subst (IsEntryPlace (512 * s.pages)) is home_is.1 in
      let before : AreHomes (length (own m.memory s)) (map home_of (take n homes)) = subst (λ x. AreHomes x (map home_of (take n homes))) (sym size) (some_homes (512 * s.pages) homes n are) in
      let stays : is_modified (long_at (own m.memory s) place) ≡ true → is_modified (long_at (own m1.memory s1) place) ≡ true = λ on. subst (λ x. is_modified (long_at x place) ≡ true) (sym w.own) (all_stay (map home_of (take n homes)) (own m.memory s) place p.0 (own_few m.memory s k.fits) before on) in
      let among : Among (mark_written (own m1.memory s1) (Some place)) (frames_pushed (own m.memory s) (map home_of homes)) = λ x q. mark_of (own m.memory s) (map home_of homes) n (home_of h) x within (home_at homes n h e) (subst (λ y. is_pending (mark_written (own m.memory s) y) x ≡ true) (sym is) (mark_among (own m.memory s) (own m1.memory s1) place x stays q)) in
      let memory : marked place (own m1.memory s1) ≡ all_marked (map home_of (take (n + 1) homes)) (own m.memory s) =
      ap (marked place) w.own ∙ sym (ap (λ x. all_marked x (own m.memory s)) (homes_more homes n h l e) ∙ marked_more (map home_of (take n homes)) (home_of h) (own m.memory s) ∙ ap (λ x. marked_at x (all_marked (map home_of (take n homes)) (own m.memory s))) is) in
      wrote_as _ _ _ m m2 s s2 memory (wrote_then _ _ _ _ m m1 m2 s s1 s2 among w one)

pub marking_all : (homes : List Home) (n : ℕ) (m m' : Machine) (s s' : Shadowed) → length homes ≤ n → Marking homes n m s m' s' → Wrote (frames_pushed (own m.memory s) (map home_of homes)) (all_marked (map home_of homes) (own m.memory s)) m s m' s'
marking_all homes n m m' s s' h w = wrote_as _ _ _ m m' s s' (ap (λ (x : List Home). all_marked (map home_of x) (own m.memory s)) (take_all n homes h)) w

-- so far these bytes are written
abbrev pub Putting : List Home → ℕ → Machine → Shadowed → Machine → Shadowed → Type 0
Putting homes n m s m' s' = Wrote (frames_of (map home_of homes)) (all_put (map home_of (take n homes)) (own m.memory s)) m s m' s'

pub putting_none : (homes : List Home) (m : Machine) (s : Shadowed) → Putting homes 0 m s m s
putting_none homes m s = wrote_none (frames_of (map home_of homes)) m s

-- some of the homes, from one on
abbrev part : List Home → (n k : ℕ) → List pushes.Home
part homes n k = map home_of (take k (drop n homes))

take_none : (n : ℕ) (homes : List Home) → homes ≡ [] → take n homes ≡ []
take_none zero homes e = refl
take_none (suc n) [] e = refl
take_none (suc n) (h ∷ hs) e = absurd (omega (arith, ap length e))

take_part : (homes : List Home) (n k : ℕ) → take (n + k) homes ≡ take n homes ++ take k (drop n homes)
take_part homes zero k = let same : 0 + k ≡ k = omega arith in ap (λ x. take x homes) same
take_part [] (suc n) k = take_none (suc n + k) [] refl ∙ sym (take_none k [] refl)
take_part (h ∷ hs) (suc n) k = let same : suc n + k ≡ suc (n + k) = omega arith in ap (λ x. take x (h ∷ hs)) same ∙ ap (λ (x : List Home). h ∷ x) (take_part hs n k)

part_among : (homes : List Home) (n k : ℕ) → Among (frames_of (part homes n k)) (frames_of (map home_of homes))
part_among [] zero zero x p = p
part_among [] zero (suc k) x p = p
part_among [] (suc n) zero x p = p
part_among [] (suc n) (suc k) x p = p
part_among (h ∷ hs) zero zero x p = absurd (false≢true p)
part_among (h ∷ hs) zero (suc k) x p = split (cases_Bool (is_read_from (frame_at h.place) x))
    (λ on. or_left _ _ on)
    (λ off. or_right _ _ (part_among hs zero k x (sym (ap (λ b. Rattle.std.specs.Prelude.◌||◌ b (is_pending (frames_of (part hs zero k)) x)) off) ∙ p)))
part_among (h ∷ hs) (suc n) k x p = or_right _ _ (part_among hs n k x p)

homes_after : (size : ℕ) (homes : List Home) (n : ℕ) → AreHomes size (map home_of homes) → AreHomes size (map home_of (drop n homes))
homes_after size homes zero are = are
homes_after size [] (suc n) are = are
homes_after size (h ∷ hs) (suc n) are = homes_after size hs n are.1

pub left_over : (homes : List Home) (n k : ℕ) → n ≤ length homes → k ≤ length (take (length homes - n) (drop n homes)) → n + k ≤ length homes
left_over homes n k h l = omega (arith, h, l, Rattle.std.proofs.lemmas.List.length-take (length homes - n) (drop n homes), Rattle.std.proofs.lemmas.List.length-drop n homes)

module _ (homes : List Home) (n : ℕ) (m m1 : Machine) (s s1 : Shadowed) (w : Putting homes n m s m1 s1) where
  all_left : take (length homes - n) (drop n homes) ≡ drop n homes
  all_left = take_all (length homes - n) (drop n homes) (omega (arith, Rattle.std.proofs.lemmas.List.length-drop n homes))

  pub put_left : AreHomes (512 * s.pages) (map home_of homes) → AreHomes (512 * s1.pages) (map home_of (take (length homes - n) (drop n homes)))
  put_left are = subst (λ x. AreHomes (512 * s1.pages) (map home_of x)) (sym all_left) (homes_after (512 * s1.pages) homes n (subst (λ x. AreHomes (512 * x) (map home_of homes)) (sym (pages_kept _ _ m m1 s s1 w)) are))

  pub putting_next : (k : ℕ) (m2 : Machine) (s2 : Shadowed) → PutsHomes (map home_of (take k (take (length homes - n) (drop n homes)))) m1 s1 m2 s2 → Putting homes (n + k) m s m2 s2
  putting_next k m2 s2 puts =
      let p : PutsHomes (part homes n k) m1 s1 m2 s2 = subst (λ x. PutsHomes (map home_of (take k x)) m1 s1 m2 s2) all_left puts in
      let memory : all_put (part homes n k) (own m1.memory s1) ≡ all_put (map home_of (take (n + k) homes)) (own m.memory s) =
      ap (all_put (part homes n k)) w.own ∙ sym (ap (λ (x : List Home). all_put (map home_of x) (own m.memory s)) (take_part homes n k) ∙ ap (λ (x : List pushes.Home). all_put x (own m.memory s)) (map-append home_of (take n homes) (take k (drop n homes))) ∙ put_more (map home_of (take n homes)) (part homes n k) (own m.memory s)) in
      wrote_as _ _ _ m m2 s s2 memory (wrote_then _ _ _ _ m m1 m2 s s1 s2 (part_among homes n k) w p)

pub putting_all : (homes : List Home) (n : ℕ) (m m' : Machine) (s s' : Shadowed) → length homes ≤ n → Putting homes n m s m' s' → PutsHomes (map home_of homes) m s m' s'
putting_all homes n m m' s s' h w = wrote_as _ _ _ m m' s s' (ap (λ (x : List Home). all_put (map home_of x) (own m.memory s)) (take_all n homes h)) w

-- the bytes of a longword
pub put_four : (a b c d : pushes.Home) (long : ℕ) (m m' : Machine) (s s' : Shadowed) → a.place + 4 ≤ 2 ^ 32 → b.place ≡ a.place + 1 → c.place ≡ a.place + 2 → d.place ≡ a.place + 3 →
    long % 256 ≡ a.value → long / 256 % 256 ≡ b.value → long / 256 / 256 % 256 ≡ c.value → long / 256 / 256 / 256 % 256 ≡ d.value →
    Stores a.place (long_stored a.place long (own m.memory s)) m s m' s' → PutsHomes (a ∷ b ∷ c ∷ d ∷ []) m s m' s'
put_four a b c d long m m' s s' room pb pc pd v0 v1 v2 v3 st =
    let all : List pushes.Home = a ∷ b ∷ c ∷ d ∷ [] in
    let among : Among (a.place / 512 ∷ []) (frames_of all) = λ x q. or_left _ _ (just _ q) in
    let four_put : four (own m.memory s) a.place long ≡ set (set (set (set (own m.memory s) a.place a.value) b.place b.value) c.place c.value) d.place d.value =
    λ i. set (set (set (set (own m.memory s) a.place (v0 i)) (sym pb i) (v1 i)) (sym pc i) (v2 i)) (sym pd i) (v3 i) in
    wrote_as (frames_of all) (long_stored a.place long (own m.memory s)) (all_put all (own m.memory s)) m m' s s' (stored_four (own m.memory s) a.place long room ∙ four_put)
    (wrote_then (frames_of all) (a.place / 512 ∷ []) (own m.memory s) _ m m m' s s s' among (wrote_none (frames_of all) m s) (wrote_one a.place _ m m' s s' st))
  where
    just : (b : Bool) → Rattle.std.specs.Prelude.◌||◌ b false ≡ true → b ≡ true
    just true q = refl
    just false q = q

-- the first four of some bytes, which are a longword, and the first of some
pub put_long : (homes : List Home) (e : Home) (long : ℕ) (m m' : Machine) (s s' : Shadowed) →
    let a = get_or homes 0 e in let b = get_or homes 1 e in let c = get_or homes 2 e in let d = get_or homes 3 e in
    4 ≤ length homes → s.pages ≤ 2048 → AreHomes (512 * s.pages) (map home_of homes) → b.place ≡ a.place + 1 → c.place ≡ a.place + 2 → d.place ≡ a.place + 3 →
    long % 256 ≡ a.value → long / 256 % 256 ≡ b.value → long / 256 / 256 % 256 ≡ c.value → long / 256 / 256 / 256 % 256 ≡ d.value →
    Stores a.place (long_stored a.place long (own m.memory s)) m s m' s' → PutsHomes (map home_of (take 4 homes)) m s m' s'
put_long [] e long m m' s s' few small are pb pc pd v0 v1 v2 v3 st = absurd (omega (arith, few))
put_long (a ∷ []) e long m m' s s' few small are pb pc pd v0 v1 v2 v3 st = absurd (omega (arith, few))
put_long (a ∷ b ∷ []) e long m m' s s' few small are pb pc pd v0 v1 v2 v3 st = absurd (omega (arith, few))
put_long (a ∷ b ∷ c ∷ []) e long m m' s s' few small are pb pc pd v0 v1 v2 v3 st = absurd (omega (arith, few))
put_long (a ∷ b ∷ c ∷ d ∷ rest) e long m m' s s' few small are pb pc pd v0 v1 v2 v3 st = put_four (home_of a) (home_of b) (home_of c) (home_of d) long m m' s s' (omega (arith, pd, small, are.1.1.1.0.0)) pb pc pd v0 v1 v2 v3 st

pub put_first : (homes : List Home) (e : Home) (m m' : Machine) (s s' : Shadowed) → 1 ≤ length homes → Stores (get_or homes 0 e).place (set (own m.memory s) (get_or homes 0 e).place (get_or homes 0 e).value) m s m' s' → PutsHomes (map home_of (take 1 homes)) m s m' s'
put_first [] e m m' s s' some st = absurd (omega (arith, some))
put_first (h ∷ hs) e m m' s s' some st = wrote_one h.place _ m m' s s' st

-- both
pub homes_still : (fs memory : List ℕ) (m m1 : Machine) (s s1 : Shadowed) (hs : List pushes.Home) → AreHomes (512 * s.pages) hs → Wrote fs memory m s m1 s1 → AreHomes (512 * s1.pages) hs
homes_still fs memory m m1 s s1 hs are w = subst (λ n. AreHomes (512 * n) hs) (sym (pages_kept fs memory m m1 s s1 w)) are

pub push_both : (hs : List pushes.Home) (m m1 m2 : Machine) (s s1 s2 : Shadowed) → Wrote (frames_pushed (own m.memory s) hs) (all_marked hs (own m.memory s)) m s m1 s1 → PutsHomes hs m1 s1 m2 s2 → Wrote (frames_pushed (own m.memory s) hs) (pushed hs (own m.memory s)) m s m2 s2
unfolding pushed
push_both hs m m1 m2 s s1 s2 a b = wrote_as _ _ _ m m2 s s2 (ap (all_put hs) a.own) (wrote_then _ _ _ _ m m1 m2 s s1 s2 (frames_among (own m.memory s) hs) a b)
