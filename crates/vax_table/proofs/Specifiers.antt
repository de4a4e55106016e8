-- Specifiers without index: what is read is spelled so, what is spelled is read again, and what can't
-- be at the front stays so.
use Rattle.std.proofs.Common.{◌≡◌, ◌≢◌, ℕ, ◌+◌, ◌-◌, ◌*◌, ◌/◌, ◌%◌, ◌^◌, ◌<◌, ◌≤◌, false, ◌&&◌, ◌||◌, eqb, ltb, List, [], ◌∷◌, ◌++◌, length, take, refl, sym, ap, subst, arith, length-take, length-append}
use Rattle.std.proofs.lemmas.List.{take-append-drop, take_at, drop_at}
use Rattle.std.proofs.lemmas.Bool.{ltb-true, lt-ltb, ne_eqb, le-ltb}
use Rattle.vv_base.specs.Width.{size_of}
use Rattle.vax_table.specs.declared.forms.Form.{Form}
use Rattle.vax_table.specs.declared.decoded.Spec.{Spec}
use Rattle.vax_table.specs.Spelling.{bytes_of, unindexed, AreBytes, Displaces, byte, byte_deferred, word, word_deferred, long, long_deferred, Specifier, literal, register, register_deferred, autodecrement, autoincrement, immediate, autoincrement_deferred, absolute, displacement}
use Rattle.vax_table.specs.Reading.{number_of, AtFront, Got, More, Bad, is_read, is_address, is_quad, valued_at, named_at, displacement_size, specifier_by, specifier_at}
use Rattle.vax_table.proofs.Tests.{if_both, eq_of, ne_of, le_of, or_left, or_right, read_of, not_address, no_address, pair_of, no_pair}
use Rattle.vax_table.proofs.Bytes.{AreBytes-take, AreBytes-append, AreBytes-bytes_of, length-bytes_of, bytes_again, number_bound, number_of-bytes_of}

-- what is read is spelled so; where more is needed, more makes it a spelling
abbrev pub Means : Form → List ℕ → AtFront Spec → Type 0
Means f all (Got s rest) = (front : List ℕ) × (all ≡ front ++ rest) × Specifier f front s
Means f all More = (tail : List ℕ) × (s : Spec) × (0 < length tail) × Specifier f (all ++ tail) s
Means f all Bad = Unit {0}

named_means : (f : Form) (b mode : ℕ) (bs : List ℕ) → ((n : ℕ) → n < 15 → b ≡ 16 * mode + n → Specifier f (b ∷ []) (unindexed mode n 0)) → b < 256 → b / 16 ≡ mode → Means f (b ∷ bs) (named_at mode (b % 16) bs)
named_means f b mode bs make h e =
    if_both (Means f (b ∷ bs)) (eqb (b % 16) 15) _ _ (λ t. tt)
    (λ t. let ne : b % 16 ≢ 15 = ne_of (b % 16) 15 t in (b ∷ [], refl, make (b % 16) (omega arith) (omega arith)))

whole_value : (f : Form) (b k mode reg : ℕ) (xs : List ℕ) → length xs ≡ k → AreBytes xs → ((v : ℕ) → v < 256 ^ k → Specifier f (b ∷ bytes_of k v) (unindexed mode reg v)) → Specifier f (b ∷ xs) (unindexed mode reg (number_of xs))
whole_value f b k mode reg xs len all make =
    subst (λ ys. Specifier f (b ∷ ys) (unindexed mode reg (number_of xs))) (bytes_again k xs len all) (make (number_of xs) (number_bound k xs len all))

valued_means : (f : Form) (b k mode reg : ℕ) (bs : List ℕ) → AreBytes bs → ((v : ℕ) → v < 256 ^ k → Specifier f (b ∷ bytes_of k v) (unindexed mode reg v)) → Means f (b ∷ bs) (valued_at mode reg k bs)
valued_means f b k mode reg bs h make =
    if_both (Means f (b ∷ bs)) (ltb (length bs) k) _ _
    (λ t.
    let short : length bs < k = ltb-true _ _ t in
    let zeros : List ℕ = bytes_of (k - length bs) 0 in
    let lz : length zeros ≡ k - length bs = length-bytes_of (k - length bs) 0 in
    let len : length (bs ++ zeros) ≡ k = omega (arith, length-append {A = ℕ}) in
    (zeros, unindexed mode reg (number_of (bs ++ zeros)), omega arith, whole_value f b k mode reg (bs ++ zeros) len (AreBytes-append bs zeros h (AreBytes-bytes_of (k - length bs) 0)) make))
    (λ t.
    let enough : k ≤ length bs = le_of (length bs) k t in
    let len : length (take k bs) ≡ k = omega (arith, length-take {A = ℕ}) in
    (b ∷ take k bs, ap (λ xs. b ∷ xs) (sym (take-append-drop k bs)), whole_value f b k mode reg (take k bs) len (AreBytes-take k bs h) make))

displaces_either : (m k : ℕ) → Displaces m k → Displaces (m + 1) k → (n : ℕ) → m ≤ n → n < m + 2 → Displaces n k
displaces_either m k x y n h l =
    if_both (λ (_ : ℕ). Displaces n k) (eqb n m) 0 0
    (λ t. let e : m ≡ n = sym (eq_of n m t) in subst (λ j. Displaces j k) e x)
    (λ t. let ne : n ≢ m = ne_of n m t in let e : m + 1 ≡ n = omega arith in subst (λ j. Displaces j k) e y)

displaces : (m : ℕ) → 10 ≤ m → m < 16 → Displaces m (displacement_size m)
displaces m low high =
    if_both (Displaces m) (ltb m 12) _ _
    (λ u. let less : m < 12 = ltb-true _ _ u in displaces_either 10 1 byte byte_deferred m low (omega arith))
    (λ u. let more : 12 ≤ m = le_of _ _ u in if_both (Displaces m) (ltb m 14) _ _
    (λ w. let less : m < 14 = ltb-true _ _ w in displaces_either 12 2 word word_deferred m more (omega arith))
    (λ w. let most : 14 ≤ m = le_of _ _ w in displaces_either 14 4 long long_deferred m most (omega arith)))

pub specifier_means : (f : Form) (b : ℕ) (bs : List ℕ) → b < 256 → AreBytes bs → Means f (b ∷ bs) (specifier_at f b bs)
unfolding specifier_at specifier_by
specifier_means f b bs h hs =
    let P : AtFront Spec → Type 0 = Means f (b ∷ bs) in
    if_both P (ltb (b / 16) 4) _ _
    (λ t. if_both P (is_read f.access) _ _
    (λ r. let less : b / 16 < 4 = ltb-true (b / 16) 4 t in (b ∷ [], refl, literal b (omega arith) (read_of f.access r) refl refl))
    (λ r. tt))
    (λ t. if_both P (eqb (b / 16) 4) _ _ (λ r. tt) (λ r.
    let high : 4 ≤ b / 16 = le_of (b / 16) 4 t in
    let not4 : b / 16 ≢ 4 = ne_of (b / 16) 4 r in
    if_both P (eqb (b / 16) 5) _ _
    (λ q. if_both P (is_address f.access || (is_quad f.width && eqb (b % 16) 14)) _ _ (λ x. tt)
    (λ x. named_means f b 5 bs
    (λ n l e. register n l (not_address f.access (or_left _ _ x)) (λ g k. pair_of f.width (b % 16) (or_right _ _ x) g (omega arith)) (ap (λ k. k ∷ []) e) refl) h (eq_of _ _ q)))
    (λ q5. if_both P (eqb (b / 16) 6) _ _
    (λ q. named_means f b 6 bs (λ n l e. register_deferred n l (ap (λ k. k ∷ []) e) refl) h (eq_of _ _ q))
    (λ q6. if_both P (eqb (b / 16) 7) _ _
    (λ q. named_means f b 7 bs (λ n l e. autodecrement n l (ap (λ k. k ∷ []) e) refl) h (eq_of _ _ q))
    (λ q7. if_both P (eqb (b / 16) 8) _ _
    (λ q. let is8 : b / 16 ≡ 8 = eq_of _ _ q in if_both P (eqb (b % 16) 15) _ _
    (λ u. let is15 : b % 16 ≡ 15 = eq_of _ _ u in let first : b ≡ 0x8f = omega arith in
    valued_means f b (size_of f.width) 8 15 bs hs (λ v l. immediate v l (ap (λ c. c ∷ bytes_of (size_of f.width) v) first) refl))
    (λ u. let not15 : b % 16 ≢ 15 = ne_of _ _ u in let first : b ≡ 0x80 + b % 16 = omega arith in
    (b ∷ [], refl, autoincrement (b % 16) (omega arith) (ap (λ c. c ∷ []) first) refl)))
    (λ q8. if_both P (eqb (b / 16) 9) _ _
    (λ q. let is9 : b / 16 ≡ 9 = eq_of _ _ q in if_both P (eqb (b % 16) 15) _ _
    (λ u. let is15 : b % 16 ≡ 15 = eq_of _ _ u in let first : b ≡ 0x9f = omega arith in
    valued_means f b 4 9 15 bs hs (λ v l. absolute v l (ap (λ c. c ∷ bytes_of 4 v) first) refl))
    (λ u. let not15 : b % 16 ≢ 15 = ne_of _ _ u in let first : b ≡ 0x90 + b % 16 = omega arith in
    (b ∷ [], refl, autoincrement_deferred (b % 16) (omega arith) (ap (λ c. c ∷ []) first) refl)))
    (λ q9.
    let n5 : b / 16 ≢ 5 = ne_of _ _ q5 in let n6 : b / 16 ≢ 6 = ne_of _ _ q6 in let n7 : b / 16 ≢ 7 = ne_of _ _ q7 in
    let n8 : b / 16 ≢ 8 = ne_of _ _ q8 in let n9 : b / 16 ≢ 9 = ne_of _ _ q9 in
    let whole : b ≡ 16 * (b / 16) + b % 16 = omega arith in
    valued_means f b (displacement_size (b / 16)) (b / 16) (b % 16) bs hs
    (λ v l. displacement (b / 16) (displacement_size (b / 16)) (b % 16) v (displaces (b / 16) (omega arith) (omega arith)) (omega arith) l (ap (λ c. c ∷ bytes_of (displacement_size (b / 16)) v) whole) refl))))))))

pub valued_again : (mode reg k v : ℕ) (rest : List ℕ) → v < 256 ^ k → valued_at mode reg k (bytes_of k v ++ rest) ≡ Got (unindexed mode reg v) rest
valued_again mode reg k v rest h =
    let len : length (bytes_of k v) ≡ k = length-bytes_of k v in
    let enough : k ≤ length (bytes_of k v ++ rest) = omega (arith, length-append {A = ℕ}) in
    rw (le-ltb _ _ enough, take_at (bytes_of k v) rest k len, drop_at (bytes_of k v) rest k len, number_of-bytes_of k v h)

named_again : (mode n : ℕ) (rest : List ℕ) → n < 15 → named_at mode n rest ≡ Got (unindexed mode n 0) rest
named_again mode n rest h = let e : eqb n 15 ≡ false = ne_eqb n 15 (omega arith) in rw e

-- the first byte of bytes, and what is after it
abbrev pub first_at : Form → List ℕ → AtFront Spec
first_at f [] = More
first_at f (b ∷ bs) = specifier_at f b bs

displaced_again : (f : Form) (mode k n v : ℕ) (rest : List ℕ) → Displaces mode k → n < 16 → v < 256 ^ k → specifier_at f (16 * mode + n) (bytes_of k v ++ rest) ≡ Got (unindexed mode n v) rest
unfolding specifier_at specifier_by
displaced_again f mode k n v rest byte h l = let q : (160 + n) / 16 ≡ 10 = omega arith in let m : (160 + n) % 16 ≡ n = omega arith in rw (q, m) (valued_again 10 n 1 v rest l)
displaced_again f mode k n v rest byte_deferred h l = let q : (176 + n) / 16 ≡ 11 = omega arith in let m : (176 + n) % 16 ≡ n = omega arith in rw (q, m) (valued_again 11 n 1 v rest l)
displaced_again f mode k n v rest word h l = let q : (192 + n) / 16 ≡ 12 = omega arith in let m : (192 + n) % 16 ≡ n = omega arith in rw (q, m) (valued_again 12 n 2 v rest l)
displaced_again f mode k n v rest word_deferred h l = let q : (208 + n) / 16 ≡ 13 = omega arith in let m : (208 + n) % 16 ≡ n = omega arith in rw (q, m) (valued_again 13 n 2 v rest l)
displaced_again f mode k n v rest long h l = let q : (224 + n) / 16 ≡ 14 = omega arith in let m : (224 + n) % 16 ≡ n = omega arith in rw (q, m) (valued_again 14 n 4 v rest l)
displaced_again f mode k n v rest long_deferred h l = let q : (240 + n) / 16 ≡ 15 = omega arith in let m : (240 + n) % 16 ≡ n = omega arith in rw (q, m) (valued_again 15 n 4 v rest l)

pub specifier_again : (f : Form) (bytes : List ℕ) (s : Spec) (rest : List ℕ) → Specifier f bytes s → first_at f (bytes ++ rest) ≡ Got s rest
unfolding specifier_at specifier_by
specifier_again f bytes s rest (literal n h a e g) = rw (e, g) (let q : n / 16 < 4 = omega arith in rw (lt-ltb _ _ q, ap is_read a))
specifier_again f bytes s rest (register n h a p e g) = rw (e, g) (let q : (0x50 + n) / 16 ≡ 5 = omega arith in let m : (0x50 + n) % 16 ≡ n = omega arith in rw (q, m, no_address f.access a, no_pair f.width n p) (named_again 5 n rest h))
specifier_again f bytes s rest (register_deferred n h e g) = rw (e, g) (let q : (0x60 + n) / 16 ≡ 6 = omega arith in let m : (0x60 + n) % 16 ≡ n = omega arith in rw (q, m) (named_again 6 n rest h))
specifier_again f bytes s rest (autodecrement n h e g) = rw (e, g) (let q : (0x70 + n) / 16 ≡ 7 = omega arith in let m : (0x70 + n) % 16 ≡ n = omega arith in rw (q, m) (named_again 7 n rest h))
specifier_again f bytes s rest (autoincrement n h e g) = rw (e, g) (let q : (0x80 + n) / 16 ≡ 8 = omega arith in let m : (0x80 + n) % 16 ≡ n = omega arith in let o : eqb n 15 ≡ false = ne_eqb n 15 (omega arith) in rw (q, m, o))
specifier_again f bytes s rest (immediate v h e g) = rw (e, g) (valued_again 8 15 (size_of f.width) v rest h)
specifier_again f bytes s rest (autoincrement_deferred n h e g) = rw (e, g) (let q : (0x90 + n) / 16 ≡ 9 = omega arith in let m : (0x90 + n) % 16 ≡ n = omega arith in let o : eqb n 15 ≡ false = ne_eqb n 15 (omega arith) in rw (q, m, o))
specifier_again f bytes s rest (absolute v h e g) = rw (e, g) (valued_again 9 15 4 v rest h)
specifier_again f bytes s rest (displacement mode k n v d h l e g) = rw (e, g) (displaced_again f mode k n v rest d h l)

named_bad : (mode n : ℕ) (bs ys : List ℕ) → named_at mode n bs ≡ Bad → named_at mode n ys ≡ Bad
named_bad mode n bs ys = if_both (λ o. o ≡ Bad → named_at mode n ys ≡ Bad) (eqb n 15) _ _ (λ t e. rw t) (λ t e. cc)

pub valued_fine : {X : Type 0} (mode reg k : ℕ) (bs : List ℕ) → valued_at mode reg k bs ≡ Bad → X
valued_fine {X = X} mode reg k bs = if_both (λ (o : AtFront Spec). o ≡ Bad → X) (ltb (length bs) k) _ _ (λ t e. cc) (λ t e. cc)

pub specifier_bad : (f : Form) (b : ℕ) (bs ys : List ℕ) → specifier_at f b bs ≡ Bad → specifier_at f b ys ≡ Bad
unfolding specifier_at specifier_by
specifier_bad f b bs ys =
    let P : AtFront Spec → Type 0 = λ o. o ≡ Bad → specifier_at f b ys ≡ Bad in
    if_both P (ltb (b / 16) 4) _ _
    (λ t. if_both P (is_read f.access) _ _ (λ r e. cc) (λ r e. rw (t, r)))
    (λ t. if_both P (eqb (b / 16) 4) _ _ (λ r e. rw (t, r)) (λ r.
    if_both P (eqb (b / 16) 5) _ _
    (λ q. if_both P (is_address f.access || (is_quad f.width && eqb (b % 16) 14)) _ _ (λ x e. rw (t, r, q, x)) (λ x e. rw (t, r, q, x) (named_bad 5 (b % 16) bs ys e)))
    (λ q5. if_both P (eqb (b / 16) 6) _ _
    (λ q e. rw (t, r, q5, q) (named_bad 6 (b % 16) bs ys e))
    (λ q6. if_both P (eqb (b / 16) 7) _ _
    (λ q e. rw (t, r, q5, q6, q) (named_bad 7 (b % 16) bs ys e))
    (λ q7. if_both P (eqb (b / 16) 8) _ _
    (λ q. if_both P (eqb (b % 16) 15) _ _ (λ u e. valued_fine _ _ _ _ e) (λ u e. cc))
    (λ q8. if_both P (eqb (b / 16) 9) _ _
    (λ q. if_both P (eqb (b % 16) 15) _ _ (λ u e. valued_fine _ _ _ _ e) (λ u e. cc))
    (λ q9 e. valued_fine _ _ _ _ e)))))))

pub specifier_some : (f : Form) (s : Spec) → Specifier f [] s → ⊥
specifier_some f s (literal n h a e g) = cc
specifier_some f s (register n h a p e g) = cc
specifier_some f s (register_deferred n h e g) = cc
specifier_some f s (autodecrement n h e g) = cc
specifier_some f s (autoincrement n h e g) = cc
specifier_some f s (immediate v h e g) = cc
specifier_some f s (autoincrement_deferred n h e g) = cc
specifier_some f s (absolute v h e g) = cc
specifier_some f s (displacement mode k n v d h l e g) = cc
