-- Operands, alone and one after the other: what is read is spelled so, what is spelled is read again,
-- and what can't be at the front stays so.
use Rattle.std.proofs.Common.{◌≡◌, ◌≢◌, ℕ, suc, ◌+◌, ◌-◌, ◌/◌, ◌%◌, ◌^◌, ◌<◌, ◌≤◌, true, false, eqb, ltb, List, [], ◌∷◌, ◌++◌, length, take, Some, refl, sym, ap, ◌∙◌, subst, append_assoc, arith, length-take, length-append}
use Rattle.std.proofs.lemmas.List.{take-append-drop}
use Rattle.std.proofs.lemmas.Bool.{ltb-true, ne_eqb, le-ltb}
use Rattle.vv_base.specs.Width.{size_of}
use Rattle.vax_table.specs.declared.forms.Access.TheVariants.{Branch}
use Rattle.vax_table.specs.declared.forms.Form.{Form}
use Rattle.vax_table.specs.declared.decoded.Spec.{Spec}
use Rattle.vax_table.specs.Spelling.{bytes_of, unindexed, AreBytes, register_deferred, SpellsOperand, specifier, indexed, branch, Operands, Specifier}
use Rattle.vax_table.specs.Reading.{number_of, AtFront, Got, More, Bad, is_branch, valued_at, specifier_at, indexed_at, operand_at, operands_at, then_read}
use Rattle.vax_table.proofs.Tests.{if_both, eq_of, ne_of, le_of, branch_of, not_branch, no_branch}
use Rattle.vax_table.proofs.Bytes.{AreBytes-take, AreBytes-append, AreBytes-back, AreBytes-bytes_of, length-bytes_of, bytes_again, number_bound, pow_some, size_some}
use Rattle.vax_table.proofs.Specifiers.{Means, specifier_means, specifier_again, specifier_bad, specifier_some, valued_again, valued_fine}

abbrev with_index : ℕ → AtFront Spec → AtFront Spec
with_index x o = then_read o (λ s rest. Got (record s { index = Some x }) rest)

abbrev with_operands_before : List Spec → AtFront (List Spec) → AtFront (List Spec)
with_operands_before front o = then_read o (λ ss rest. Got (front ++ ss) rest)

-- ---- one operand: what is read is spelled so

-- more bytes that make a spelling
pub record Completes (f : Form) (all : List ℕ) : Type 0 where
  pub tail : List ℕ
  pub spec : Spec
  pub some : 0 < length tail
  pub spelled : SpellsOperand f (all ++ tail) spec

abbrev pub Reads : Form → List ℕ → AtFront Spec → Type 0
Reads f all (Got s rest) = (front : List ℕ) × (all ≡ front ++ rest) × SpellsOperand f front s
Reads f all More = Completes f all
Reads f all Bad = Unit {0}

direct : (f : Form) (all : List ℕ) (o : AtFront Spec) → f.access ≢ Branch → Means f all o → Reads f all o
direct f all (Got s rest) n m = (m.0, m.1, specifier n m.2)
direct f all More n m = record { tail = m.0; spec = m.1; some = m.2; spelled = specifier n m.3 }
direct f all Bad n m = tt

after_index : (f : Form) (x b : ℕ) (bs : List ℕ) (o : AtFront Spec) → f.access ≢ Branch → x < 15 → 0x60 ≤ b → b ≢ 0x8f → Means f (b ∷ bs) o → Reads f ((0x40 + x) ∷ (b ∷ bs)) (with_index x o)
after_index f x b bs (Got s rest) n h l i ([], e, m) = absurd (specifier_some f s m)
after_index f x b bs (Got s rest) n h l i (c ∷ cs, e, m) =
    let same : c ≡ b = cc in
    ((0x40 + x) ∷ (c ∷ cs), ap (λ ys. (0x40 + x) ∷ ys) e, indexed n x h c cs s (rw same l) (rw same i) m refl refl)
after_index f x b bs More n h l i m = record { tail = m.0; spec = record m.1 { index = Some x }; some = m.2; spelled = indexed n x h b (bs ++ m.0) m.1 l i m.3 refl refl }
after_index f x b bs Bad n h l i m = tt

indexed_reads : (f : Form) (x : ℕ) (bs : List ℕ) → f.access ≢ Branch → x < 15 → AreBytes bs → Reads f ((0x40 + x) ∷ bs) (indexed_at f x bs)
unfolding indexed_at
indexed_reads f x [] n h hs = record {
  tail = 0x60 ∷ [];
  spec = record { index = Some x; mode = 6; reg = 0; value = 0 };
  some = omega arith;
  spelled = indexed n x h 0x60 [] (unindexed 6 0 0) (omega arith) (omega arith) (register_deferred 0 (omega arith) refl refl) refl refl;
}
indexed_reads f x (b ∷ bs) n h hs =
    let P : AtFront Spec → Type 0 = Reads f ((0x40 + x) ∷ (b ∷ bs)) in
    if_both P (ltb (b / 16) 6) _ _ (λ t. tt) (λ t. if_both P (eqb b 0x8f) _ _ (λ u. tt) (λ u.
    let high : 6 ≤ b / 16 = le_of _ _ t in
    after_index f x b bs (specifier_at f b bs) n h (omega arith) (ne_of _ _ u) (specifier_means f b bs hs.0 hs.1)))

branch_reads : (f : Form) (bs : List ℕ) → f.access ≡ Branch → AreBytes bs → Reads f bs (valued_at 16 0 (size_of f.width) bs)
branch_reads f bs a h =
    let k : ℕ = size_of f.width in
    if_both (Reads f bs) (ltb (length bs) k) _ _
    (λ t.
    let short : length bs < k = ltb-true _ _ t in
    let zeros : List ℕ = bytes_of (k - length bs) 0 in
    let lz : length zeros ≡ k - length bs = length-bytes_of (k - length bs) 0 in
    let len : length (bs ++ zeros) ≡ k = omega (arith, length-append {A = ℕ}) in
    let all : AreBytes (bs ++ zeros) = AreBytes-append bs zeros h (AreBytes-bytes_of (k - length bs) 0) in
    record {
      tail = zeros;
      spec = unindexed 16 0 (number_of (bs ++ zeros));
      some = omega arith;
      spelled = branch a (number_of (bs ++ zeros)) (number_bound k _ len all) (sym (bytes_again k _ len all)) refl;
    })
    (λ t.
    let enough : k ≤ length bs = le_of _ _ t in
    let front : List ℕ = take k bs in
    let len : length front ≡ k = omega (arith, length-take {A = ℕ}) in
    let all : AreBytes front = AreBytes-take k bs h in
    (front, sym (take-append-drop k bs), branch a (number_of front) (number_bound k _ len all) (sym (bytes_again k _ len all)) refl))

-- some operand of the form
some_operand : (f : Form) → Completes f []
some_operand f =
    if_both (λ (_ : ℕ). Completes f []) (is_branch f.access) 0 0
    (λ t.
    let p = size_some f.width in
    let len : length (bytes_of (size_of f.width) 0) ≡ size_of f.width = length-bytes_of (size_of f.width) 0 in
    let e : size_of f.width ≡ suc p.0 = p.1 in
    record { tail = bytes_of (size_of f.width) 0; spec = unindexed 16 0 0; some = omega arith; spelled = branch (branch_of _ t) 0 (pow_some (size_of f.width)) refl refl })
    (λ t. record { tail = 0x60 ∷ []; spec = unindexed 6 0 0; some = omega arith; spelled = specifier (not_branch _ t) (register_deferred 0 (omega arith) refl refl) })

pub operand_reads : (f : Form) (bs : List ℕ) → AreBytes bs → Reads f bs (operand_at f bs)
unfolding operand_at
operand_reads f [] h = some_operand f
operand_reads f (b ∷ bs) h =
    let P : AtFront Spec → Type 0 = Reads f (b ∷ bs) in
    if_both P (is_branch f.access) _ _
    (λ t. branch_reads f (b ∷ bs) (branch_of _ t) h)
    (λ t. let n : f.access ≢ Branch = not_branch f.access t in if_both P (eqb (b / 16) 4) _ _
    (λ q. let four : b / 16 ≡ 4 = eq_of _ _ q in if_both P (eqb (b % 16) 15) _ _ (λ u. tt)
    (λ u. let ne : b % 16 ≢ 15 = ne_of _ _ u in let e : 0x40 + b % 16 ≡ b = omega arith in
    subst (λ c. Reads f (c ∷ bs) (indexed_at f (b % 16) bs)) e (indexed_reads f (b % 16) bs n (omega arith) h.1)))
    (λ q. direct f (b ∷ bs) (specifier_at f b bs) n (specifier_means f b bs h.0 h.1)))

-- ---- one operand: what is spelled is read again, whatever follows

not_index : (f : Form) (c : ℕ) (xs : List ℕ) (s : Spec) (r : List ℕ) → specifier_at f c xs ≡ Got s r → eqb (c / 16) 4 ≡ false
unfolding specifier_at
not_index f c xs s r =
    let P : AtFront Spec → Type 0 = λ o. o ≡ Got s r → eqb (c / 16) 4 ≡ false in
    if_both P (ltb (c / 16) 4) _ _
    (λ t e. let less : c / 16 < 4 = ltb-true _ _ t in ne_eqb _ _ (omega arith))
    (λ t. if_both P (eqb (c / 16) 4) _ _ (λ q e. cc) (λ q e. q))

alone_again : (f : Form) (bytes : List ℕ) (s : Spec) (rest : List ℕ) → f.access ≢ Branch → Specifier f bytes s → operand_at f (bytes ++ rest) ≡ Got s rest
unfolding operand_at
alone_again f [] s rest n b = absurd (specifier_some f s b)
alone_again f (c ∷ cs) s rest n b =
    let e : specifier_at f c (cs ++ rest) ≡ Got s rest = specifier_again f (c ∷ cs) s rest b in
    let q : eqb (c / 16) 4 ≡ false = not_index f c (cs ++ rest) s rest e in
    rw (no_branch f.access n, q) e

branch_again : (f : Form) (k v : ℕ) (rest : List ℕ) → f.access ≡ Branch → size_of f.width ≡ suc k → v < 256 ^ suc k → operand_at f (bytes_of (suc k) v ++ rest) ≡ Got (unindexed 16 0 v) rest
unfolding operand_at
branch_again f k v rest a e h =
    let t : is_branch f.access ≡ true = ap is_branch a in
    rw (t, e) (valued_again 16 0 (suc k) v rest h)

pub operand_again : (f : Form) (bytes : List ℕ) (s : Spec) (rest : List ℕ) → SpellsOperand f bytes s → operand_at f (bytes ++ rest) ≡ Got s rest
unfolding operand_at indexed_at
operand_again f bytes s rest (specifier n b) = alone_again f bytes s rest n b
operand_again f bytes s rest (indexed n x h b r t l i m e g) =
    let again : specifier_at f b (r ++ rest) ≡ Got t rest = specifier_again f (b ∷ r) t rest m in
    let q : (0x40 + x) / 16 ≡ 4 = omega arith in
    let o : (0x40 + x) % 16 ≡ x = omega arith in
    let ne : eqb x 15 ≡ false = ne_eqb x 15 (omega arith) in
    let six : ltb (b / 16) 6 ≡ false = le-ltb _ _ (omega arith) in
    let not8f : eqb b 0x8f ≡ false = ne_eqb b 0x8f i in
    rw (e, g, no_branch f.access n) (rw (q, o, ne, six, not8f, again))
operand_again f bytes s rest (branch a v h e g) =
    let p = size_some f.width in
    let l : v < 256 ^ suc p.0 = subst (λ n. v < 256 ^ n) p.1 h in
    let whole : bytes ≡ bytes_of (suc p.0) v = subst (λ n. bytes ≡ bytes_of n v) p.1 e in
    rw (whole, g) (branch_again f p.0 v rest a p.1 l)

-- ---- one operand: what can't be at the front stays so

with_index_bad : (x : ℕ) (o : AtFront Spec) → with_index x o ≡ Bad → o ≡ Bad
with_index_bad x (Got s rest) e = cc
with_index_bad x More e = cc
with_index_bad x Bad e = refl

indexed_bad : (f : Form) (x : ℕ) (bs ys : List ℕ) → indexed_at f x bs ≡ Bad → indexed_at f x (bs ++ ys) ≡ Bad
unfolding indexed_at
indexed_bad f x [] ys e = cc
indexed_bad f x (b ∷ bs) ys h =
    let P : AtFront Spec → Type 0 = λ o. o ≡ Bad → indexed_at f x (b ∷ (bs ++ ys)) ≡ Bad in
    if_both P (ltb (b / 16) 6) _ _ (λ t e. rw t) (λ t. if_both P (eqb b 0x8f) _ _ (λ u e. rw (t, u)) (λ u e.
    let stays : specifier_at f b (bs ++ ys) ≡ Bad = specifier_bad f b bs (bs ++ ys) (with_index_bad x _ e) in
    rw (t, u, stays))) h

pub operand_bad : (f : Form) (bs ys : List ℕ) → operand_at f bs ≡ Bad → operand_at f (bs ++ ys) ≡ Bad
unfolding operand_at
operand_bad f [] ys e = cc
operand_bad f (b ∷ bs) ys h =
    let P : AtFront Spec → Type 0 = λ o. o ≡ Bad → operand_at f (b ∷ (bs ++ ys)) ≡ Bad in
    if_both P (is_branch f.access) _ _
    (λ t e. valued_fine 16 0 (size_of f.width) (b ∷ bs) e)
    (λ t. if_both P (eqb (b / 16) 4) _ _
    (λ q. if_both P (eqb (b % 16) 15) _ _ (λ u e. rw (t, q, u)) (λ u e. rw (t, q, u) (indexed_bad f (b % 16) bs ys e)))
    (λ q e. rw (t, q) (specifier_bad f b bs (bs ++ ys) e))) h

-- ---- the operands in order

abbrev pub ReadsAll : List Form → List ℕ → AtFront (List Spec) → Type 0
ReadsAll fs all (Got ss rest) = (front : List ℕ) × (all ≡ front ++ rest) × Operands fs front ss
ReadsAll fs all More = (tail : List ℕ) × (ss : List Spec) × (0 < length tail) × Operands fs (all ++ tail) ss
ReadsAll fs all Bad = Unit {0}

-- some operands of these forms
some_operands : (fs : List Form) → (bytes : List ℕ) × (ss : List Spec) × Operands fs bytes ss
some_operands [] = ([], [], refl)
some_operands (f ∷ fs) = let c = some_operand f in let r = some_operands fs in (c.tail ++ r.0, c.spec ∷ r.1, (c.tail, r.0, refl, c.spelled, r.2))

-- one operand, and what was read after it
joined : (f : Form) (fs : List Form) (all front rest : List ℕ) (s : Spec) (o : AtFront (List Spec)) → all ≡ front ++ rest → SpellsOperand f front s → ReadsAll fs rest o → ReadsAll (f ∷ fs) all (with_operands_before (s ∷ []) o)
joined f fs all front rest s (Got ss more) e m r = (front ++ r.0, rw (append_assoc front r.0 more) (rw (← r.1) e), (front, r.0, refl, m, r.2))
joined f fs all front rest s More e m r = (r.0, s ∷ r.1, r.2, (front, rest ++ r.0, rw e (append_assoc front rest r.0), m, r.3))
joined f fs all front rest s Bad e m r = tt

next_reads : (f : Form) (fs : List Form) (bs : List ℕ) → AreBytes bs → ((rest : List ℕ) → AreBytes rest → ReadsAll fs rest (operands_at fs rest)) → (o : AtFront Spec) → Reads f bs o →
    ReadsAll (f ∷ fs) bs (then_read o (λ s rest. with_operands_before (s ∷ []) (operands_at fs rest)))
next_reads f fs bs h next (Got s rest) m = joined f fs bs m.0 rest s (operands_at fs rest) m.1 m.2 (next rest (AreBytes-back m.0 rest (subst AreBytes m.1 h)))
next_reads f fs bs h next More c = let r = some_operands fs in let p : 0 < length c.tail = c.some in (c.tail ++ r.0, c.spec ∷ r.1, omega (arith, length-append {A = ℕ}), (bs ++ c.tail, r.0, sym (append_assoc bs c.tail r.0), c.spelled, r.2))
next_reads f fs bs h next Bad c = tt

pub operands_read : (fs : List Form) (bs : List ℕ) → AreBytes bs → ReadsAll fs bs (operands_at fs bs)
operands_read [] bs h = ([], refl, refl)
operands_read (f ∷ fs) bs h = next_reads f fs bs h (λ rest k. operands_read fs rest k) (operand_at f bs) (operand_reads f bs h)

step : (f : Form) (fs : List Form) (bs : List ℕ) (s : Spec) (rest : List ℕ) → operand_at f bs ≡ Got s rest → operands_at (f ∷ fs) bs ≡ with_operands_before (s ∷ []) (operands_at fs rest)
step f fs bs s rest e = rw (e, operands_at)

pub operands_again : (fs : List Form) (bytes : List ℕ) (ss : List Spec) (rest : List ℕ) → Operands fs bytes ss → operands_at fs (bytes ++ rest) ≡ Got ss rest
operands_again [] bytes [] rest h = rw h
operands_again [] bytes (s ∷ ss) rest h = absurd h
operands_again (f ∷ fs) bytes [] rest h = absurd h
operands_again (f ∷ fs) bytes (s ∷ ss) rest h =
    let one : operand_at f (h.0 ++ (h.1 ++ rest)) ≡ Got s (h.1 ++ rest) = operand_again f h.0 s (h.1 ++ rest) h.3 in
    let more : operands_at fs (h.1 ++ rest) ≡ Got ss rest = operands_again fs h.1 ss rest h.4 in
    rw (h.2, append_assoc h.0 h.1 rest) (step f fs _ s _ one ∙ ap (with_operands_before (s ∷ [])) more)

got_stays : (f : Form) (bs ys : List ℕ) (s : Spec) (rest : List ℕ) → AreBytes bs → operand_at f bs ≡ Got s rest → operand_at f (bs ++ ys) ≡ Got s (rest ++ ys)
got_stays f bs ys s rest h e =
    let m : (front : List ℕ) × (bs ≡ front ++ rest) × SpellsOperand f front s = subst (λ o. Reads f bs o) e (operand_reads f bs h) in
    rw (m.1, append_assoc m.0 rest ys) (operand_again f m.0 s (rest ++ ys) m.2)

after_bad : (ss : List Spec) (o : AtFront (List Spec)) → with_operands_before ss o ≡ Bad → o ≡ Bad
after_bad ss (Got xs rest) e = cc
after_bad ss More e = cc
after_bad ss Bad e = refl

next_bad : (f : Form) (fs : List Form) (bs ys : List ℕ) → AreBytes bs → ((rest : List ℕ) → AreBytes rest → operands_at fs rest ≡ Bad → operands_at fs (rest ++ ys) ≡ Bad) →
    (o : AtFront Spec) → operand_at f bs ≡ o → (then_read o (λ s rest. with_operands_before (s ∷ []) (operands_at fs rest))) ≡ Bad → operands_at (f ∷ fs) (bs ++ ys) ≡ Bad
next_bad f fs bs ys h next (Got s rest) e g =
    let m : (front : List ℕ) × (bs ≡ front ++ rest) × SpellsOperand f front s = subst (λ o. Reads f bs o) e (operand_reads f bs h) in
    let bad : operands_at fs (rest ++ ys) ≡ Bad = next rest (AreBytes-back m.0 rest (subst AreBytes m.1 h)) (after_bad (s ∷ []) (operands_at fs rest) g) in
    step f fs (bs ++ ys) s (rest ++ ys) (got_stays f bs ys s rest h e) ∙ ap (with_operands_before (s ∷ [])) bad
next_bad f fs bs ys h next More e g = cc
next_bad f fs bs ys h next Bad e g = rw (operand_bad f bs ys e, operands_at)

pub operands_bad : (fs : List Form) (bs ys : List ℕ) → AreBytes bs → operands_at fs bs ≡ Bad → operands_at fs (bs ++ ys) ≡ Bad
operands_bad [] bs ys h e = cc
operands_bad (f ∷ fs) bs ys h e = next_bad f fs bs ys h (λ rest k. operands_bad fs rest ys k) (operand_at f bs) refl e
