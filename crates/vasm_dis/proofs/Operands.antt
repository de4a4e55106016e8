-- Operands are read as they are printed.
use Rattle.std.specs.List.{list_all}
use Rattle.std.specs.Prelude.{codes, ◌||◌, map}
use Rattle.std.proofs.Common.{◌≡◌, ◌≢◌, ◌==◌, ℕ, ◌+◌, ◌^◌, ◌<◌, ◌≤◌, Bool, true, false, eqb, List, [], ◌∷◌, ◌++◌, Option, Some, None, decimal, refl, sym, ap, ◌∙◌, arith, append-nil}
use Rattle.std.proofs.lemmas.Bool.{lt-ltb, ne_eqb}
use Rattle.vv_base.specs.Width.{size_of}
use Rattle.vax_table.specs.declared.forms.Form.{Form}
use Rattle.vax_table.specs.declared.decoded.Spec.{Spec}
use Rattle.vax_table.specs.Spelling.{unindexed, Displaces, byte, byte_deferred, word, word_deferred, long, long_deferred, Specifier, literal, register, register_deferred, autodecrement, autoincrement, immediate, autoincrement_deferred, absolute, displacement, SpellsOperand as Spelled, specifier, indexed, branch, Operands}
use Rattle.vax_table.specs.Reading.{is_branch}
use Rattle.vax_table.proofs.Tests.{no_branch}
use Rattle.vasm_text.specs.Cutting.{Cut, cut_at, before_mark}
use Rattle.vasm_text.specs.Operands.{specifier_in, value_in, operand_in, indexed_in, indexed as with_index, text_after_comma, operands_in}
use Rattle.vasm_text.specs.Printing.{register_text, field_text, displacement_text, increment_text, specifier_text, index_text, operand_text, text_after_mark}
use Rattle.vasm_dis.specs.Laws.{exact}
use Rattle.vasm_dis.proofs.Finite.{is_plain, ArePlain, register_plain, literal_plain}
use Rattle.vasm_dis.proofs.Cuts.{NonePass, cut_none, cut_here, free_of, all_join, all_wider}
use Rattle.vasm_dis.proofs.Fields.{IsSize, field_back, field_plain}
use Rattle.vasm_dis.proofs.Specifiers.{width_size, closed_back, specifier_back, displacement_texts}

-- the characters of a specifier without index: ( ) + - @ too
abbrev pub is_base : ℕ → Bool
is_base b = is_plain b || (b == 40 || (b == 41 || (b == 43 || (b == 45 || b == 64))))

-- and [ ] with one
abbrev pub is_whole : ℕ → Bool
is_whole b = is_base b || (b == 91 || b == 93)

base_of : (text : List ℕ) → ArePlain text → list_all is_base text ≡ true
base_of text all = all_wider is_plain is_base (λ b is. rw is) text all

pub whole_of : (text : List ℕ) → list_all is_base text ≡ true → list_all is_whole text ≡ true
whole_of text all = all_wider is_base is_whole (λ b is. rw is) text all

-- a register between two texts
around : (n : ℕ) (later : List ℕ) → n < 16 → list_all is_base later ≡ true → list_all is_base (register_text n ++ later) ≡ true
around n later below all = all_join is_base (register_text n) later (base_of (register_text n) (register_plain n below)) all

displaced : (k v n : ℕ) → n < 16 → list_all is_base (field_text k v ++ (codes "(" ++ (register_text n ++ codes ")"))) ≡ true
displaced k v n below = all_join is_base (field_text k v) (codes "(" ++ (register_text n ++ codes ")")) (base_of (field_text k v) (field_plain k v)) (around n (codes ")") below refl)

displacement_base : (mode k n v : ℕ) → Displaces mode k → n < 16 → list_all is_base (displacement_text (unindexed mode n v)) ≡ true
unfolding displacement_text
displacement_base mode k n v byte h = displaced 1 v n h
displacement_base mode k n v byte_deferred h = displaced 1 v n h
displacement_base mode k n v word h = displaced 2 v n h
displacement_base mode k n v word_deferred h = displaced 2 v n h
displacement_base mode k n v long h = displaced 4 v n h
displacement_base mode k n v long_deferred h = displaced 4 v n h

displaced_base : (f : Form) (mode k n v : ℕ) (s : Spec) → Displaces mode k → n < 16 → s ≡ unindexed mode n v → list_all is_base (specifier_text f s) ≡ true
displaced_base f mode k n v s d h g = ap (λ x. list_all is_base (specifier_text f x)) g ∙ ap (list_all is_base) (displacement_texts f mode k n v d) ∙ displacement_base mode k n v d h

pub specifier_base : (f : Form) (bytes : List ℕ) (s : Spec) → Specifier f bytes s → list_all is_base (specifier_text f s) ≡ true
unfolding specifier_text increment_text
specifier_base f bytes s (literal n h a e g) = rw g (base_of (decimal n) (literal_plain n h))
specifier_base f bytes s (register n h a p e g) = rw g (base_of (register_text n) (register_plain n (omega arith)))
specifier_base f bytes s (register_deferred n h e g) = rw g (around n (codes ")") (omega arith) refl)
specifier_base f bytes s (autodecrement n h e g) = rw g (around n (codes ")") (omega arith) refl)
specifier_base f bytes s (autoincrement n h e g) = let o : eqb n 15 ≡ false = ne_eqb n 15 (omega arith) in rw (g, o) (around n (codes ")+") (omega arith) refl)
specifier_base f bytes s (immediate v h e g) = rw g (base_of (field_text (size_of f.width) v) (field_plain (size_of f.width) v))
specifier_base f bytes s (autoincrement_deferred n h e g) = let o : eqb n 15 ≡ false = ne_eqb n 15 (omega arith) in rw (g, o) (around n (codes ")+") (omega arith) refl)
specifier_base f bytes s (absolute v h e g) = rw g (base_of (field_text 4 v) (field_plain 4 v))
specifier_base f bytes s (displacement mode k n v d h l e g) = displaced_base f mode k n v s d h g

-- ---- the index

no_index : (f : Form) (bytes : List ℕ) (s : Spec) → Specifier f bytes s → s.index ≡ None
no_index f bytes s (literal n h a e g) = ap (λ (t : Spec). t.index) g
no_index f bytes s (register n h a p e g) = ap (λ (t : Spec). t.index) g
no_index f bytes s (register_deferred n h e g) = ap (λ (t : Spec). t.index) g
no_index f bytes s (autodecrement n h e g) = ap (λ (t : Spec). t.index) g
no_index f bytes s (autoincrement n h e g) = ap (λ (t : Spec). t.index) g
no_index f bytes s (immediate v h e g) = ap (λ (t : Spec). t.index) g
no_index f bytes s (autoincrement_deferred n h e g) = ap (λ (t : Spec). t.index) g
no_index f bytes s (absolute v h e g) = ap (λ (t : Spec). t.index) g
no_index f bytes s (displacement mode k n v d h l e g) = ap (λ (t : Spec). t.index) g

head_of : (b c : ℕ) (xs ys : List ℕ) → b ∷ xs ≡ c ∷ ys → b ≡ c
head_of b c xs ys e = cc

-- what follows an index may
indexed_mode : (mode k n v x : ℕ) → Displaces mode k → with_index (exact (unindexed mode n v)) x ≡ Some (exact (record (unindexed mode n v) { index = Some x }))
indexed_mode mode k n v x byte = refl
indexed_mode mode k n v x byte_deferred = refl
indexed_mode mode k n v x word = refl
indexed_mode mode k n v x word_deferred = refl
indexed_mode mode k n v x long = refl
indexed_mode mode k n v x long_deferred = refl

indexable : (f : Form) (b : ℕ) (rest : List ℕ) (t : Spec) (x : ℕ) → 0x60 ≤ b → b ≢ 0x8f → Specifier f (b ∷ rest) t → with_index (exact t) x ≡ Some (exact (record t { index = Some x }))
indexable f b rest t x low other (literal n h a e g) = let is : b ≡ n = head_of b n _ _ e in absurd (omega arith)
indexable f b rest t x low other (register n h a p e g) = let is : b ≡ 0x50 + n = head_of b (0x50 + n) _ _ e in absurd (omega arith)
indexable f b rest t x low other (register_deferred n h e g) = rw g
indexable f b rest t x low other (autodecrement n h e g) = rw g
indexable f b rest t x low other (autoincrement n h e g) = let o : eqb n 15 ≡ false = ne_eqb n 15 (omega arith) in rw (g, o)
indexable f b rest t x low other (immediate v h e g) = absurd (other (head_of b 0x8f _ _ e))
indexable f b rest t x low other (autoincrement_deferred n h e g) = rw g
indexable f b rest t x low other (absolute v h e g) = rw g
indexable f b rest t x low other (displacement mode k n v d h l e g) = rw g (indexed_mode mode k n v x d)

-- ---- an operand

index_split : (f : Form) (c : Cut) (text : List ℕ) → is_branch f.access ≡ false → cut_at 91 text ≡ Some c → operand_in f text ≡ indexed_in f c
unfolding operand_in
index_split f c text other is = rw (other, is)

index_none : (f : Form) (text : List ℕ) → is_branch f.access ≡ false → cut_at 91 text ≡ None → operand_in f text ≡ specifier_in f text
unfolding operand_in
index_none f text other is = rw (other, is)

pub bare_text : (f : Form) (s : Spec) → is_branch f.access ≡ false → s.index ≡ None → operand_text f s ≡ specifier_text f s
unfolding operand_text
bare_text f s other none = rw other (ap (λ o. specifier_text f s ++ index_text o) none ∙ append-nil (specifier_text f s))

index_texts : (f : Form) (t : Spec) (x : ℕ) → is_branch f.access ≡ false → operand_text f (record t { index = Some x }) ≡ specifier_text f t ++ (codes "[" ++ (register_text x ++ codes "]"))
unfolding operand_text specifier_text increment_text displacement_text
index_texts f t x other = rw other

branch_text : (f : Form) (v : ℕ) → is_branch f.access ≡ true → operand_text f (unindexed 16 0 v) ≡ field_text (size_of f.width) v
unfolding operand_text
branch_text f v is = rw is

value_back : (size v : ℕ) → IsSize size → v < 256 ^ size → value_in size (field_text size v) ≡ Some (exact (unindexed 16 0 v))
unfolding value_in
value_back size v is below = rw (field_back size v is below)

branch_back : (f : Form) (v : ℕ) → is_branch f.access ≡ true → v < 256 ^ size_of f.width → operand_in f (field_text (size_of f.width) v) ≡ Some (exact (unindexed 16 0 v))
unfolding operand_in
branch_back f v is below = rw (is, value_back (size_of f.width) v (width_size f.width) below)

indexed_back : (f : Form) (b x : ℕ) (rest : List ℕ) (t : Spec) → x < 15 → 0x60 ≤ b → b ≢ 0x8f → Specifier f (b ∷ rest) t
    → indexed_in f (record { before = specifier_text f t; later = register_text x ++ codes "]" }) ≡ Some (exact (record t { index = Some x }))
indexed_back f b x rest t small low other m =
    rw (specifier_back f (b ∷ rest) t m, closed_back 93 x [] [] refl (omega arith), lt-ltb x 15 small) (indexable f b rest t x low other m)

indexed_whole : (f : Form) (b x : ℕ) (rest : List ℕ) (t : Spec) → is_branch f.access ≡ false → x < 15 → 0x60 ≤ b → b ≢ 0x8f → Specifier f (b ∷ rest) t
    → operand_in f (specifier_text f t ++ (codes "[" ++ (register_text x ++ codes "]"))) ≡ Some (exact (record t { index = Some x }))
indexed_whole f b x rest t is small low other m =
    index_split f _ (specifier_text f t ++ (codes "[" ++ (register_text x ++ codes "]"))) is
    (cut_here (λ c. c == 91) (specifier_text f t) 91 (register_text x ++ codes "]") (free_of is_base 91 refl (specifier_text f t) (specifier_base f (b ∷ rest) t m)) refl)
    ∙ indexed_back f b x rest t small low other m

pub operand_back : (f : Form) (bytes : List ℕ) (s : Spec) → Spelled f bytes s → operand_in f (operand_text f s) ≡ Some (exact s)
operand_back f bytes s (specifier n m) =
    let is : is_branch f.access ≡ false = no_branch f.access n in
    ap (operand_in f) (bare_text f s is (no_index f bytes s m))
    ∙ index_none f (specifier_text f s) is (cut_none (λ c. c == 91) (specifier_text f s) (free_of is_base 91 refl (specifier_text f s) (specifier_base f bytes s m)))
    ∙ specifier_back f bytes s m
operand_back f bytes s (indexed n x h b r t l i m e g) =
    let is : is_branch f.access ≡ false = no_branch f.access n in
    ap (λ y. operand_in f (operand_text f y)) g ∙ ap (operand_in f) (index_texts f t x is) ∙ indexed_whole f b x r t is h l i m ∙ ap (λ (y : Spec). Some (exact y)) (sym g)
operand_back f bytes s (branch a v h e g) =
    let is : is_branch f.access ≡ true = ap is_branch a in
    ap (λ y. operand_in f (operand_text f y)) g ∙ ap (operand_in f) (branch_text f v is) ∙ branch_back f v is h ∙ ap (λ (y : Spec). Some (exact y)) (sym g)

index_whole : (x : ℕ) → x < 16 → list_all is_whole (codes "[" ++ (register_text x ++ codes "]")) ≡ true
index_whole x below = all_join is_whole (register_text x) (codes "]") (whole_of (register_text x) (base_of (register_text x) (register_plain x below))) refl

pub operand_whole : (f : Form) (bytes : List ℕ) (s : Spec) → Spelled f bytes s → list_all is_whole (operand_text f s) ≡ true
operand_whole f bytes s (specifier n m) =
    ap (list_all is_whole) (bare_text f s (no_branch f.access n) (no_index f bytes s m)) ∙ whole_of (specifier_text f s) (specifier_base f bytes s m)
operand_whole f bytes s (indexed n x h b r t l i m e g) =
    ap (λ y. list_all is_whole (operand_text f y)) g ∙ ap (list_all is_whole) (index_texts f t x (no_branch f.access n))
    ∙ all_join is_whole (specifier_text f t) (codes "[" ++ (register_text x ++ codes "]")) (whole_of (specifier_text f t) (specifier_base f (b ∷ r) t m)) (index_whole x (omega arith))
operand_whole f bytes s (branch a v h e g) =
    ap (λ y. list_all is_whole (operand_text f y)) g ∙ ap (list_all is_whole) (branch_text f v (ap is_branch a))
    ∙ whole_of (field_text (size_of f.width) v) (base_of (field_text (size_of f.width) v) (field_plain (size_of f.width) v))

-- ---- operands with commas between

-- what follows the mark, where operands do
abbrev pub text_of : List Form → List Spec → Option (List ℕ)
text_of [] ss = None
text_of (f ∷ fs) [] = None
text_of (f ∷ fs) (s ∷ ss) = Some (operand_text f s ++ text_after_mark 44 fs ss)

comma_free : (f : Form) (bytes : List ℕ) (s : Spec) → Spelled f bytes s → NonePass (λ c. c == 44) (operand_text f s)
comma_free f bytes s m = free_of is_whole 44 refl (operand_text f s) (operand_whole f bytes s m)

abbrev kept_by : List ℕ → Option Cut → List ℕ
kept_by text None = text
kept_by text (Some c) = c.before

abbrev left_by : Option Cut → Option (List ℕ)
left_by None = None
left_by (Some c) = Some (c.later)

before_is : (text : List ℕ) (o : Option Cut) → cut_at 44 text ≡ o → before_mark 44 text ≡ kept_by text o
before_is text o is = ap (kept_by text) is

after_is : (text : List ℕ) (o : Option Cut) → cut_at 44 text ≡ o → text_after_comma text ≡ left_by o
after_is text o is = ap left_by is

split_last : (text : List ℕ) → NonePass (λ c. c == 44) text → (before_mark 44 (text ++ []) ≡ text) × (text_after_comma (text ++ []) ≡ None)
split_last text free =
    let is : cut_at 44 (text ++ []) ≡ None = ap (cut_at 44) (append-nil text) ∙ cut_none (λ c. c == 44) text free in
    (before_is (text ++ []) None is ∙ append-nil text, after_is (text ++ []) None is)

split_next : (text rest : List ℕ) → NonePass (λ c. c == 44) text → (before_mark 44 (text ++ 44 ∷ rest) ≡ text) × (text_after_comma (text ++ 44 ∷ rest) ≡ Some rest)
split_next text rest free =
    let c : Cut = record { before = text; later = rest } in
    let is : cut_at 44 (text ++ 44 ∷ rest) ≡ Some c = cut_here (λ b. b == 44) text 44 rest free refl in
    (before_is (text ++ 44 ∷ rest) (Some c) is, after_is (text ++ 44 ∷ rest) (Some c) is)

split_text : (text : List ℕ) (fs : List Form) (bytes : List ℕ) (ss : List Spec) → NonePass (λ c. c == 44) text → Operands fs bytes ss
    → (before_mark 44 (text ++ text_after_mark 44 fs ss) ≡ text) × (text_after_comma (text ++ text_after_mark 44 fs ss) ≡ text_of fs ss)
split_text text [] bytes ss free m = split_last text free
split_text text (g ∷ fs) bytes [] free m = absurd m
split_text text (g ∷ fs) bytes (s ∷ ss) free m = split_next text (operand_text g s ++ text_after_mark 44 fs ss) free

pub operands_back : (fs : List Form) (bytes : List ℕ) (ss : List Spec) → Operands fs bytes ss → operands_in fs (text_of fs ss) ≡ Some (map exact ss)
operands_back [] bytes [] m = refl
operands_back [] bytes (s ∷ ss) m = absurd m
operands_back (f ∷ fs) bytes [] m = absurd m
operands_back (f ∷ fs) bytes (s ∷ ss) m =
    let split : (before_mark 44 (operand_text f s ++ text_after_mark 44 fs ss) ≡ operand_text f s) × (text_after_comma (operand_text f s ++ text_after_mark 44 fs ss) ≡ text_of fs ss) =
    split_text (operand_text f s) fs m.1 ss (comma_free f m.0 s m.3) m.4 in
    rw (split.0, split.1, operand_back f m.0 s m.3, operands_back fs m.1 ss m.4)
