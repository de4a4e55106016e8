-- No spelling begins another, and each instruction has one.
use Rattle.std.proofs.Common.{◌≡◌, ℕ, ◌+◌, ◌*◌, true, false, eqb, List, [], ◌∷◌, ◌++◌, Some, None, refl, sym, ap, subst, ◌∙◌, arith}
use Rattle.std.proofs.lemmas.Bool.{ne_eqb}
use Rattle.vax_table.specs.declared.forms.Form.{Form}
use Rattle.vax_table.specs.declared.decoded.Spec.{Spec}
use Rattle.vax_table.specs.Rows.{OpcodeEntry, row_of}
use Rattle.vax_table.specs.Spelling.{bytes_of, unindexed, Displaces, byte, byte_deferred, word, word_deferred, long, long_deferred, Specifier, literal, register, register_deferred, autodecrement, autoincrement, immediate, autoincrement_deferred, absolute, displacement, SpellsOperand, specifier, indexed, branch, Operands, Instruction, Spells, wait, of_row, IsPrefixFree, HasOneSpelling}
use Rattle.vax_table.specs.Reading.{is_branch, decoded_at, Whole}
use Rattle.vax_table.specs.Spelled.{value_size, spelled_specifier, spelled, spelled_all}
use Rattle.vax_table.proofs.Tests.{no_branch}
use Rattle.vax_table.proofs.Instructions.{spelled_again}

displaced : (f : Form) (mode k n v : ℕ) → Displaces mode k → (16 * mode + n) ∷ bytes_of k v ≡ spelled_specifier f (unindexed mode n v)
unfolding spelled_specifier value_size
displaced f mode k n v byte = refl
displaced f mode k n v byte_deferred = refl
displaced f mode k n v word = refl
displaced f mode k n v word_deferred = refl
displaced f mode k n v long = refl
displaced f mode k n v long_deferred = refl

specifier_spelled : (f : Form) (bytes : List ℕ) (s : Spec) → Specifier f bytes s → bytes ≡ spelled_specifier f s
unfolding spelled_specifier value_size
specifier_spelled f bytes s (literal n h a e g) = rw (e, g)
specifier_spelled f bytes s (register n h a p e g) = rw (e, g)
specifier_spelled f bytes s (register_deferred n h e g) = rw (e, g)
specifier_spelled f bytes s (autodecrement n h e g) = rw (e, g)
specifier_spelled f bytes s (autoincrement n h e g) = let o : eqb n 15 ≡ false = ne_eqb n 15 (omega arith) in rw (e, g) (rw o)
specifier_spelled f bytes s (immediate v h e g) = rw (e, g)
specifier_spelled f bytes s (autoincrement_deferred n h e g) = let o : eqb n 15 ≡ false = ne_eqb n 15 (omega arith) in rw (e, g) (rw o)
specifier_spelled f bytes s (absolute v h e g) = rw (e, g)
specifier_spelled f bytes s (displacement mode k n v d h l e g) = rw (e, g) (displaced f mode k n v d)

no_index : (f : Form) (bytes : List ℕ) (s : Spec) → Specifier f bytes s → s.index ≡ None
no_index f bytes s (literal n h a e g) = ap (λ t. t.index) g
no_index f bytes s (register n h a p e g) = ap (λ t. t.index) g
no_index f bytes s (register_deferred n h e g) = ap (λ t. t.index) g
no_index f bytes s (autodecrement n h e g) = ap (λ t. t.index) g
no_index f bytes s (autoincrement n h e g) = ap (λ t. t.index) g
no_index f bytes s (immediate v h e g) = ap (λ t. t.index) g
no_index f bytes s (autoincrement_deferred n h e g) = ap (λ t. t.index) g
no_index f bytes s (absolute v h e g) = ap (λ t. t.index) g
no_index f bytes s (displacement mode k n v d h l e g) = ap (λ t. t.index) g

pub operand_spelled : (f : Form) (bytes : List ℕ) (s : Spec) → SpellsOperand f bytes s → bytes ≡ spelled f s
unfolding spelled spelled_specifier value_size
operand_spelled f bytes s (specifier n b) = rw (no_branch f.access n, no_index f bytes s b) (specifier_spelled f bytes s b)
operand_spelled f bytes s (indexed n x h b r t l i m e g) = rw (e, g, no_branch f.access n) (ap (λ xs. (0x40 + x) ∷ xs) (specifier_spelled f (b ∷ r) t m))
operand_spelled f bytes s (branch a v h e g) = let t : is_branch f.access ≡ true = ap is_branch a in rw (e, g, t)

pub operands_spelled : (fs : List Form) (bytes : List ℕ) (ss : List Spec) → Operands fs bytes ss → bytes ≡ spelled_all fs ss
operands_spelled [] bytes [] h = h
operands_spelled [] bytes (s ∷ ss) h = absurd h
operands_spelled (f ∷ fs) bytes [] h = absurd h
operands_spelled (f ∷ fs) bytes (s ∷ ss) h = h.2 ∙ (ap (λ xs. xs ++ h.1) (operand_spelled f h.0 s h.3) ∙ ap (λ ys. spelled f s ++ ys) (operands_spelled fs h.1 ss h.4))

pub unique : HasOneSpelling
unique a b d (wait e g) (wait e' g') = e ∙ sym e'
unique a b d (wait e g) (of_row x o r s l n q m e' g') = absurd (n (ap (λ i. i.opcode) (sym g') ∙ ap (λ i. i.opcode) g))
unique a b d (of_row x o r s l n q m e g) (wait e' g') = absurd (n (ap (λ i. i.opcode) (sym g) ∙ ap (λ i. i.opcode) g'))
unique a b d (of_row x o r s l n q m e g) (of_row x' o' r' s' l' n' q' m' e' g') =
    let op : o ≡ o' = ap (λ i. i.opcode) (sym g ∙ g') in
    let sp : s ≡ s' = ap (λ i. i.specs) (sym g ∙ g') in
    let row : Some x ≡ Some x' = sym q ∙ (ap row_of op ∙ q') in
    let en : x ≡ x' = cc in
    let rest : r ≡ r' = operands_spelled x.operands r s m ∙ (ap (λ (y : OpcodeEntry). spelled_all y.operands s) en ∙ (ap (spelled_all x'.operands) sp ∙ sym (operands_spelled x'.operands r' s' m'))) in
    cc

pub rest_same : (a b x y : List ℕ) (d e : Instruction) → Spells a d → Spells b e → a ++ x ≡ b ++ y → (d ≡ e) × (x ≡ y)
rest_same a b x y d e p q h =
    let one : Whole d x ≡ Whole e y = sym (spelled_again a x d p) ∙ (ap decoded_at h ∙ spelled_again b y e q) in
    (cc, cc)

pub prefix_free : IsPrefixFree
prefix_free a b x y d e p q h =
    let s : (d ≡ e) × (x ≡ y) = rest_same a b x y d e p q h in
    let g : Spells b d = subst (Spells b) (sym s.0) q in
    (unique a b d p g, s.0)
