-- A specifier is read as it is printed.
use Rattle.std.specs.Prelude.{codes, ◌||◌, bytes_eq, is_none}
use Rattle.std.proofs.Common.{◌≡◌, ◌==◌, ℕ, ◌^◌, ◌<◌, Bool, true, false, eqb, List, [], ◌∷◌, ◌++◌, Option, Some, None, take, refl, sym, ap, ◌∙◌, arith, cond, eq-eqb}
use Rattle.std.proofs.lemmas.Bool.{lt-ltb, ne_eqb}
use Rattle.vv_base.specs.declared.width.Width.{Width}
use Rattle.vv_base.specs.declared.width.Width.TheVariants.{Byte, Word, Long, Quad}
use Rattle.vv_base.specs.Width.{size_of}
use Rattle.vax_table.specs.declared.forms.Form.{Form}
use Rattle.vax_table.specs.declared.decoded.Spec.{Spec}
use Rattle.vax_table.specs.Spelling.{unindexed, Displaces, byte, byte_deferred, word, word_deferred, long, long_deferred, Specifier, literal, register, register_deferred, autodecrement, autoincrement, immediate, autoincrement_deferred, absolute, displacement}
use Rattle.vax_table.specs.Reading.{is_read}
use Rattle.vax_table.proofs.Tests.{or_left, or_right, no_address, no_pair}
use Rattle.vasm_text.specs.Cutting.{Cut, cut_at}
use Rattle.vasm_text.specs.Operands.{SourceOperand, unnamed_operand, based, named_in, closed_in, literal_in, displaced_in, displacement_in, deferred_in, direct_in, specifier_in, register_operand_in}
use Rattle.vasm_text.specs.Printing.{register_text, field_text, displacement_text, increment_text, specifier_text}
use Rattle.vasm_dis.specs.Laws.{exact}
use Rattle.vasm_dis.proofs.Finite.{is_plain, register_plain, register_back, has_sign, register_bare, register_here, literal_back}
use Rattle.vasm_dis.proofs.Cuts.{cut_here, free_of}
use Rattle.vasm_dis.proofs.Fields.{IsSize, one, two, four, eight, field_back, field_plain}

same : (c : ℕ) → (c == c) ≡ true
same c = eq-eqb c c refl

-- a register before a closing mark
pub closed_back : (mark n : ℕ) (ending later : List ℕ) → is_plain mark ≡ false → n < 16 → closed_in mark ending (register_text n ++ mark ∷ later) ≡ cond (bytes_eq later ending) (Some n) None
unfolding closed_in
closed_back mark n ending later out below =
    rw (cut_here (λ b. b == mark) (register_text n) mark later (free_of is_plain mark out (register_text n) (register_plain n below)) (same mark), register_back n below)

abbrev split_by : ℕ → ℕ → List ℕ → Option Cut → Option SourceOperand
split_by mode size text None = named_in mode 15 text
split_by mode size text (Some c) = based mode size c

split_is : (mode size : ℕ) (text : List ℕ) (o : Option Cut) → cut_at 40 text ≡ o → displaced_in mode size text ≡ split_by mode size text o
unfolding displaced_in
split_is mode size text o is = ap (split_by mode size text) is

based_back : (mode size n v : ℕ) → IsSize size → v < 256 ^ size → n < 16 → based mode size (record { before = field_text size v; later = register_text n ++ codes ")" }) ≡ Some (unnamed_operand mode n v)
based_back mode size n v is below reg = rw (field_back size v is below, closed_back 41 n [] [] refl reg)

displaced_back : (mode size n v : ℕ) → IsSize size → v < 256 ^ size → n < 16 → displaced_in mode size (field_text size v ++ (codes "(" ++ (register_text n ++ codes ")"))) ≡ Some (unnamed_operand mode n v)
displaced_back mode size n v is below reg =
    split_is mode size (field_text size v ++ (codes "(" ++ (register_text n ++ codes ")"))) _ (cut_here (λ b. b == 40) (field_text size v) 40 (register_text n ++ codes ")") (free_of is_plain 40 refl (field_text size v) (field_plain size v)) refl)
    ∙ based_back mode size n v is below reg

pub width_size : (w : Width) → IsSize (size_of w)
width_size Byte = one
width_size Word = two
width_size Long = four
width_size Quad = eight

-- the modes with a displacement
displacement_back : (f : Form) (mode k n v : ℕ) → Displaces mode k → n < 16 → v < 256 ^ k → specifier_in f (displacement_text (unindexed mode n v)) ≡ Some (unnamed_operand mode n v)
unfolding specifier_in direct_in deferred_in displacement_in displacement_text
displacement_back f mode k n v byte h l = rw (displaced_back 0xa 1 n v one l h)
displacement_back f mode k n v byte_deferred h l = displaced_back 0xb 1 n v one l h
displacement_back f mode k n v word h l = rw (displaced_back 0xc 2 n v two l h)
displacement_back f mode k n v word_deferred h l = displaced_back 0xd 2 n v two l h
displacement_back f mode k n v long h l = rw (displaced_back 0xe 4 n v four l h)
displacement_back f mode k n v long_deferred h l = displaced_back 0xf 4 n v four l h

none_of : {A : Type 0} (o : Option A) → is_none o ≡ true → o ≡ None
none_of None is = refl
none_of (Some x) is = cc

-- a text without a sign is read as a register
bare_back : (f : Form) (text : List ℕ) → has_sign text ≡ false → displacement_in 0 text ≡ None → specifier_in f text ≡ register_operand_in f text
unfolding specifier_in direct_in
bare_back f text bare here =
    let s1 : Bool = bytes_eq (take 1 text) (codes "@") in
    let s2 : Bool = bytes_eq (take 3 text) (codes "S^#") in
    let s3 : Bool = bytes_eq (take 3 text) (codes "I^#") in
    let s4 : Bool = bytes_eq (take 2 text) (codes "-(") in
    let s5 : Bool = bytes_eq (take 1 text) (codes "(") in
    let b1 : s1 ≡ false = or_left s1 (s2 || (s3 || (s4 || s5))) bare in let r1 : (s2 || (s3 || (s4 || s5))) ≡ false = or_right s1 (s2 || (s3 || (s4 || s5))) bare in
    let b2 : s2 ≡ false = or_left s2 (s3 || (s4 || s5)) r1 in let r2 : (s3 || (s4 || s5)) ≡ false = or_right s2 (s3 || (s4 || s5)) r1 in
    let b3 : s3 ≡ false = or_left s3 (s4 || s5) r2 in let r3 : (s4 || s5) ≡ false = or_right s3 (s4 || s5) r2 in
    let b4 : s4 ≡ false = or_left s4 s5 r3 in let b5 : s5 ≡ false = or_right s4 s5 r3 in
    rw (b1, b2, b3, b4, b5, here)

pub displacement_texts : (f : Form) (mode k n v : ℕ) → Displaces mode k → specifier_text f (unindexed mode n v) ≡ displacement_text (unindexed mode n v)
unfolding specifier_text
displacement_texts f mode k n v byte = refl
displacement_texts f mode k n v byte_deferred = refl
displacement_texts f mode k n v word = refl
displacement_texts f mode k n v word_deferred = refl
displacement_texts f mode k n v long = refl
displacement_texts f mode k n v long_deferred = refl

displaced_specifier : (f : Form) (mode k n v : ℕ) (s : Spec) → Displaces mode k → n < 16 → v < 256 ^ k → s ≡ unindexed mode n v → specifier_in f (specifier_text f s) ≡ Some (record { spec = s; name = None })
displaced_specifier f mode k n v s d h l g =
    ap (λ x. specifier_in f (specifier_text f x)) g ∙ ap (specifier_in f) (displacement_texts f mode k n v d) ∙ displacement_back f mode k n v d h l ∙ ap (λ (x : Spec). Some (exact x)) (sym g)

pub specifier_back : (f : Form) (bytes : List ℕ) (s : Spec) → Specifier f bytes s → specifier_in f (specifier_text f s) ≡ Some (record { spec = s; name = None })
unfolding specifier_in direct_in deferred_in literal_in specifier_text increment_text
specifier_back f bytes s (literal n h a e g) = rw (g, ap is_read a, literal_back n h, lt-ltb n 64 h)
specifier_back f bytes s (register n h a p e g) =
    let low : n < 16 = omega arith in
    rw (g, bare_back f (register_text n) (register_bare n low) (none_of (displacement_in 0 (register_text n)) (register_here n low)), register_back n low, lt-ltb n 15 h, no_address f.access a, no_pair f.width n p)
specifier_back f bytes s (register_deferred n h e g) = let low : n < 16 = omega arith in rw (g, closed_back 41 n [] [] refl low, lt-ltb n 15 h)
specifier_back f bytes s (autodecrement n h e g) = let low : n < 16 = omega arith in rw (g, closed_back 41 n [] [] refl low, lt-ltb n 15 h)
specifier_back f bytes s (autoincrement n h e g) =
    let low : n < 16 = omega arith in let o : eqb n 15 ≡ false = ne_eqb n 15 (omega arith) in
    rw (g, o, closed_back 41 n [] (codes "+") refl low, closed_back 41 n (codes "+") (codes "+") refl low, lt-ltb n 15 h)
specifier_back f bytes s (immediate v h e g) = rw (g, field_back (size_of f.width) v (width_size f.width) h)
specifier_back f bytes s (autoincrement_deferred n h e g) =
    let low : n < 16 = omega arith in let o : eqb n 15 ≡ false = ne_eqb n 15 (omega arith) in
    rw (g, o, closed_back 41 n (codes "+") (codes "+") refl low, lt-ltb n 15 h)
specifier_back f bytes s (absolute v h e g) = rw (g, field_back 4 v four h)
specifier_back f bytes s (displacement mode k n v d h l e g) = displaced_specifier f mode k n v s d h l g
