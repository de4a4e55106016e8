-- How long spellings are.
use Rattle.std.proofs.Common.{◌≡◌, ◌≢◌, ℕ, ◌+◌, ◌*◌, ◌≤◌, ◌<◌, Bool, true, leb, List, [], ◌∷◌, length, Option, Some, None, replicate, get_or, refl, sym, ap, ◌∙◌, arith, length-append}
use Rattle.std.specs.Prelude.{map, if◌then◌else◌}
use Rattle.std.specs.List.{range_with_len}
use Rattle.std.proofs.lemmas.Bool.{leb-true}
use Rattle.std.proofs.lemmas.List.{get_or-replicate}
use Rattle.std.proofs.lemmas.List.FromFn.{get_or-map-range_with_len}
use Rattle.vv_base.specs.declared.width.Width.{Width}
use Rattle.vv_base.specs.declared.width.Width.TheVariants.{Byte, Word, Long, Quad}
use Rattle.vv_base.specs.Width.{size_of}
use Rattle.vax_table.specs.declared.forms.Form.{Form}
use Rattle.vax_table.specs.declared.decoded.Spec.{Spec}
use Rattle.vax_table.specs.Rows.{OpcodeEntry, row_of}
use Rattle.vax_table.specs.Spelling.{bytes_of, Displaces, byte, byte_deferred, word, word_deferred, long, long_deferred, Specifier, literal, register, register_deferred, autodecrement, autoincrement, immediate, autoincrement_deferred, absolute, displacement, SpellsOperand, specifier, indexed, branch, Operands, wait, of_row, IsShort}
use Rattle.vax_table.specs.Reading.{is_branch}
use Rattle.vax_table.proofs.Tests.{if_both, no_branch}
use Rattle.vax_table.proofs.Bytes.{length-bytes_of}

-- the most bytes of a specifier: an index, a first byte and a longword, or a quadword immediate
most_of_width : Width → ℕ
most_of_width Byte = 6
most_of_width Word = 6
most_of_width Long = 6
most_of_width Quad = 9

most_of : Form → ℕ
most_of f = if is_branch f.access then size_of f.width else most_of_width f.width

most_of_all : List Form → ℕ
most_of_all [] = 0
most_of_all (f ∷ fs) = most_of f + most_of_all fs

width_six : (w : Width) → 6 ≤ most_of_width w
unfolding most_of_width
width_six Byte = omega arith
width_six Word = omega arith
width_six Long = omega arith
width_six Quad = omega arith

width_immediate : (w : Width) → 1 + size_of w ≤ most_of_width w
unfolding most_of_width
width_immediate Byte = omega arith
width_immediate Word = omega arith
width_immediate Long = omega arith
width_immediate Quad = omega arith

width_nine : (w : Width) → most_of_width w ≤ 9
unfolding most_of_width
width_nine Byte = omega arith
width_nine Word = omega arith
width_nine Long = omega arith
width_nine Quad = omega arith

size_nine : (w : Width) → size_of w ≤ 9
size_nine Byte = omega arith
size_nine Word = omega arith
size_nine Long = omega arith
size_nine Quad = omega arith

displaces_most : (m k : ℕ) → Displaces m k → k ≤ 4
displaces_most m k byte = omega arith
displaces_most m k byte_deferred = omega arith
displaces_most m k word = omega arith
displaces_most m k word_deferred = omega arith
displaces_most m k long = omega arith
displaces_most m k long_deferred = omega arith

specifier_most : (f : Form) (bytes : List ℕ) (s : Spec) → Specifier f bytes s → length bytes ≤ most_of_width f.width
specifier_most f bytes s (literal n h a e g) = rw e (omega (arith, width_six f.width))
specifier_most f bytes s (register n h a p e g) = rw e (omega (arith, width_six f.width))
specifier_most f bytes s (register_deferred n h e g) = rw e (omega (arith, width_six f.width))
specifier_most f bytes s (autodecrement n h e g) = rw e (omega (arith, width_six f.width))
specifier_most f bytes s (autoincrement n h e g) = rw e (omega (arith, width_six f.width))
specifier_most f bytes s (immediate v h e g) = rw e (omega (arith, width_immediate f.width, length-bytes_of (size_of f.width) v))
specifier_most f bytes s (autoincrement_deferred n h e g) = rw e (omega (arith, width_six f.width))
specifier_most f bytes s (absolute v h e g) = rw e (omega (arith, width_six f.width, length-bytes_of 4 v))
specifier_most f bytes s (displacement mode k n v d h l e g) = rw e (omega (arith, width_six f.width, length-bytes_of k v, displaces_most mode k d))

head_of : (a b : ℕ) (xs ys : List ℕ) → a ∷ xs ≡ b ∷ ys → a ≡ b
head_of a b xs ys e = cc

-- after an index comes no immediate
indexed_most : (f : Form) (bytes : List ℕ) (b : ℕ) (rest : List ℕ) (s : Spec) → bytes ≡ b ∷ rest → b ≢ 0x8f → Specifier f bytes s → length bytes ≤ 5
indexed_most f bytes b rest s w i (literal n h a e g) = rw e (omega arith)
indexed_most f bytes b rest s w i (register n h a p e g) = rw e (omega arith)
indexed_most f bytes b rest s w i (register_deferred n h e g) = rw e (omega arith)
indexed_most f bytes b rest s w i (autodecrement n h e g) = rw e (omega arith)
indexed_most f bytes b rest s w i (autoincrement n h e g) = rw e (omega arith)
indexed_most f bytes b rest s w i (immediate v h e g) = absurd (i (head_of b 0x8f rest _ (sym w ∙ e)))
indexed_most f bytes b rest s w i (autoincrement_deferred n h e g) = rw e (omega arith)
indexed_most f bytes b rest s w i (absolute v h e g) = rw e (omega (arith, length-bytes_of 4 v))
indexed_most f bytes b rest s w i (displacement mode k n v d h l e g) = rw e (omega (arith, length-bytes_of k v, displaces_most mode k d))

operand_most : (f : Form) (bytes : List ℕ) (s : Spec) → SpellsOperand f bytes s → length bytes ≤ most_of f
unfolding most_of
operand_most f bytes s (specifier n b) = rw (no_branch f.access n) (specifier_most f bytes s b)
operand_most f bytes s (indexed n x h b r t l i m e g) =
    let five : length (b ∷ r) ≤ 5 = indexed_most f (b ∷ r) b r t refl i m in
    let six : 6 ≤ most_of_width f.width = width_six f.width in
    rw (no_branch f.access n, e) (omega arith)
operand_most f bytes s (branch a v h e g) =
    let t : is_branch f.access ≡ true = ap is_branch a in
    let len : length (bytes_of (size_of f.width) v) ≡ size_of f.width = length-bytes_of (size_of f.width) v in
    rw (t, e) (omega arith)

operands_most : (fs : List Form) (bytes : List ℕ) (ss : List Spec) → Operands fs bytes ss → length bytes ≤ most_of_all fs
unfolding most_of_all
operands_most [] bytes [] h = rw h (omega arith)
operands_most [] bytes (s ∷ ss) h = absurd h
operands_most (f ∷ fs) bytes [] h = absurd h
operands_most (f ∷ fs) bytes (s ∷ ss) h = rw h.2 (omega (arith, length-append {A = ℕ}, operand_most f h.0 s h.3, operands_most fs h.1 ss h.4))

most_nine : (f : Form) → most_of f ≤ 9
unfolding most_of most_of_width
most_nine f = if_both (λ n. n ≤ 9) (is_branch f.access) _ _ (λ t. size_nine f.width) (λ t. width_nine f.width)

pub operands_nine : (fs : List Form) (bytes : List ℕ) (ss : List Spec) → Operands fs bytes ss → length bytes ≤ 9 * length fs
operands_nine [] bytes [] h = rw h (omega arith)
operands_nine [] bytes (s ∷ ss) h = absurd h
operands_nine (f ∷ fs) bytes [] h = absurd h
operands_nine (f ∷ fs) bytes (s ∷ ss) h = rw h.2 (omega (arith, length-append {A = ℕ}, operand_most f h.0 s h.3, most_nine f, operands_nine fs h.1 ss h.4))

is_short : Option OpcodeEntry → Bool
is_short None = true
is_short (Some e) = leb (most_of_all e.operands) 20

-- all 256 at once, by computation
rows_are_short : map (λ n. is_short (row_of n)) (range_with_len 0 256) ≡ replicate 256 true
unfolding row_of is_short most_of_all most_of most_of_width
rows_are_short = refl

row_is_short : (n : ℕ) → n < 256 → is_short (row_of n) ≡ true
row_is_short n below =
    sym (get_or-map-range_with_len (λ k. is_short (row_of k)) 0 256 n n true below (omega arith))
    ∙ ap (λ (xs : List Bool). get_or xs n true) rows_are_short
    ∙ get_or-replicate 256 n true true below

row_most : (n : ℕ) (e : OpcodeEntry) → n < 256 → row_of n ≡ Some e → most_of_all e.operands ≤ 20
unfolding is_short
row_most n e below found =
    let short : is_short (row_of n) ≡ true = row_is_short n below in
    let here : is_short (Some e) ≡ true = ap is_short (sym found) ∙ short in
    leb-true _ _ here

pub spellings_short : IsShort
spellings_short bytes d (wait e g) = rw e (omega arith)
spellings_short bytes d (of_row x opcode rest specs b n q m e g) =
    rw e (omega (arith, operands_most x.operands rest specs m, row_most opcode x b q))
