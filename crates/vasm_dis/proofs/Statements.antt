-- A statement's line is read as it is printed.
use Rattle.std.specs.Option.{option_map_or, unwrap_or}
use Rattle.std.specs.List.{list_all, range_with_len}
use Rattle.std.specs.Prelude.{codes, ◌||◌, map, bytes_eq, is_some, if◌then◌else◌}
use Rattle.std.proofs.Common.{◌≡◌, ◌==◌, ℕ, ◌<◌, ◌&&◌, Bool, true, false, List, [], ◌∷◌, ◌++◌, Option, Some, None, nat_le, refl, sym, ap, subst, ◌∙◌, append-nil}
use Rattle.vax_table.specs.declared.forms.Form.{Form}
use Rattle.vax_table.specs.declared.decoded.Spec.{Spec}
use Rattle.vax_table.specs.Rows.{OpcodeEntry, row_of}
use Rattle.vax_table.specs.Spelling.{SpellsOperand as Spelled, Operands}
use Rattle.vax_table.specs.Reading.{is_branch}
use Rattle.vax_table.proofs.Tests.{or_left, or_right}
use Rattle.vv_base.specs.Names.{is_object_name}
use Rattle.vasm_text.specs.Cutting.{Cut, cut, cut_at, is_blank, trimmed, unless_blank, without_front, without_back, before_mark}
use Rattle.vasm_text.specs.Mnemonics.{mnemonic_of, opcode_of}
use Rattle.vasm_text.specs.Operands.{SourceOperand, unnamed_operand, operand_in, value_in, specifier_in, direct_in, displacement_in, operands_in}
use Rattle.vasm_text.specs.Numbers.{number_in, field_in, register_in}
use Rattle.vasm_text.specs.Statements.{Statement, Field, Instruct, SourceLine, forms_of, words_in, statement_in, unlabelled, after_label, content_in, source_line_in}
use Rattle.vasm_text.specs.Printing.{operand_text, text_after_mark, instruction_text, byte_text, field_text}
use Rattle.vasm_text.proofs.Apart.{are_apart}
use Rattle.vasm_dis.proofs.Finite.{everywhere, is_plain, ArePlain, name_plain}
use Rattle.vasm_dis.proofs.Cuts.{NonePass, cut_none, cut_here, free_of, no_blanks, all_join, all_wider, back_kept, back_join, front_kept}
use Rattle.vasm_dis.proofs.Fields.{one, field_back, field_plain}
use Rattle.vasm_dis.specs.Laws.{exact}
use Rattle.vasm_dis.proofs.Operands.{is_whole, operand_back, operand_whole, operands_back}

-- ---- names of instructions

is_directive : List ℕ → Bool
is_directive word = bytes_eq word (codes ".byte") || (bytes_eq word (codes ".word") || bytes_eq word (codes ".long"))

abbrev starts : List ℕ → Bool
starts [] = true
starts (b ∷ bs) = is_plain b

abbrev is_filled : Option (List ℕ) → Bool
is_filled None = true
is_filled (Some []) = false
is_filled (Some (b ∷ bs)) = true

names_filled : map (λ n. is_filled (mnemonic_of n)) (range_with_len 0 256) ≡ map (λ n. true) (range_with_len 0 256)
unfolding mnemonic_of
names_filled = refl

names_others : map (λ n. is_directive (unwrap_or (mnemonic_of n) [])) (range_with_len 0 256) ≡ map (λ n. false) (range_with_len 0 256)
unfolding mnemonic_of is_directive
names_others = refl

-- the name of an instruction
record IsNamed (n c : ℕ) (cs : List ℕ) : Type 0 where
  name : mnemonic_of n ≡ Some (c ∷ cs)
  plain : ArePlain (c ∷ cs)
  other : is_directive (c ∷ cs) ≡ false
  back : opcode_of (c ∷ cs) ≡ Some n

named_by : (n : ℕ) (o : Option (List ℕ)) → n < 256 → mnemonic_of n ≡ o → is_some o ≡ true → is_filled o ≡ true → (c : ℕ) × (cs : List ℕ) × IsNamed n c cs
named_by n None below is some filled = absurd cc
named_by n (Some []) below is some filled = absurd cc
named_by n (Some (c ∷ cs)) below is some filled = (
  c,
  cs,
  record {
    name = is;
    plain = sym (ap (λ o. list_all is_plain (unwrap_or o [])) is) ∙ name_plain n below;
    other = sym (ap (λ o. is_directive (unwrap_or o [])) is) ∙ everywhere (λ k. is_directive (unwrap_or (mnemonic_of k) [])) (λ k. false) 256 names_others n below;
    back = are_apart.back n (c ∷ cs) below is;
  },
)

named : (n : ℕ) (e : OpcodeEntry) → n < 256 → row_of n ≡ Some e → (c : ℕ) × (cs : List ℕ) × IsNamed n c cs
named n e below is = named_by n (mnemonic_of n) below refl (are_apart.every n below ∙ ap is_some is) (everywhere (λ k. is_filled (mnemonic_of k)) (λ k. true) 256 names_filled n below)

-- ---- a line

-- the characters of lines
abbrev pub is_line : ℕ → Bool
is_line b = is_whole b || (b == 44 || (b == 32 || (b == 46 || (nat_le 97 b && nat_le b 122))))

-- those after the blank
abbrev is_tail : ℕ → Bool
is_tail b = is_whole b || b == 44

pub record ReadsAs (text : List ℕ) (s : Statement) : Type 0 where
  pub chars : list_all is_line text ≡ true
  pub first : (c : ℕ) × (cs : List ℕ) × (text ≡ c ∷ cs) × (is_blank c ≡ false)
  pub back : without_back text ≡ text
  pub said : statement_in text ≡ Some s

abbrev uncommented_by : List ℕ → Option Cut → List ℕ
uncommented_by text None = text
uncommented_by text (Some c) = c.before

uncommented : (text : List ℕ) → cut_at 59 text ≡ None → before_mark 59 text ≡ text
uncommented text is = ap (uncommented_by text) is

abbrev content_by : List ℕ → Option Cut → Option SourceLine
content_by text None = unlabelled text
content_by text (Some c) = if is_object_name c.before then after_label c.before c.later else None

unlabelled_is : (text : List ℕ) → cut_at 58 text ≡ None → content_in text ≡ unlabelled text
unfolding content_in
unlabelled_is text is = ap (content_by text) is

saying_is : (c : ℕ) (cs : List ℕ) (s : Statement) → statement_in (c ∷ cs) ≡ Some s → unlabelled (c ∷ cs) ≡ Some (record { label = None; statement = Some s })
saying_is c cs s is = rw is

line_by : (text : List ℕ) (s : Statement) (c : ℕ) (cs : List ℕ) → text ≡ c ∷ cs → is_blank c ≡ false → ReadsAs text s → source_line_in text ≡ Some (record { label = None; statement = Some s })
unfolding source_line_in
line_by text s c cs is other r =
    let first : without_front text ≡ text = ap without_front is ∙ front_kept c cs other ∙ sym is in
    ap (λ t. content_in (trimmed t)) (uncommented text (cut_none (λ b. b == 59) text (free_of is_line 59 refl text r.chars)))
    ∙ ap content_in (ap without_back first ∙ r.back)
    ∙ unlabelled_is text (cut_none (λ b. b == 58) text (free_of is_line 58 refl text r.chars))
    ∙ ap unlabelled is ∙ saying_is c cs s (sym (ap statement_in is) ∙ r.said)

pub line_back : (text : List ℕ) (s : Statement) → ReadsAs text s → source_line_in text ≡ Some (record { label = None; statement = Some s })
line_back text s r = line_by text s r.first.0 r.first.1 r.first.2 r.first.3 r

-- ---- an instruction

abbrev said_by : List ℕ → Option Cut → Option Statement
said_by text None = words_in text None
said_by text (Some c) = words_in c.before (Some (c.later))

said_is : (text : List ℕ) (o : Option Cut) → cut is_blank text ≡ o → statement_in text ≡ said_by text o
unfolding statement_in
said_is text o is = ap (said_by text) is

words_back : (word : List ℕ) (text : Option (List ℕ)) (opcode : ℕ) (os : List SourceOperand) → is_directive word ≡ false → opcode_of word ≡ Some opcode → operands_in (forms_of opcode) text ≡ Some os → words_in word text ≡ Some (Instruct opcode os)
unfolding words_in is_directive
words_back word text opcode os other op is =
    let s1 : Bool = bytes_eq word (codes ".byte") in
    let s2 : Bool = bytes_eq word (codes ".word") in
    let s3 : Bool = bytes_eq word (codes ".long") in
    let b1 : s1 ≡ false = or_left s1 (s2 || s3) other in let r1 : (s2 || s3) ≡ false = or_right s1 (s2 || s3) other in
    let b2 : s2 ≡ false = or_left s2 s3 r1 in let b3 : s3 ≡ false = or_right s2 s3 r1 in
    rw (b1, b2, b3, op, is)

-- the name, and its operands after a blank
said_back : (word : List ℕ) (opcode : ℕ) (fs : List Form) (bytes : List ℕ) (ss : List Spec) → ArePlain word → is_directive word ≡ false → opcode_of word ≡ Some opcode → forms_of opcode ≡ fs → Operands fs bytes ss
    → statement_in (word ++ text_after_mark 32 fs ss) ≡ Some (Instruct opcode (map exact ss))
said_back word opcode [] bytes [] all other op forms m =
    ap statement_in (append-nil word) ∙ said_is word None (cut_none is_blank word (no_blanks is_plain refl refl word all))
    ∙ words_back word None opcode [] other op (ap (λ fs. operands_in fs None) forms ∙ operands_back [] bytes [] m)
said_back word opcode [] bytes (s ∷ ss) all other op forms m = absurd m
said_back word opcode (f ∷ fs) bytes [] all other op forms m = absurd m
said_back word opcode (f ∷ fs) bytes (s ∷ ss) all other op forms m =
    let rest : List ℕ = operand_text f s ++ text_after_mark 44 fs ss in
    let c : Cut = record { before = word; later = rest } in
    said_is (word ++ 32 ∷ rest) (Some c) (cut_here is_blank word 32 rest (no_blanks is_plain refl refl word all) refl)
    ∙ words_back word (Some rest) opcode (map exact (s ∷ ss)) other op (ap (λ gs. operands_in gs (Some rest)) forms ∙ operands_back (f ∷ fs) bytes (s ∷ ss) m)

-- an operand shows something
some_none : {A : Type 0} (x : A) → None ≡ Some x → ⊥
some_none {A = A} x is = let P : Option A → Type 0 = λ o. elim o [ None ↦ Unit {0} | Some y ↦ ⊥ ] in subst P is tt

empty_operand : (f : Form) (t : Bool) → is_branch f.access ≡ t → operand_in f [] ≡ None
unfolding operand_in value_in field_in number_in specifier_in direct_in displacement_in register_in
empty_operand f true is = rw is
empty_operand f false is = rw is

filled : (f : Form) (bytes : List ℕ) (s : Spec) (text : List ℕ) → Spelled f bytes s → operand_text f s ≡ text → (c : ℕ) × (cs : List ℕ) × (text ≡ c ∷ cs)
filled f bytes s [] m is =
    let none : None ≡ Some (exact s) = sym (empty_operand f (is_branch f.access) refl) ∙ ap (operand_in f) (sym is) ∙ operand_back f bytes s m in
    absurd (some_none (exact s) none)
filled f bytes s (c ∷ cs) m is = (c, cs, refl)

-- operands after a comma, and all after the blank
tail_all : (fs : List Form) (bytes : List ℕ) (ss : List Spec) → Operands fs bytes ss → list_all is_tail (text_after_mark 44 fs ss) ≡ true
tail_all [] bytes [] m = refl
tail_all [] bytes (s ∷ ss) m = absurd m
tail_all (f ∷ fs) bytes [] m = absurd m
tail_all (f ∷ fs) bytes (s ∷ ss) m = all_join is_tail (operand_text f s) (text_after_mark 44 fs ss) (all_wider is_whole is_tail (λ b is. rw is) (operand_text f s) (operand_whole f m.0 s m.3)) (tail_all fs m.1 ss m.4)

tail_line : (b : ℕ) (whole comma more : Bool) → (whole || comma) ≡ true → (whole || (comma || more)) ≡ true
tail_line b true comma more is = refl
tail_line b false true more is = refl
tail_line b false false more is = cc

line_of : (text : List ℕ) → list_all is_tail text ≡ true → list_all is_line text ≡ true
line_of text all = all_wider is_tail is_line (λ b is. tail_line b (is_whole b) (b == 44) (b == 32 || (b == 46 || (nat_le 97 b && nat_le b 122))) is) text all

name_line : (text : List ℕ) → ArePlain text → list_all is_line text ≡ true
name_line text all = all_wider is_plain is_line (λ b is. rw is) text all

blank_end : (c : ℕ) (cs : List ℕ) → without_back (c ∷ cs) ≡ c ∷ cs → without_back (32 ∷ c ∷ cs) ≡ 32 ∷ c ∷ cs
blank_end c cs is = ap (unless_blank 32) is

-- a text after the blank
back_of : (word rest : List ℕ) (c : ℕ) (cs : List ℕ) → rest ≡ c ∷ cs → list_all is_tail rest ≡ true → without_back (word ++ 32 ∷ rest) ≡ word ++ 32 ∷ rest
back_of word rest c cs is all =
    let kept : without_back rest ≡ rest = back_kept rest (no_blanks is_tail refl refl rest all) in
    let whole : without_back (32 ∷ rest) ≡ 32 ∷ rest = ap (λ r. without_back (32 ∷ r)) is ∙ blank_end c cs (ap without_back (sym is) ∙ kept ∙ is) ∙ ap (λ (r : List ℕ). 32 ∷ r) (sym is) in
    back_join word 32 rest whole

first_of_two : (xs ys : List ℕ) (c : ℕ) (cs : List ℕ) → xs ≡ c ∷ cs → xs ++ ys ≡ c ∷ (cs ++ ys)
first_of_two xs ys c cs is = ap (λ (zs : List ℕ). zs ++ ys) is

plain_no_blank : (c : ℕ) (cs : List ℕ) → ArePlain (c ∷ cs) → is_blank c ≡ false
plain_no_blank c cs all = let none : NonePass is_blank (c ∷ cs) = no_blanks is_plain refl refl (c ∷ cs) all in none.0

instruction_by : (opcode c : ℕ) (cs : List ℕ) (fs : List Form) (bytes : List ℕ) (ss : List Spec) → IsNamed opcode c cs → forms_of opcode ≡ fs → Operands fs bytes ss → ReadsAs ((c ∷ cs) ++ text_after_mark 32 fs ss) (Instruct opcode (map exact ss))
instruction_by opcode c cs [] bytes [] n forms m = record {
  chars = ap (list_all is_line) (append-nil (c ∷ cs)) ∙ name_line (c ∷ cs) n.plain;
  first = (c, cs ++ [], refl, plain_no_blank c cs n.plain);
  back = ap without_back (append-nil (c ∷ cs)) ∙ back_kept (c ∷ cs) (no_blanks is_plain refl refl (c ∷ cs) n.plain) ∙ sym (append-nil (c ∷ cs));
  said = said_back (c ∷ cs) opcode [] bytes [] n.plain n.other n.back forms m;
}
instruction_by opcode c cs [] bytes (s ∷ ss) n forms m = absurd m
instruction_by opcode c cs (f ∷ fs) bytes [] n forms m = absurd m
instruction_by opcode c cs (f ∷ fs) bytes (s ∷ ss) n forms m =
    let rest : List ℕ = operand_text f s ++ text_after_mark 44 fs ss in
    let all : list_all is_tail rest ≡ true = tail_all (f ∷ fs) bytes (s ∷ ss) m in
    let some : (d : ℕ) × (ds : List ℕ) × (operand_text f s ≡ d ∷ ds) = filled f m.0 s (operand_text f s) m.3 refl in
    record {
      chars = all_join is_line (c ∷ cs) (32 ∷ rest) (name_line (c ∷ cs) n.plain) (line_of rest all);
      first = (c, cs ++ 32 ∷ rest, refl, plain_no_blank c cs n.plain);
      back = back_of (c ∷ cs) rest some.0 (some.1 ++ text_after_mark 44 fs ss) (first_of_two (operand_text f s) (text_after_mark 44 fs ss) some.0 some.1 some.2) all;
      said = said_back (c ∷ cs) opcode (f ∷ fs) bytes (s ∷ ss) n.plain n.other n.back forms m;
    }

printed_is : (opcode c : ℕ) (cs : List ℕ) (fs : List Form) (ss : List Spec) → mnemonic_of opcode ≡ Some (c ∷ cs) → forms_of opcode ≡ fs → instruction_text opcode ss ≡ (c ∷ cs) ++ text_after_mark 32 fs ss
unfolding instruction_text
printed_is opcode c cs fs ss name forms = ap (λ o. unwrap_or o [] ++ text_after_mark 32 (forms_of opcode) ss) name ∙ ap (λ gs. (c ∷ cs) ++ text_after_mark 32 gs ss) forms

pub instruction_line : (opcode : ℕ) (e : OpcodeEntry) (bytes : List ℕ) (ss : List Spec) → opcode < 256 → row_of opcode ≡ Some e → Operands e.operands bytes ss → ReadsAs (instruction_text opcode ss) (Instruct opcode (map exact ss))
unfolding forms_of
instruction_line opcode e bytes ss below row m =
    let n : (c : ℕ) × (cs : List ℕ) × IsNamed opcode c cs = named opcode e below row in
    let forms : forms_of opcode ≡ e.operands = ap (λ o. option_map_or (λ e. e.operands) o []) row in
    let P : List ℕ → Type 0 = λ text. ReadsAs text (Instruct opcode (map exact ss)) in
    subst P (sym (printed_is opcode n.0 n.1 e.operands ss n.2.name forms)) (instruction_by opcode n.0 n.1 e.operands bytes ss n.2 forms m)

-- ---- a byte by itself

byte_word : (b : ℕ) → b < 256 → words_in (codes ".byte") (Some (field_text 1 b)) ≡ Some (Field 1 (unnamed_operand 16 0 b))
unfolding words_in
byte_word b below = rw (field_back 1 b one below)

byte_said : (b : ℕ) → b < 256 → statement_in (byte_text b) ≡ Some (Field 1 (unnamed_operand 16 0 b))
unfolding byte_text
byte_said b below =
    let c : Cut = record { before = codes ".byte"; later = field_text 1 b } in
    said_is (codes ".byte " ++ field_text 1 b) (Some c) refl ∙ byte_word b below

field_tail : (b : ℕ) → list_all is_tail (field_text 1 b) ≡ true
field_tail b = all_wider is_plain is_tail (λ x is. rw is) (field_text 1 b) (field_plain 1 b)

pub byte_line : (b : ℕ) → b < 256 → ReadsAs (byte_text b) (Field 1 (unnamed_operand 16 0 b))
unfolding byte_text field_text
byte_line b below = record {
  chars = line_of (field_text 1 b) (field_tail b);
  first = (46, _, refl, refl);
  back = back_of (codes ".byte") (field_text 1 b) 94 _ refl (field_tail b);
  said = byte_said b below;
}
