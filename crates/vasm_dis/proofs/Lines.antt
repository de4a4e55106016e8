-- The first line of an image's text, and the text of the rest.
use Rattle.std.proofs.Common.{◌≡◌, ◌==◌, true, ℕ, zero, suc, ◌+◌, ◌<◌, ◌≤◌, List, [], ◌∷◌, ◌++◌, length, drop, get_or, refl, sym, ap, subst, ◌∙◌, arith, append_assoc, append-nil, length-append}
use Rattle.std.proofs.lemmas.List.{drop_at}
use Rattle.vax_table.specs.declared.decoded.Decoded.{Decoded}
use Rattle.vax_table.specs.Spelling.{AreBytes, Instruction, view, Spells, wait, of_row}
use Rattle.vax_table.specs.Reading.{Decoding, Whole, Short, Unknown, Reserved, decoded_at, IsAnswerFor}
use Rattle.vax_table.proofs.Bytes.{AreBytes-back}
use Rattle.vax_table.proofs.Instructions.{reading_exact}
use Rattle.vax_decode.specs.declared.outcome.Decode.TheVariants.{NeedMore, Fault}
use Rattle.vax_decode.specs.declared.outcome.DecodeFault.{DecodeFault}
use Rattle.vax_decode.specs.declared.outcome.DecodeFault.TheVariants.{Opcode, Addressing}
use Rattle.vax_decode.specs.Decoding.{IsWhole, IsAnswer}
use Rattle.vasm_dis.specs.First.{IsNone}
use Rattle.vasm_text.specs.Printing.{instruction_text, byte_text}
use Rattle.vasm_text.specs.Dis.{and_others, disassembled_by, disassembled_lines, dis_of}
use Rattle.vasm_text.specs.Front.{front_by, front_text}

-- a spelling has at least a byte, and as many as it says
pub spelled_some : (bytes : List ℕ) (d : Instruction) → Spells bytes d → (0 < length bytes) × (d.length ≡ length bytes)
spelled_some bytes d (wait e g) = (rw e (omega arith), ap (λ (i : Instruction). i.length) g ∙ sym (ap (length {A = ℕ}) e))
spelled_some bytes d (of_row x o r s l n q m e g) = (rw e (omega arith), ap (λ (i : Instruction). i.length) g)

-- where an instruction is at the front
pub record Splits (b : List ℕ) (d : Instruction) (others : List ℕ) : Type 0 where
  pub some : 0 < d.length
  pub whole : d.length + length others ≡ length b
  pub rest : others ≡ drop d.length b
  pub bytes : AreBytes others

splits_by : (b front others : List ℕ) (d : Instruction) → AreBytes b → b ≡ front ++ others → Spells front d → Splits b d others
splits_by b front others d all e p =
    let size : (0 < length front) × (d.length ≡ length front) = spelled_some front d p in
    let long : length b ≡ length (front ++ others) = ap length e in
    record {
      some = omega (arith, size.0, size.1);
      whole = omega (arith, size.1, length-append front others);
      rest = sym (ap (drop d.length) e ∙ drop_at front others d.length (sym size.1));
      bytes = AreBytes-back front others (subst AreBytes e all);
    }

pub splits : (b others : List ℕ) (d : Instruction) → AreBytes b → decoded_at b ≡ Whole d others → Splits b d others
splits b others d all is =
    let t : IsAnswerFor b (Whole d others) = subst (IsAnswerFor b) is (reading_exact.tells b all) in
    splits_by b t.0 others d all t.1 t.2

-- how many lines may come doesn't matter where there are enough
enough_by : (n m : ℕ) (b : ℕ) (bs : List ℕ) (a : Decoding) → AreBytes (b ∷ bs) → decoded_at (b ∷ bs) ≡ a → length bs ≤ n → length bs ≤ m
    → ((image : List ℕ) → AreBytes image → length image ≤ n → length image ≤ m → disassembled_lines n image ≡ disassembled_lines m image)
    → disassembled_by (disassembled_lines n) b bs a ≡ disassembled_by (disassembled_lines m) b bs a
enough_by n m b bs (Whole d others) all is low high same =
    let s : Splits (b ∷ bs) d others = splits (b ∷ bs) others d all is in
    ap (and_others (instruction_text d.opcode d.specs)) (same others s.bytes (omega (arith, s.some, s.whole)) (omega (arith, s.some, s.whole)))
enough_by n m b bs Short all is low high same = ap (and_others (byte_text b)) (same bs all.1 low high)
enough_by n m b bs Unknown all is low high same = ap (and_others (byte_text b)) (same bs all.1 low high)
enough_by n m b bs Reserved all is low high same = ap (and_others (byte_text b)) (same bs all.1 low high)

enough : (n m : ℕ) (image : List ℕ) → AreBytes image → length image ≤ n → length image ≤ m → disassembled_lines n image ≡ disassembled_lines m image
enough zero zero image all low high = refl
enough zero (suc m) [] all low high = refl
enough zero (suc m) (b ∷ bs) all low high = absurd (omega arith)
enough (suc n) zero [] all low high = refl
enough (suc n) zero (b ∷ bs) all low high = absurd (omega arith)
enough (suc n) (suc m) [] all low high = refl
enough (suc n) (suc m) (b ∷ bs) all low high = enough_by n m b bs (decoded_at (b ∷ bs)) all refl (omega arith) (omega arith) (λ image. enough n m image)

-- the text of an image by its first line
all_by : (b : ℕ) (bs : List ℕ) (a : Decoding) → AreBytes (b ∷ bs) → decoded_at (b ∷ bs) ≡ a → disassembled_by (disassembled_lines (length bs)) b bs a ≡ disassembled_by dis_of b bs a
unfolding dis_of
all_by b bs (Whole d others) all is =
    let s : Splits (b ∷ bs) d others = splits (b ∷ bs) others d all is in
    ap (and_others (instruction_text d.opcode d.specs)) (enough (length bs) (length others) others s.bytes (omega (arith, s.some, s.whole)) (omega arith))
all_by b bs Short all is = refl
all_by b bs Unknown all is = refl
all_by b bs Reserved all is = refl

pub first_line : (b : ℕ) (bs : List ℕ) (a : Decoding) → AreBytes (b ∷ bs) → decoded_at (b ∷ bs) ≡ a → dis_of (b ∷ bs) ≡ disassembled_by dis_of b bs a
unfolding dis_of
first_line b bs a all is = ap (disassembled_by (disassembled_lines (length bs)) b bs) is ∙ all_by b bs a all is

-- the same where it is an instruction's line
done_by : (b : ℕ) (bs : List ℕ) (d : Decoded) (a : Decoding) → AreBytes (b ∷ bs) → decoded_at (b ∷ bs) ≡ a → IsWhole d a
    → (0 < d.length) × (d.length ≤ length (b ∷ bs)) × (dis_of (b ∷ bs) ≡ and_others (instruction_text d.opcode d.specs.items) (dis_of (drop d.length (b ∷ bs))))
done_by b bs d (Whole e others) all is w =
    let same : Whole e others ≡ Whole (view d) others = ap (λ x. Whole x others) w in
    let s : Splits (b ∷ bs) (view d) others = splits (b ∷ bs) others (view d) all (is ∙ same) in
    (s.some, omega (arith, s.whole), first_line b bs (Whole (view d) others) all (is ∙ same) ∙ ap (λ xs. and_others (instruction_text d.opcode d.specs.items) (dis_of xs)) s.rest)
done_by b bs d Short all is w = absurd w
done_by b bs d Unknown all is w = absurd w
done_by b bs d Reserved all is w = absurd w

-- a line, its end, and the rest
put_together : (old new line rest : List ℕ) → new ≡ old ++ line ++ 10 ∷ [] → new ++ rest ≡ old ++ and_others line rest
put_together old new line rest end = rw (end, append_assoc (old ++ line) (10 ∷ []) rest, append_assoc old line (10 ∷ rest))

-- what `front` answers where an instruction is there
pub record IsFront (image line : List ℕ) (size : ℕ) : Type 0 where
  pub text : line ≡ front_text image
  pub some : 0 < size
  pub most : size ≤ length image
  pub rest : dis_of image ≡ and_others line (dis_of (drop size image))

front_done_by : (b : ℕ) (d : Decoded) (a : Decoding) → IsWhole d a → instruction_text d.opcode d.specs.items ≡ front_by b a
front_done_by b d (Whole e others) w = ap (λ (i : Instruction). instruction_text i.opcode i.specs) (sym w)
front_done_by b d Short w = absurd w
front_done_by b d Unknown w = absurd w
front_done_by b d Reserved w = absurd w

pub front_done : (image : List ℕ) (d : Decoded) → AreBytes image → 0 < length image → IsWhole d (decoded_at image) → IsFront image (instruction_text d.opcode d.specs.items) d.length
unfolding front_text
front_done [] d all some w = absurd (omega arith)
front_done (b ∷ bs) d all some w =
    let r = done_by b bs d (decoded_at (b ∷ bs)) all refl w in
    record { text = front_done_by b d (decoded_at (b ∷ bs)) w; some = r.0; most = r.1; rest = r.2 }

byte_by : (b : ℕ) (bs : List ℕ) (a : Decoding) → AreBytes (b ∷ bs) → decoded_at (b ∷ bs) ≡ a → IsNone a → dis_of (b ∷ bs) ≡ and_others (byte_text b) (dis_of bs)
byte_by b bs (Whole d others) all is none = absurd none
byte_by b bs Short all is none = first_line b bs Short all is
byte_by b bs Unknown all is none = first_line b bs Unknown all is
byte_by b bs Reserved all is none = first_line b bs Reserved all is

front_none_by : (b : ℕ) (a : Decoding) → IsNone a → byte_text b ≡ front_by b a
front_none_by b (Whole d others) none = absurd none
front_none_by b Short none = refl
front_none_by b Unknown none = refl
front_none_by b Reserved none = refl

pub as_front : (image line other : List ℕ) (size n : ℕ) → line ≡ other → size ≡ n → IsFront image other n → IsFront image line size
as_front image line other size n same at f = subst (λ t. IsFront image t size) (sym same) (subst (λ k. IsFront image other k) (sym at) f)

-- and where none is
pub front_none : (image : List ℕ) → AreBytes image → 0 < length image → IsNone (decoded_at image) → IsFront image (byte_text (get_or image 0 0)) 1
unfolding front_text
front_none [] all some none = absurd (omega arith)
front_none (b ∷ bs) all some none =
    record { text = front_none_by b (decoded_at (b ∷ bs)) none; some = omega arith; most = omega arith; rest = byte_by b bs (decoded_at (b ∷ bs)) all refl none }

-- a line is appended
pub then_line : (old new line rest image : List ℕ) → new ≡ old ++ (line ++ 10 ∷ []) → dis_of image ≡ and_others line rest → new ++ rest ≡ old ++ dis_of image
then_line old new line rest image end is = put_together old new line rest (end ∙ sym (append_assoc old line (10 ∷ []))) ∙ ap (λ (xs : List ℕ). old ++ xs) (sym is)

-- where nothing is left
pub all_shown : (text rest whole : List ℕ) → (length rest == 0) ≡ true → text ++ dis_of rest ≡ whole → text ≡ whole
unfolding dis_of
all_shown text [] whole none is = sym (append-nil text) ∙ is
all_shown text (b ∷ bs) whole none is = grind arith

-- who answers otherwise finds no instruction
pub none_needed : (a : Decoding) → IsAnswer NeedMore a → IsNone a
none_needed a is = subst IsNone (sym is) tt

pub none_faulted : (f : DecodeFault) (a : Decoding) → IsAnswer (Fault f) a → IsNone a
none_faulted Opcode a is = subst IsNone (sym is) tt
none_faulted Addressing a is = subst IsNone (sym is) tt
