-- The text of an image is assembled to the image, line by line.
use Rattle.std.specs.List.{list_any, slice_split}
use Rattle.std.specs.Prelude.{map}
use Rattle.std.specs.Str.Lines.{lines, lines_of_parts, strip_carriage_return}
use Rattle.std.proofs.Common.{◌≡◌, ◌≢◌, ◌==◌, ℕ, zero, suc, ◌+◌, ◌-◌, ◌<◌, ◌≤◌, Bool, false, eqb, List, [], ◌∷◌, ◌++◌, Option, Some, None, Ok, length, get_or, refl, sym, ap, subst, ◌∙◌, arith, length-append, ◌%◌}
use Rattle.std.proofs.lemmas.Bool.{ne_eqb}
use Rattle.std.proofs.lemmas.Grind.{common_steps}
use Rattle.std.proofs.lemmas.List.Elements.{All-from_get_or}
use Rattle.std.proofs.lemmas.List.Splits.{length-slice_split, slice_split_at}
use Rattle.vax_table.specs.declared.forms.Form.{Form}
use Rattle.vax_table.specs.declared.decoded.Spec.{Spec}
use Rattle.vax_table.specs.Rows.{OpcodeEntry, row_of, plain}
use Rattle.vax_table.specs.Spelling.{AreBytes, Operands, Instruction, Spells, wait, of_row}
use Rattle.vax_table.specs.Spelled.{spelled, spelled_all}
use Rattle.vax_table.specs.Reading.{Decoding, Whole, Short, Unknown, Reserved, decoded_at, IsAnswerFor}
use Rattle.vax_table.proofs.Bytes.{AreBytes-back}
use Rattle.vax_table.proofs.Instructions.{reading_exact}
use Rattle.vax_table.proofs.OneSpelling.{operands_spelled}
use Rattle.vasm_text.specs.Operands.{unnamed_operand}
use Rattle.vasm_text.specs.Statements.{Statement, Field, Instruct, SourceLine, forms_of, source_line_in}
use Rattle.vasm_text.specs.Asm.{read_from, assembled_bytes, lacks, resolved, operands_bytes, statement_bytes, asm_of}
use Rattle.vasm_text.specs.Printing.{instruction_text, byte_text}
use Rattle.vasm_text.specs.Dis.{and_others, disassembled_by, disassembled_lines, dis_of}
use Rattle.vasm_dis.specs.Laws.{exact, IsReadAgain, IsAssembledAgain}
use Rattle.vasm_dis.proofs.Cuts.{NonePass, free_of}
use Rattle.vasm_dis.proofs.Lines.{spelled_some}
use Rattle.vasm_dis.proofs.Statements.{is_line, ReadsAs, line_back, instruction_line, byte_line}

-- ---- the bytes of a printed statement

none_lacking : (names : List ℕ → Option ℕ) (ss : List Spec) → list_any (lacks names) (map exact ss) ≡ false
none_lacking names [] = refl
none_lacking names (s ∷ ss) = none_lacking names ss

operands_again : (names : List ℕ → Option ℕ) (at : ℕ) (fs : List Form) (bytes : List ℕ) (ss : List Spec) → Operands fs bytes ss → operands_bytes names at fs (map exact ss) ≡ Ok (spelled_all fs ss)
unfolding resolved
operands_again names at [] bytes [] m = refl
operands_again names at [] bytes (s ∷ ss) m = absurd m
operands_again names at (f ∷ fs) bytes [] m = absurd m
operands_again names at (f ∷ fs) bytes (s ∷ ss) m = rw (operands_again names (at + length (spelled f s)) fs m.1 ss m.4)

-- a line that is read as a statement whose bytes are these
record IsLineOf (text : List ℕ) (s : Statement) (bytes : List ℕ) : Type 0 where
  reads : ReadsAs text s
  made : (names : List ℕ → Option ℕ) (at : ℕ) → statement_bytes names at s ≡ Ok bytes

instruct_made : (opcode : ℕ) (e : OpcodeEntry) (bytes rest : List ℕ) (ss : List Spec) → opcode ≢ 0xfd → row_of opcode ≡ Some e → Operands e.operands rest ss → bytes ≡ opcode ∷ rest
    → (names : List ℕ → Option ℕ) (at : ℕ) → statement_bytes names at (Instruct opcode (map exact ss)) ≡ Ok bytes
unfolding statement_bytes forms_of
instruct_made opcode e bytes rest ss other row m is names at =
    let o : eqb opcode 0xfd ≡ false = ne_eqb opcode 0xfd other in
    rw (none_lacking names ss, o, row, operands_again names (at + 1) e.operands rest ss m, is, operands_spelled e.operands rest ss m)

wait_made : (names : List ℕ → Option ℕ) (at : ℕ) → statement_bytes names at (Instruct 0xfd []) ≡ Ok (0xfd ∷ 1 ∷ [])
unfolding statement_bytes forms_of row_of
wait_made names at = refl

wait_row : row_of 0xfd ≡ Some (plain [])
unfolding row_of
wait_row = refl

spelled_line : (bytes : List ℕ) (d : Instruction) → Spells bytes d → IsLineOf (instruction_text d.opcode d.specs) (Instruct d.opcode (map exact d.specs)) bytes
spelled_line bytes d (wait e g) =
    let P : Instruction → Type 0 = λ i. IsLineOf (instruction_text i.opcode i.specs) (Instruct i.opcode (map exact i.specs)) bytes in
    subst P (sym g) (record { reads = instruction_line 0xfd (plain []) [] [] (omega arith) wait_row refl; made = λ names at. wait_made names at ∙ ap (λ (xs : List ℕ). Ok xs) (sym e) })
spelled_line bytes d (of_row entry opcode rest specs below other row m e g) =
    let P : Instruction → Type 0 = λ i. IsLineOf (instruction_text i.opcode i.specs) (Instruct i.opcode (map exact i.specs)) bytes in
    subst P (sym g) (record { reads = instruction_line opcode entry rest specs below row m; made = instruct_made opcode entry bytes rest specs other row m e })

byte_made : (b : ℕ) → b < 256 → (names : List ℕ → Option ℕ) (at : ℕ) → statement_bytes names at (Field 1 (unnamed_operand 16 0 b)) ≡ Ok (b ∷ [])
unfolding statement_bytes
byte_made b below names at = let e : b % 256 ≡ b = omega arith in rw e

one_byte : (b : ℕ) → b < 256 → IsLineOf (byte_text b) (Field 1 (unnamed_operand 16 0 b)) (b ∷ [])
one_byte b below = record { reads = byte_line b below; made = byte_made b below }

-- ---- the lines of a text

none_at : (test : ℕ → Bool) (xs : List ℕ) (i : ℕ) → NonePass test xs → i < length xs → test (get_or xs i 0) ≡ false
none_at test [] i none within = absurd (omega arith)
none_at test (x ∷ xs) zero none within = none.0
none_at test (x ∷ xs) (suc i) none within = none_at test xs i none.1 (omega arith)

first_part : (part : List ℕ) (parts : List (List ℕ)) (more : ℕ) → length parts ≡ more + 1 → lines_of_parts (part ∷ parts) ≡ strip_carriage_return part ∷ lines_of_parts parts
first_part part [] more some = grind arith
first_part part (x ∷ parts) more some = refl

no_return : (line : List ℕ) → NonePass (λ b. b == 13) line → strip_carriage_return line ≡ line
no_return [] none = refl
no_return (b ∷ line) none = rw (none_at (λ c. c == 13) (b ∷ line) (length (b ∷ line) - 1) none (grind (arith, common_steps)))

lines_at : (line rest : List ℕ) → NonePass (λ b. b == 10) line → NonePass (λ b. b == 13) line → lines (line ++ 10 ∷ rest) ≡ line ∷ lines rest
lines_at line rest feed return =
    let cut : slice_split (λ b. b == 10) (line ++ 10 ∷ rest) ≡ line ∷ slice_split (λ b. b == 10) rest =
    slice_split_at (λ b. b == 10) line 10 rest (All-from_get_or (λ b. (b == 10) ≡ false) line 0 (λ i within. none_at (λ b. b == 10) line i feed within)) refl in
    rw (cut, first_part line (slice_split (λ b. b == 10) rest) _ (length-slice_split (λ b. b == 10) rest), no_return line return)

-- a text whose lines are those of an image
record Again (image text : List ℕ) : Type 0 where
  program : List SourceLine
  read : (number : ℕ) → read_from number [] (lines text) ≡ Ok program
  made : (names : List ℕ → Option ℕ) (number at : ℕ) → assembled_bytes names number at program ≡ Ok image

abbrev line_saying : Statement → SourceLine
line_saying s = record { label = None; statement = Some s }

read_step : (number : ℕ) (text : List ℕ) (texts : List (List ℕ)) (s : Statement) (program : List SourceLine) → source_line_in text ≡ Some (line_saying s) → read_from (number + 1) [] texts ≡ Ok program → read_from number [] (text ∷ texts) ≡ Ok (line_saying s ∷ program)
read_step number text texts s program is rest = rw (is, rest)

made_step : (names : List ℕ → Option ℕ) (number at : ℕ) (s : Statement) (program : List SourceLine) (front image : List ℕ) → ((at : ℕ) → statement_bytes names at s ≡ Ok front) → ((number at : ℕ) → assembled_bytes names number at program ≡ Ok image)
    → assembled_bytes names number at (line_saying s ∷ program) ≡ Ok (front ++ image)
made_step names number at s program front image is rest = rw (is at, rest (number + 1) _)

one_more : (front image line text : List ℕ) (s : Statement) → IsLineOf line s front → Again image text → Again (front ++ image) (and_others line text)
one_more front image line text s l rest =
    let cut : lines (line ++ 10 ∷ text) ≡ line ∷ lines text = lines_at line text (free_of is_line 10 refl line l.reads.chars) (free_of is_line 13 refl line l.reads.chars) in
    record {
      program = line_saying s ∷ rest.program;
      read = λ number. ap (read_from number []) cut ∙ read_step number line (lines text) s rest.program (line_back line s l.reads) (rest.read (number + 1));
      made = λ names number at. made_step names number at s rest.program front image (l.made names) (rest.made names);
    }

nothing : Again [] []
nothing = record { program = []; read = λ number. refl; made = λ names number at. refl }

shorter : (b : ℕ) (bs front others : List ℕ) → b ∷ bs ≡ front ++ others → 0 < length front → length others ≤ length bs
shorter b bs front others is some = let long : length (b ∷ bs) ≡ length (front ++ others) = ap length is in omega (arith, length-append front others)

again_by : (n b : ℕ) (bs : List ℕ) (a : Decoding) → AreBytes (b ∷ bs) → decoded_at (b ∷ bs) ≡ a → ((image : List ℕ) → AreBytes image → length image ≤ n → Again image (disassembled_lines n image)) → length bs ≤ n → Again (b ∷ bs) (disassembled_by (disassembled_lines n) b bs a)
again_by n b bs (Whole d others) all is rest most =
    let t : (front : List ℕ) × (b ∷ bs ≡ front ++ others) × Spells front d = subst (IsAnswerFor (b ∷ bs)) is (reading_exact.tells (b ∷ bs) all) in
    let P : List ℕ → Type 0 = λ image. Again image (and_others (instruction_text d.opcode d.specs) (disassembled_lines n others)) in
    let left : length others ≤ n = omega (arith, shorter b bs t.0 others t.1 (spelled_some t.0 d t.2).0) in
    subst P (sym t.1) (one_more t.0 others (instruction_text d.opcode d.specs) (disassembled_lines n others) (Instruct d.opcode (map exact d.specs)) (spelled_line t.0 d t.2) (rest others (AreBytes-back t.0 others (subst AreBytes t.1 all)) left))
again_by n b bs Short all is rest most = one_more (b ∷ []) bs (byte_text b) (disassembled_lines n bs) (Field 1 (unnamed_operand 16 0 b)) (one_byte b all.0) (rest bs all.1 most)
again_by n b bs Unknown all is rest most = one_more (b ∷ []) bs (byte_text b) (disassembled_lines n bs) (Field 1 (unnamed_operand 16 0 b)) (one_byte b all.0) (rest bs all.1 most)
again_by n b bs Reserved all is rest most = one_more (b ∷ []) bs (byte_text b) (disassembled_lines n bs) (Field 1 (unnamed_operand 16 0 b)) (one_byte b all.0) (rest bs all.1 most)

again : (n : ℕ) (image : List ℕ) → AreBytes image → length image ≤ n → Again image (disassembled_lines n image)
again zero [] all most = nothing
again zero (b ∷ bs) all most = absurd (omega arith)
again (suc n) [] all most = nothing
again (suc n) (b ∷ bs) all most = again_by n b bs (decoded_at (b ∷ bs)) all refl (again n) (omega arith)

assembled_by : (image text : List ℕ) → Again image text → asm_of text ≡ Ok image
unfolding asm_of
assembled_by image text a = rw (a.read 1) (a.made _ 1 0x200)

pub assembled_again : IsAssembledAgain
unfolding dis_of
assembled_again image all = assembled_by image (disassembled_lines (length image) image) (again (length image) image all (omega arith))

pub read_again : IsReadAgain
read_again = record {
  instruction = λ bytes d m. line_back (instruction_text d.opcode d.specs) (Instruct d.opcode (map exact d.specs)) (spelled_line bytes d m).reads;
  byte = λ b below. line_back (byte_text b) (Field 1 (unnamed_operand 16 0 b)) (one_byte b below).reads;
}
