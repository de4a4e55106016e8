-- The bytes of the lines that are written so far.
use Rattle.vasm.proofs.ReadLines.{before_others}
use Rattle.std.specs.Global.{Vec}
use Rattle.std.specs.Str.Lines.{lines}
use Rattle.std.specs.Prelude.{if◌then◌else◌}
use Rattle.std.proofs.Common.{◌≡◌, ◌==◌, ℕ, ◌+◌, Bool, true, false, List, [], ◌∷◌, ◌++◌, length, Option, Some, None, Result, Ok, Err, refl, sym, ap, subst, ◌∙◌, append-nil, append_assoc, arith}
use Rattle.std.proofs.Math.Path.{fun_ext}
use Rattle.vasm_text.specs.Statements.{SourceLine, source_line_in}
use Rattle.vasm_text.specs.Asm.{◌>>=◌, at_line, is_labelled, and_label, read_source_line, read_from, source_line_size, source_line_bytes, assembled_bytes, address_in, asm_of}
use Rattle.vasm_text.specs.declared.fault.AsmError.{AsmError}
use Rattle.vasm_text.specs.declared.fault.AsmError.TheVariants.{Fault, NoMemory}
use Rattle.vasm_text.specs.declared.fault.AsmFault.{AsmFault}
use Rattle.vasm_text.specs.declared.fault.AsmKind.{AsmKind}
use Rattle.vasm_text.specs.declared.fault.AsmKind.TheVariants.{BadLine, TwiceNamed}
use Rattle.vasm.specs.Assembled.{IsAsWanted, IsAssembledText, IsAssembled}
use Rattle.vasm.specs.Labels.{Labels, label_address, IsLabelled}
use Rattle.vasm.specs.Puts.{appended_to, AppendsOrRefuses}

abbrev prepended : List ℕ → Result (List ℕ) AsmFault → Result (List ℕ) AsmFault
prepended front others = others >>= λ bytes. Ok (front ++ bytes)

pub record IsWriting (names : List ℕ → Option ℕ) (program : List SourceLine) (number at : ℕ) (old rest : List ℕ) : Type 0 where
  pub more : List SourceLine
  pub known : List (List ℕ)
  pub read : read_from number known (lines rest) ≡ Ok more
  pub made : assembled_bytes names 1 0x200 program ≡ appended_to old (assembled_bytes names number at more)

after_nothing : {E : Type 0} (r : Result (List ℕ) E) → r ≡ appended_to [] r
after_nothing (Ok bytes) = refl
after_nothing (Err e) = refl

pub none_written : (names : List ℕ → Option ℕ) (text : List ℕ) (program : List SourceLine) → read_from 1 [] (lines text) ≡ Ok program → IsWriting names program 1 0x200 [] text
none_written names text program is = record { more = program; known = []; read = is; made = after_nothing (assembled_bytes names 1 0x200 program) }

-- a line that is read, and those after it
record IsFirst (number : ℕ) (known : List (List ℕ)) (l : SourceLine) (texts : List (List ℕ)) (more : List SourceLine) : Type 0 where
  others : List SourceLine
  read : read_from (number + 1) (and_label known l.label) texts ≡ Ok others
  first : more ≡ l ∷ others

others_by : (l : SourceLine) (more : List SourceLine) (r : Result (List SourceLine) AsmFault) → before_others l r ≡ Ok more → (others : List SourceLine) × (r ≡ Ok others) × (more ≡ l ∷ others)
others_by l more (Ok others) is = (others, refl, (cc))
others_by l more (Err f) is = cc

first_by : (number : ℕ) (known : List (List ℕ)) (l : SourceLine) (texts : List (List ℕ)) (more : List SourceLine) (t : Bool)
    → (let r : Result SourceLine AsmKind = if t then Err TwiceNamed else Ok l in (at_line number r >>= λ line. before_others line (read_from (number + 1) (and_label known line.label) texts)) ≡ Ok more) → IsFirst number known l texts more
first_by number known l texts more true is = cc
first_by number known l texts more false is = let o = others_by l more (read_from (number + 1) (and_label known l.label) texts) is in record { others = o.0; read = o.1; first = o.2 }

first_read : (number : ℕ) (known : List (List ℕ)) (text : List ℕ) (texts : List (List ℕ)) (l : SourceLine) (more : List SourceLine) → source_line_in text ≡ Some l → read_from number known (text ∷ texts) ≡ Ok more → IsFirst number known l texts more
first_read number known text texts l more is all =
    first_by number known l texts more (is_labelled l.label known) (ap (λ (o : Option SourceLine). at_line number (read_source_line known o) >>= λ line. before_others line (read_from (number + 1) (and_label known line.label) texts)) (sym is) ∙ all)

-- the bytes of the first line after the old ones, and then those of the others
line_after_by : (number : ℕ) (old new : List ℕ) (wanted : Result (List ℕ) AsmKind) (others : Result (List ℕ) AsmFault) → appended_to old wanted ≡ Ok new → appended_to old (at_line number wanted >>= λ bytes. prepended bytes others) ≡ appended_to new others
line_after_by number old new (Ok bytes) (Ok more) is = let same : old ++ bytes ≡ new = cc in ap (λ (xs : List ℕ). Ok xs) (sym (append_assoc old bytes more)) ∙ ap (λ (xs : List ℕ). Ok (xs ++ more)) same
line_after_by number old new (Ok bytes) (Err f) is = refl
line_after_by number old new (Err kind) others is = cc

pub line_written : {U : Type 0} (names : List ℕ → Option ℕ) (program : List SourceLine) (number at : ℕ) (old new rest line others : List ℕ) (l : SourceLine) (u : U) → IsWriting names program number at old rest → lines rest ≡ line ∷ lines others → source_line_in line ≡ Some l
    → (let done : Result U AsmError = Ok u in AppendsOrRefuses number old new (source_line_bytes names at l) done) → IsWriting names program (number + 1) (at + source_line_size l) new others
line_written names program number at old new rest line others l u w cut is put =
    let f = first_read number w.known line (lines others) l w.more is (ap (read_from number w.known) (sym cut) ∙ w.read) in
    record {
      more = f.others;
      known = and_label w.known l.label;
      read = f.read;
      made = w.made ∙ ap (λ (ls : List SourceLine). appended_to old (assembled_bytes names number at ls)) f.first ∙ line_after_by number old new (source_line_bytes names at l) (assembled_bytes names (number + 1) (at + source_line_size l) f.others) put;
    }

line_refused_by : (number : ℕ) (old : List ℕ) (wanted : Result (List ℕ) AsmKind) (others : Result (List ℕ) AsmFault) (f : AsmFault) → at_line number wanted ≡ Err f → appended_to old (at_line number wanted >>= λ bytes. prepended bytes others) ≡ Err f
line_refused_by number old (Ok bytes) others f is = cc
line_refused_by number old (Err kind) others f is = is

pub line_refused : (U : Type 0) (names : List ℕ → Option ℕ) (program : List SourceLine) (number at : ℕ) (old new rest line others : List ℕ) (l : SourceLine) (e : AsmError) → IsWriting names program number at old rest → lines rest ≡ line ∷ lines others → source_line_in line ≡ Some l
    → (let failed : Result U AsmError = Err e in AppendsOrRefuses number old new (source_line_bytes names at l) failed) → IsAsWanted (Err e) (assembled_bytes names 1 0x200 program)
line_refused U names program number at old new rest line others l (Fault g) w cut is put =
    let f = first_read number w.known line (lines others) l w.more is (ap (read_from number w.known) (sym cut) ∙ w.read) in
    w.made ∙ ap (λ (ls : List SourceLine). appended_to old (assembled_bytes names number at ls)) f.first ∙ line_refused_by number old (source_line_bytes names at l) (assembled_bytes names (number + 1) (at + source_line_size l) f.others) g put
line_refused U names program number at old new rest line others l NoMemory w cut is put = tt

-- each line of a program is read
pub no_bad_line : (names : List ℕ → Option ℕ) (program : List SourceLine) (number at : ℕ) (old rest line others : List ℕ) → IsWriting names program number at old rest → lines rest ≡ line ∷ lines others → source_line_in line ≡ None → ⊥
no_bad_line names program number at old rest line others w cut is =
    let refused : Result (List SourceLine) AsmFault = Err (record { line = number; kind = BadLine }) in
    let bad : refused ≡ Ok w.more =
    ap (λ (o : Option SourceLine). at_line number (read_source_line w.known o) >>= λ l. before_others l (read_from (number + 1) (and_label w.known l.label) (lines others))) (sym is) ∙ ap (read_from number w.known) (sym cut) ∙ w.read in
    cc

pub nothing : (rest : List ℕ) → true ≡ (length rest == 0) → rest ≡ []
nothing [] is = refl
nothing (b ∷ bs) is = grind arith

pub all_written : (names : List ℕ → Option ℕ) (program : List SourceLine) (number at : ℕ) (old rest : List ℕ) → IsWriting names program number at old rest → true ≡ (length rest == 0) → assembled_bytes names 1 0x200 program ≡ Ok old
all_written names program number at old rest w is =
    let empty : Result (List SourceLine) AsmFault = Ok [] in
    let none : [] ≡ w.more = (let r : empty ≡ Ok w.more = ap (λ (text : List ℕ). read_from number w.known (lines text)) (sym (nothing rest is)) ∙ w.read in cc) in
    w.made ∙ ap (λ (ls : List SourceLine). appended_to old (assembled_bytes names number at ls)) (sym none) ∙ ap (λ (xs : List ℕ). Ok xs) (append-nil old)

-- ---- both passes

pub assembled : (r : Result (Vec ℕ) AsmError) (labels : Labels) (text : List ℕ) → IsLabelled (Ok labels) text → IsAssembledText r (label_address labels) text → IsAssembled r text
unfolding asm_of
assembled r labels text l w =
    let same : address_in l.0 0x200 ≡ label_address labels = fun_ext (λ name. sym (l.2 name)) in
    let is : asm_of text ≡ assembled_bytes (label_address labels) 1 0x200 l.0 =
    ap (λ (p : Result (List SourceLine) AsmFault). p >>= λ program. assembled_bytes (address_in program 0x200) 1 0x200 program) l.1 ∙ ap (λ (names : List ℕ → Option ℕ). assembled_bytes names 1 0x200 l.0) same in
    subst (IsAsWanted r) (sym is) (w l.0 l.1)

pub refused : (e : AsmError) (text : List ℕ) → IsLabelled (Err e) text → IsAssembled (Err e) text
unfolding asm_of
refused (Fault f) text is = ap (λ (p : Result (List SourceLine) AsmFault). p >>= λ program. assembled_bytes (address_in program 0x200) 1 0x200 program) is
refused NoMemory text is = tt
