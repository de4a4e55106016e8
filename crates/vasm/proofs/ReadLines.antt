-- The labels of the lines that are read so far.
use Rattle.std.specs.List.{list_any}
use Rattle.std.specs.Option.{option_or}
use Rattle.std.specs.BTreeMap as tree
use Rattle.std.specs.Bool.{one_answer}
use Rattle.std.specs.Cmp.Lexicographic.{slice_cmp}
use Rattle.std.specs.Ordering.{nat_cmp}
use Rattle.std.specs.Prelude.{bytes_eq, is_some, if◌then◌else◌}
use Rattle.std.specs.Str.Lines.{lines}
use Rattle.std.proofs.Common.{◌≡◌, ℕ, ◌+◌, Bool, true, false, ◌||◌, List, [], ◌∷◌, ◌++◌, Option, Some, None, Result, Ok, Err, refl, sym, ap, ◌∙◌, append_assoc, arith}
use Rattle.std.proofs.lemmas.List.Folds.{list_any-append}
use Rattle.std.proofs.lemmas.Map.Text.{btree_map_updates_str}
use Rattle.std.proofs.lemmas.Slice.Eq.{bytes_eq-Decides}
use Rattle.vasm_text.specs.Statements.{SourceLine, source_line_in}
use Rattle.vasm_text.specs.Asm.{is_labelled, and_label, read_from, source_line_size, is_label, address_in, ◌>>=◌}
use Rattle.vasm_text.specs.declared.fault.AsmError.{AsmError}
use Rattle.vasm_text.specs.declared.fault.AsmFault.{AsmFault}
use Rattle.vasm.specs.Labels.{Labels, label_address, with_label, is_taken, Adds}

abbrev is_among : List ℕ → List (List ℕ) → Bool
is_among name names = list_any (bytes_eq name) names

abbrev pub before_others : {A : Type 0} → A → Result (List A) AsmFault → Result (List A) AsmFault
before_others x others = others >>= λ xs. Ok (x ∷ xs)

turned : (xs ys : List ℕ) → bytes_eq xs ys ≡ bytes_eq ys xs
turned xs ys =
    let one = bytes_eq-Decides xs ys in
    let other = bytes_eq-Decides ys xs in
    one_answer (bytes_eq xs ys) (bytes_eq ys xs) one ((λ e. sym (other.0 e)), (λ e. other.1 (sym e)))

pub label_added : (label : List ℕ) (before after : Labels) (at : ℕ) → tree.UpdatesBy (λ x y. slice_cmp nat_cmp x.now y.now) (λ k. slice_cmp nat_cmp label k.now) before after (Some at) → (name : List ℕ) → label_address after name ≡ with_label (label_address before) (Some label) at name
label_added label before after at updates name =
    btree_map_updates_str label before after (Some at) updates name ∙ ap (λ (t : Bool). if t then Some at else label_address before name) (turned label name)

-- ---- lines in front

abbrev pub before_all : List SourceLine → Result (List SourceLine) AsmFault → Result (List SourceLine) AsmFault
before_all front (Ok more) = Ok (front ++ more)
before_all front (Err f) = Err f

abbrev program_size : List SourceLine → ℕ
program_size [] = 0
program_size (l ∷ ls) = source_line_size l + program_size ls

before_none : (r : Result (List SourceLine) AsmFault) → r ≡ before_all [] r
before_none (Ok more) = refl
before_none (Err f) = refl

before_more : (front : List SourceLine) (l : SourceLine) (r : Result (List SourceLine) AsmFault) → before_all front (before_others l r) ≡ before_all (front ++ l ∷ []) r
before_more front l (Ok more) = ap (λ (ls : List SourceLine). Ok ls) (sym (append_assoc front (l ∷ []) more))
before_more front l (Err f) = refl

size_more : (front : List SourceLine) (l : SourceLine) → program_size (front ++ l ∷ []) ≡ program_size front + source_line_size l
size_more [] l = omega arith
size_more (x ∷ xs) l = omega (arith, size_more xs l)

abbrev address_by : Bool → ℕ → Option ℕ
address_by true at = Some at
address_by false at = None

address_more_by : (front : List SourceLine) (l x : SourceLine) (at : ℕ) (name : List ℕ) (t : Bool) → address_in (front ++ l ∷ []) (at + source_line_size x) name ≡ option_or (address_in front (at + source_line_size x) name) (address_by (is_label name l.label) (at + source_line_size x + program_size front))
    → (if t then Some at else address_in (front ++ l ∷ []) (at + source_line_size x) name) ≡ option_or (if t then Some at else address_in front (at + source_line_size x) name) (address_by (is_label name l.label) (at + program_size (x ∷ front)))
address_more_by front l x at name true is = refl
address_more_by front l x at name false is =
    let same : at + source_line_size x + program_size front ≡ at + program_size (x ∷ front) = omega arith in
    is ∙ ap (λ (n : ℕ). option_or (address_in front (at + source_line_size x) name) (address_by (is_label name l.label) n)) same

last_by : (at : ℕ) (t : Bool) → (if t then Some at else None) ≡ address_by t (at + 0)
last_by at true = let same : at ≡ at + 0 = omega arith in ap (λ (n : ℕ). Some n) same
last_by at false = refl

address_more : (front : List SourceLine) (l : SourceLine) (at : ℕ) (name : List ℕ) → address_in (front ++ l ∷ []) at name ≡ option_or (address_in front at name) (address_by (is_label name l.label) (at + program_size front))
address_more [] l at name = last_by at (is_label name l.label)
address_more (x ∷ front) l at name = address_more_by front l x at name (is_label name x.label) (address_more front l (at + source_line_size x) name)

-- ---- lines read so far

pub record IsRead (text : List ℕ) (number at : ℕ) (labels : Labels) (rest : List ℕ) : Type 0 where
  pub front : List SourceLine
  pub known : List (List ℕ)
  pub read : read_from 1 [] (lines text) ≡ before_all front (read_from number known (lines rest))
  pub address : at ≡ 0x200 + program_size front
  pub held : (name : List ℕ) → label_address labels name ≡ address_in front 0x200 name
  pub taken : (name : List ℕ) → is_among name known ≡ is_some (address_in front 0x200 name)

pub none_read : (text : List ℕ) (labels : Labels) → labels.entries ≡ [] → IsRead text 1 0x200 labels text
none_read text labels empty = record {
  front = [];
  known = [];
  read = before_none (read_from 1 [] (lines text));
  address = refl;
  held = λ name. rw empty;
  taken = λ name. refl;
}

-- a label that is free, by the names so far
labelled : (text : List ℕ) (number at : ℕ) (labels : Labels) (rest : List ℕ) → (r : IsRead text number at labels rest) (label : Option (List ℕ)) → is_labelled label r.known ≡ is_taken (label_address labels) label
labelled text number at labels rest r None = refl
labelled text number at labels rest r (Some name) = r.taken name ∙ ap is_some (sym (r.held name))

read_one : (number : ℕ) (known : List (List ℕ)) (text : List ℕ) (texts : List (List ℕ)) (l : SourceLine) → source_line_in text ≡ Some l → is_labelled l.label known ≡ false → read_from number known (text ∷ texts) ≡ before_others l (read_from (number + 1) (and_label known l.label) texts)
read_one number known text texts l is free = rw (is, free)

no_option : {A : Type 0} (x : Option A) → is_some x ≡ false → x ≡ None
no_option None is = refl
no_option (Some a) is = cc

-- a name that the line's label is labels no line before
free_name : (names : List ℕ → Option ℕ) (label : Option (List ℕ)) (name : List ℕ) → is_taken names label ≡ false → is_label name label ≡ true → names name ≡ None
free_name names None name free is = cc
free_name names (Some n) name free is = let same : name ≡ n = (bytes_eq-Decides name n).0 is in ap names same ∙ no_option (names n) free

else_none : (x : Option ℕ) → x ≡ option_or x None
else_none None = refl
else_none (Some n) = refl

held_by : (x y : Option ℕ) (at later : ℕ) (t : Bool) → x ≡ y → at ≡ later → (t ≡ true → y ≡ None) → (if t then Some at else x) ≡ option_or y (address_by t later)
held_by x y at later true same place none = let e : y ≡ None = none refl in rw (e, place)
held_by x y at later false same place none = same ∙ else_none y

taken_by : (y : Option ℕ) (n : ℕ) (t known : Bool) → known ≡ is_some y → (known || (t || false)) ≡ is_some (option_or y (address_by t n))
taken_by None n true known is = rw is
taken_by None n false known is = rw is
taken_by (Some m) n t known is = rw is

taken_more : (known : List (List ℕ)) (label : Option (List ℕ)) (name : List ℕ) (y : Option ℕ) (n : ℕ) → is_among name known ≡ is_some y → is_among name (and_label known label) ≡ is_some (option_or y (address_by (is_label name label) n))
taken_more known None name y n is = is ∙ ap is_some (else_none y)
taken_more known (Some label) name y n is = list_any-append (bytes_eq name) known (label ∷ []) ∙ taken_by y n (bytes_eq name label) (is_among name known) is

pub line_read : {U : Type 0} (text : List ℕ) (number at : ℕ) (labels after : Labels) (rest line later : List ℕ) (l : SourceLine) (u : U) → IsRead text number at labels rest → lines rest ≡ line ∷ lines later → source_line_in line ≡ Some l
    → (let done : Result U AsmError = Ok u in Adds number l.label at labels after done) → IsRead text (number + 1) (at + source_line_size l) after later
line_read text number at labels after rest line later l u r cut is added = record {
  front = r.front ++ l ∷ [];
  known = and_label r.known l.label;
  read =
      r.read ∙ ap (λ ts. before_all r.front (read_from number r.known ts)) cut
      ∙ ap (before_all r.front) (read_one number r.known line (lines later) l is (labelled text number at labels rest r l.label ∙ added.0))
      ∙ before_more r.front l (read_from (number + 1) (and_label r.known l.label) (lines later));
  address = omega (arith, r.address, size_more r.front l);
  held = λ name.
      added.1 name
      ∙ held_by (label_address labels name) (address_in r.front 0x200 name) at (0x200 + program_size r.front) (is_label name l.label) (r.held name) r.address (λ here. sym (r.held name) ∙ free_name (label_address labels) l.label name added.0 here)
      ∙ sym (address_more r.front l 0x200 name);
  taken = λ name. taken_more r.known l.label name (address_in r.front 0x200 name) (0x200 + program_size r.front) (r.taken name) ∙ ap is_some (sym (address_more r.front l 0x200 name));
}
