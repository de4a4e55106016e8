-- The labels of a text as the code's map keeps them.
use Rattle.std.specs.BTreeMap.{BTreeMap, get_by}
use Rattle.std.specs.Borrow.{Bor}
use Rattle.std.specs.Cmp.Lexicographic.{slice_cmp}
use Rattle.std.specs.Ordering.{nat_cmp}
use Rattle.std.specs.Prelude.{◌≡◌, ℕ, List, [], Bool, is_some, true, false, if◌then◌else◌, Option, Some, None, Result, Ok, Err}
use Rattle.std.specs.Str.Lines.{lines}
use Rattle.vasm_text.specs.Statements.{SourceLine}
use Rattle.vasm_text.specs.Asm.{is_label, address_in, read_from}
use Rattle.vasm_text.specs.declared.fault.AsmError.{AsmError}
use Rattle.vasm_text.specs.declared.fault.AsmError.TheVariants.{Fault, NoMemory}
use Rattle.vasm_text.specs.declared.fault.AsmKind.TheVariants.{TwiceNamed}

abbrev pub Labels : Type 0
Labels = BTreeMap (Bor (List ℕ)) ℕ

-- the address of the line that a name labels
abbrev pub label_address : Labels → List ℕ → Option ℕ
label_address labels name = get_by (λ k. slice_cmp nat_cmp name k.now) labels

-- labels with one more, at an address
abbrev pub with_label : (List ℕ → Option ℕ) → Option (List ℕ) → ℕ → List ℕ → Option ℕ
with_label names label at name = if is_label name label then Some at else names name

-- whether a label labels an earlier line
abbrev pub is_taken : (List ℕ → Option ℕ) → Option (List ℕ) → Bool
is_taken names None = false
is_taken names (Some label) = is_some (names label)

-- a label is added that labels no line before, or its line is refused
abbrev pub Adds : {U : Type 0} → ℕ → Option (List ℕ) → ℕ → Labels → Labels → Result U AsmError → Type 0
Adds number label at before after (Ok _) = (is_taken (label_address before) label ≡ false) × ((name : List ℕ) → label_address after name ≡ with_label (label_address before) label at name)
Adds number label at before after (Err (Fault f)) = (is_taken (label_address before) label ≡ true) × (f ≡ record { line = number; kind = TwiceNamed })
Adds number label at before after (Err NoMemory) = Unit {0}

-- the labels of a text's lines, or the first line that is refused
abbrev pub IsLabelled : Result Labels AsmError → List ℕ → Type 0
IsLabelled (Ok labels) text = (program : List SourceLine) × (read_from 1 [] (lines text) ≡ Ok program) × ((name : List ℕ) → label_address labels name ≡ address_in program 0x200 name)
IsLabelled (Err (Fault f)) text = read_from 1 [] (lines text) ≡ Err f
IsLabelled (Err NoMemory) text = Unit {0}
