-- Where in a line the part begins that is refused.
use Rattle.std.specs.List.{after_first, before_first, position_or_len}
use Rattle.std.specs.Prelude.{ℕ, ◌+◌, ◌-◌, List, [], ◌∷◌, ◌==◌, ◌||◌, length, drop, codes, bytes_eq, not, Bool, is_some, if◌then◌else◌}
use Rattle.sys_script.specs.EventLine.{after_blank}
use Rattle.sys_script.specs.declared.event.ScriptKind.{ScriptKind}
use Rattle.sys_script.specs.declared.event.ScriptKind.TheVariants.{BadRound, BadName, BadEvent, BadText, RoundFalls}
use Rattle.vasm_text.specs.Cutting.{is_blank}
use Rattle.vasm_text.specs.Mnemonics.{opcode_of}
use Rattle.vasm_text.specs.declared.fault.AsmKind.{AsmKind}
use Rattle.vasm_text.specs.declared.fault.AsmKind.TheVariants.{BadLine, TwiceNamed, NoName, OutOfReach}
use Rattle.vv_base.specs.Names.{is_object_name}

-- of a script's line: the round, what comes after one blank (the name), after two (the event), or after three (the text)
abbrev pub script_part : ScriptKind → List ℕ → List ℕ
script_part BadRound line = line
script_part BadName line = after_blank line
script_part BadEvent line = after_blank (after_blank line)
script_part BadText line = after_blank (after_blank (after_blank line))
script_part RoundFalls line = line

-- the first word of a statement is a directive, or an instruction's name
abbrev pub is_known_word : List ℕ → Bool
is_known_word word = bytes_eq word (codes ".byte") || (bytes_eq word (codes ".word") || (bytes_eq word (codes ".long") || is_some (opcode_of word)))

-- of a statement: its first word, or else what comes after it
abbrev pub statement_part : List ℕ → List ℕ
statement_part text = if is_known_word (before_first is_blank text) then after_first is_blank text else text

-- a label has exactly one blank after it
abbrev pub labelled_part : List ℕ → List ℕ
labelled_part [] = []
labelled_part (b ∷ text) = if is_blank b then statement_part text else b ∷ text

-- 58 is the colon
abbrev pub line_part : List ℕ → List ℕ
line_part text =
    if length (before_first (λ b. b == 58) text) == length text then statement_part text else
    if is_object_name (before_first (λ b. b == 58) text) then labelled_part (after_first (λ b. b == 58) text) else text

-- from the first byte on that is no blank
abbrev pub from_word : List ℕ → List ℕ
from_word text = drop (position_or_len (λ b. not (is_blank b)) text) text

-- of a source's line before its comment: the label, the first word, or what comes after it (a number or the operands)
abbrev pub source_part : AsmKind → List ℕ → List ℕ
source_part TwiceNamed text = from_word text
source_part BadLine text = line_part (from_word text)
source_part NoName text = line_part (from_word text)
source_part OutOfReach text = line_part (from_word text)

-- the column, counted from 1, where a line's back begins
abbrev pub column_of : List ℕ → List ℕ → ℕ
column_of line back = length line - length back + 1

-- 59 is the semicolon
abbrev pub script_column : ScriptKind → List ℕ → ℕ
script_column kind line = column_of line (script_part kind line)

abbrev pub source_column : AsmKind → List ℕ → ℕ
source_column kind line = column_of (before_first (λ b. b == 59) line) (source_part kind (before_first (λ b. b == 59) line))
