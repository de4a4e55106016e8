-- The line that is shown of a guest's step (profile): its number, its kind, the mode and the PC before it, the instruction as the
-- disassembler spells it, and then a word for all that the step took or changed.
use Rattle.std.specs.Prelude.{ℕ, zero, suc, ◌+◌, ◌-◌, ◌%◌, ◌^◌, ◌==◌, if◌then◌else◌, List, [], ◌∷◌, ◌++◌, codes, decimal, flat_map, length, replicate, take, Result, Ok, Err}
use Rattle.vv_base.specs.Digits.{hex_text}
use Rattle.vasm_text.specs.Front.{front_text}
use Rattle.vasm_text.specs.Printing.{register_text}
use Rattle.vax_arch.specs.declared.mode.Intent.TheVariants.{Read}
use Rattle.vax_arch.specs.declared.mode.Mode.{Mode}
use Rattle.vax_arch.specs.declared.mode.Mode.TheVariants.{Kernel, Executive, Supervisor, User}
use Rattle.vax_table.specs.Interaction.{Cause}
use Rattle.vm_exception.specs.Noted.{note_of}
use Rattle.vm_exception.specs.declared.note.Note.{Note}
use Rattle.vm_exception.specs.declared.note.Note.TheVariants.{Nothing, Vector, Page}
use Rattle.vm_state.specs.State.{Guest, mode_of_state, pc_of}
use Rattle.vm_state.specs.Step.{Kind, Stopped, Interrupt, Idle, SetModify, Plain, Sensitive, Fault, Stepped}
use Rattle.vm_state.specs.Translation.{space_of}

abbrev pub kind_name : Kind → List ℕ
kind_name Stopped = codes "stopped"
kind_name Interrupt = codes "interrupt"
kind_name Idle = codes "idle"
kind_name SetModify = codes "modify"
kind_name (Plain term) = codes "plain"
kind_name Sensitive = codes "sensitive"
kind_name Fault = codes "fault"

abbrev pub mode_name : Mode → List ℕ
mode_name Kernel = codes "K"
mode_name Executive = codes "E"
mode_name Supervisor = codes "S"
mode_name User = codes "U"

-- a text in a column of `width` bytes, at its left or at its right; one that is longer is shown whole
abbrev pub at_left : ℕ → List ℕ → List ℕ
at_left width text = text ++ replicate (width - length text) 32

abbrev pub at_right : ℕ → List ℕ → List ℕ
at_right width text = replicate (width - length text) 32 ++ text

-- the bytes that the guest can read from an address on, up to the first that it can't, and n at most
abbrev pub if_read : Result ℕ Cause → List ℕ → List ℕ
if_read (Ok b) others = b ∷ others
if_read (Err cause) others = []

unfoldable pub readable : ℕ → Guest → ℕ → List ℕ
readable zero g va = []
readable (suc most) g va = if_read (space_of g Read va) (readable most g ((va + 1) % 2 ^ 32))

-- what is at PC, of which no instruction has more than 21 bytes; a mark where nothing can be read
abbrev pub or_mark : List ℕ → List ℕ
or_mark [] = codes "-"
or_mark (b ∷ bs) = b ∷ bs

unfoldable pub instruction_spelled : Guest → List ℕ
instruction_spelled g = or_mark (front_text (readable 21 g (pc_of g.state)))

-- a step that doesn't reach an instruction has the mark
abbrev pub instruction_or_mark : Kind → List ℕ → List ℕ
instruction_or_mark Stopped text = codes "-"
instruction_or_mark Interrupt text = codes "-"
instruction_or_mark Idle text = codes "-"
instruction_or_mark SetModify text = text
instruction_or_mark (Plain term) text = text
instruction_or_mark Sensitive text = text
instruction_or_mark Fault text = text

-- ` NAME=VALUE`
abbrev pub word : List ℕ → List ℕ → List ℕ
word name value = 32 ∷ name ++ 61 ∷ value

-- the vector's place in the system control block; the page's first address
abbrev pub note_word : Note → List ℕ
note_word Nothing = []
note_word (Vector offset) = word (codes "VECTOR") (hex_text 3 offset)
note_word (Page va) = word (codes "PAGE") (hex_text 8 va)

-- a longword that differs
abbrev pub changed_word : List ℕ → (before after : ℕ) → List ℕ
changed_word name before after = if before == after then [] else word name (hex_text 8 after)

-- registers, from the n-th on
abbrev pub register_words : ℕ → (before after : List ℕ) → List ℕ
register_words n [] ws = []
register_words n (v ∷ vs) [] = []
register_words n (v ∷ vs) (w ∷ ws) = changed_word (register_text n) v w ++ register_words (n + 1) vs ws

-- bytes that were shown on the console
abbrev pub shown_word : List ℕ → List ℕ
shown_word [] = []
shown_word (b ∷ bs) = word (codes "OUT") (flat_map (hex_text 2) (b ∷ bs))

-- all that a step took or changed; the PC is in the next line
abbrev pub step_words : Guest → Stepped → List ℕ
step_words g s =
    note_word (note_of g) ++ (register_words 0 (take 15 g.state.r) (take 15 s.guest.state.r)
    ++ (changed_word (codes "PSL") g.state.psl s.guest.state.psl ++ shown_word s.shown))

-- what comes before these words
abbrev pub head_of : ℕ → Guest → Kind → List ℕ
head_of number g kind =
    at_right 6 (decimal number) ++ (32 ∷ at_left 9 (kind_name kind)) ++ (32 ∷ mode_name (mode_of_state g.state)) ++ (32 ∷ hex_text 8 (pc_of g.state))
    ++ (32 ∷ instruction_or_mark kind (instruction_spelled g))

-- the head, with blanks to the column of the words where there are any; a line feed ends the line
abbrev pub head_and_words : List ℕ → List ℕ → List ℕ
head_and_words head [] = head ++ 10 ∷ []
head_and_words head (b ∷ words) = at_left 60 head ++ (b ∷ words) ++ 10 ∷ []

-- the line of a guest's step of this number
unfoldable pub trace_line : ℕ → Guest → Stepped → List ℕ
trace_line number g s = head_and_words (head_of number g s.kind) (step_words g s)
