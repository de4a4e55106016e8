-- Disassembling: nothing for no bytes. Where a front of the bytes spells an instruction, the line of that
-- instruction and the rest; otherwise the line of the first byte by itself and the rest. Each line ends
-- with a line feed (10).
use Rattle.std.specs.Prelude.{ℕ, zero, suc, List, [], ◌∷◌, ◌++◌, length}
use Rattle.vax_table.specs.Reading.{Decoding, Whole, decoded_at}
use Rattle.vasm_text.specs.Printing.{instruction_text, byte_text}

abbrev pub and_others : List ℕ → List ℕ → List ℕ
and_others line others = line ++ 10 ∷ others

-- what the bytes b and bs show, by what reading them answers, where `rest` shows what is left
abbrev pub disassembled_by : (List ℕ → List ℕ) → ℕ → List ℕ → Decoding → List ℕ
disassembled_by rest b bs (Whole d others) = and_others (instruction_text d.opcode d.specs) (rest others)
disassembled_by rest b bs none = and_others (byte_text b) (rest bs)

-- in at most n lines
abbrev pub disassembled_lines : ℕ → List ℕ → List ℕ
disassembled_lines zero image = []
disassembled_lines (suc most) [] = []
disassembled_lines (suc most) (b ∷ bs) = disassembled_by (disassembled_lines most) b bs (decoded_at (b ∷ bs))

-- a line has at least a byte
unfoldable pub dis_of : List ℕ → List ℕ
dis_of image = disassembled_lines (length image) image
