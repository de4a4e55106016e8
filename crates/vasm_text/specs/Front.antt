-- The text of what is at the front of bytes, as the first line of their disassembly has it.
use Rattle.std.specs.Prelude.{ℕ, List, [], ◌∷◌}
use Rattle.vax_table.specs.Reading.{Decoding, Whole, decoded_at}
use Rattle.vasm_text.specs.Printing.{instruction_text, byte_text}

-- of the byte b and what follows, by what reading them answers
abbrev pub front_by : (b : ℕ) → Decoding → List ℕ
front_by b (Whole d rest) = instruction_text d.opcode d.specs
front_by b none = byte_text b

-- an instruction, or else the first byte; nothing where there is no byte
unfoldable pub front_text : List ℕ → List ℕ
front_text [] = []
front_text (b ∷ bs) = front_by b (decoded_at (b ∷ bs))
