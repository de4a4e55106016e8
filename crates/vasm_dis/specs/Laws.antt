-- Printing and assembling belong together: a printed line is read as what it was printed from, and
-- assembling an image's text gives the image.
use Rattle.std.specs.Prelude.{◌≡◌, ℕ, ◌<◌, List, map, Option, Some, None, Ok}
use Rattle.vax_table.specs.declared.decoded.Spec.{Spec}
use Rattle.vax_table.specs.Spelling.{AreBytes, Instruction, Spells}
use Rattle.vasm_text.specs.Operands.{SourceOperand, unnamed_operand}
use Rattle.vasm_text.specs.Statements.{SourceLine, Statement, Field, Instruct, source_line_in}
use Rattle.vasm_text.specs.Printing.{instruction_text, byte_text}
use Rattle.vasm_text.specs.Asm.{asm_of}
use Rattle.vasm_text.specs.Dis.{dis_of}

-- a specifier whose value is a number
abbrev pub exact : Spec → SourceOperand
exact s = record { spec = s; name = None }

-- a line without a label
abbrev pub unlabelled_line : Statement → Option SourceLine
unlabelled_line s = Some (record { label = None; statement = Some s })

-- what is printed is read
pub record IsReadAgain : Type 0 where
  pub instruction : (bytes : List ℕ) (d : Instruction) → Spells bytes d → source_line_in (instruction_text d.opcode d.specs) ≡ unlabelled_line (Instruct d.opcode (map exact d.specs))
  pub byte : (b : ℕ) → b < 256 → source_line_in (byte_text b) ≡ unlabelled_line (Field 1 (unnamed_operand 16 0 b))

-- an image's text is assembled to the image
abbrev pub IsAssembledAgain : Type 0
IsAssembledAgain = (image : List ℕ) → AreBytes image → asm_of (dis_of image) ≡ Ok image
