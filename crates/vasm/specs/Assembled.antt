-- What the assembler's answer says of a text.
use Rattle.std.specs.Prelude.{◌≡◌, ℕ, List, [], Option, Result, Ok, Err}
use Rattle.std.specs.Str.Lines.{lines}
use Rattle.std.specs.Global.{Vec}
use Rattle.vasm_text.specs.Statements.{SourceLine}
use Rattle.vasm_text.specs.Asm.{asm_of, assembled_bytes, read_from}
use Rattle.vasm_text.specs.declared.fault.AsmError.{AsmError}
use Rattle.vasm_text.specs.declared.fault.AsmError.TheVariants.{Fault, NoMemory}
use Rattle.vasm_text.specs.declared.fault.AsmFault.{AsmFault}

-- bytes, or a refused line, exactly as `wanted` says
abbrev pub IsAsWanted : Result (Vec ℕ) AsmError → Result (List ℕ) AsmFault → Type 0
IsAsWanted (Ok bytes) wanted = wanted ≡ Ok (bytes.items)
IsAsWanted (Err (Fault f)) wanted = wanted ≡ Err f
IsAsWanted (Err NoMemory) wanted = Unit {0}

-- the bytes of a text whose lines are read, by the addresses of names
abbrev pub IsAssembledText : Result (Vec ℕ) AsmError → (List ℕ → Option ℕ) → List ℕ → Type 0
IsAssembledText result names text = (program : List SourceLine) → read_from 1 [] (lines text) ≡ Ok program → IsAsWanted result (assembled_bytes names 1 0x200 program)

abbrev pub IsAssembled : Result (Vec ℕ) AsmError → List ℕ → Type 0
IsAssembled result text = IsAsWanted result (asm_of text)
