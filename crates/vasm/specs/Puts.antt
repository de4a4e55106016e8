-- Bytes that are appended, or why a line is refused.
use Rattle.std.specs.Prelude.{◌≡◌, ℕ, List, ◌++◌, Result, Ok, Err}
use Rattle.vasm_text.specs.Asm.{at_line}
use Rattle.vasm_text.specs.declared.fault.AsmError.{AsmError}
use Rattle.vasm_text.specs.declared.fault.AsmError.TheVariants.{Fault, NoMemory}
use Rattle.vasm_text.specs.declared.fault.AsmKind.{AsmKind}

-- bytes after others
abbrev pub appended_to : {E : Type 0} → List ℕ → Result (List ℕ) E → Result (List ℕ) E
appended_to front (Ok bytes) = Ok (front ++ bytes)
appended_to front (Err e) = Err e

-- the bytes of `wanted` come after the old ones, or the line is refused for the reason in `wanted`
abbrev pub AppendsOrRefuses : {U : Type 0} → ℕ → List ℕ → List ℕ → Result (List ℕ) AsmKind → Result U AsmError → Type 0
AppendsOrRefuses number old new wanted (Ok _) = appended_to old wanted ≡ Ok new
AppendsOrRefuses number old new wanted (Err (Fault f)) = at_line number wanted ≡ Err f
AppendsOrRefuses number old new wanted (Err NoMemory) = Unit {0}
