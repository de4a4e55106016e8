-- What holds of every instruction, whole, over every space; of two spaces the second answers wherever the first does.
use Rattle.std.specs.Prelude.{◌≡◌, ℕ, Bool, List, Ok, Err}
use Rattle.vax_arch.specs.declared.mode.Intent.{Intent}
use Rattle.vax_table.specs.Claims.{claims}
use Rattle.vax_table.specs.Effects.{Effect}
use Rattle.vax_table.specs.Interaction.{AsFar, At, Below, Cause, IsIn, Space, outcome, reached}
use Rattle.vax_table.specs.PlanLaws.{StoresAreClaimed, bytes_of_stores}
use Rattle.vax_table.specs.Tries.{IsMarkedAtLeast, TriedFar, first_clear, tried, unless_clear}
use Rattle.vax_table.specs.Whole.{Plain, instruction, meant}

-- an instruction depends on its space only at the bytes that it asks for, in order
abbrev pub IsLocal : Type 0
IsLocal = (is_kernel : Bool) (psl : ℕ) (r : List ℕ) (s t : Space) → Below s t → AsFar s t (outcome s (instruction is_kernel psl r)) (outcome t (instruction is_kernel psl r))

-- the byte of a trouble over the first space is among those that are asked for over the second
abbrev pub ReachesTrouble : Type 0
ReachesTrouble = (is_kernel : Bool) (psl : ℕ) (r : List ℕ) (s t : Space) → Below s t → (intent : Intent) (va : ℕ) (cause : Cause) →
    outcome s (instruction is_kernel psl r) ≡ Err (At cause intent va) → IsIn va (reached t (instruction is_kernel psl r))

-- what a plain instruction claims for writing is what it stores, byte for byte in order
abbrev pub ClaimsExactlyWhatItStores : Type 0
ClaimsExactlyWhatItStores = (is_kernel : Bool) (psl : ℕ) (r : List ℕ) (s : Space) (opcode : ℕ) (e : Effect) →
    outcome s (instruction is_kernel psl r) ≡ Ok (meant opcode (Plain e)) → claims s (instruction is_kernel psl r) ≡ bytes_of_stores e.writes

-- what an instruction stores it claimed for writing before
abbrev pub ClaimsWhatItStores : Type 0
ClaimsWhatItStores = (is_kernel : Bool) (psl : ℕ) (r : List ℕ) (s : Space) (opcode : ℕ) (e : Effect) →
    outcome s (instruction is_kernel psl r) ≡ Ok (meant opcode (Plain e)) → StoresAreClaimed (claims s (instruction is_kernel psl r)) e.writes

-- a try depends on its space and modify bits only at the bytes that are asked for, in order
abbrev pub TriesLocally : Type 0
TriesLocally = (is_kernel : Bool) (psl : ℕ) (r : List ℕ) (s t : Space) (below above : ℕ → Bool) → Below s t → IsMarkedAtLeast below above →
    TriedFar s t below above (tried s below (instruction is_kernel psl r)) (tried t above (instruction is_kernel psl r))

-- a try of a plain instruction that would complete looks for a clear modify bit at the bytes that it stores, in order
abbrev pub TriesWhatItStores : Type 0
TriesWhatItStores = (is_kernel : Bool) (psl : ℕ) (r : List ℕ) (s : Space) (is_clear : ℕ → Bool) (opcode : ℕ) (e : Effect) →
    outcome s (instruction is_kernel psl r) ≡ Ok (meant opcode (Plain e)) →
    tried s is_clear (instruction is_kernel psl r) ≡ unless_clear (meant opcode (Plain e)) (first_clear is_clear (bytes_of_stores e.writes))
