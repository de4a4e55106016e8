-- Laws of what plain instructions do, over every space.
use Rattle.std.specs.Prelude.{◌≡◌, ℕ, ◌%◌, ◌^◌, ◌≤◌, true, List, [], ◌∷◌, ◌++◌, length, Ok, Err}
use Rattle.vv_base.specs.Width.{size_of}
use Rattle.vax_arch.specs.declared.mode.Intent.{Intent}
use Rattle.vax_table.specs.Claims.{addresses, claims, AreAmong}
use Rattle.vax_table.specs.Effects.{Effect}
use Rattle.vax_table.specs.Operations.{operation_of}
use Rattle.vax_table.specs.Plan.{is_planned, plan_of, planned}
use Rattle.vax_table.specs.Interaction.{AsFar, At, Below, Cause, IsIn, Space, outcome, reached}
use Rattle.vax_table.specs.Spelling.{Instruction}
use Rattle.vax_table.specs.declared.effect.Store.{Store}

-- the bytes of stores, in their order
abbrev pub bytes_of_stores : List Store → List ℕ
bytes_of_stores [] = []
bytes_of_stores (x ∷ xs) = addresses (size_of x.width) x.va ++ bytes_of_stores xs

-- what a plan claims for writing is what it stores, byte for byte in order
abbrev pub ClaimsExactlyItsStores : Type 0
ClaimsExactlyItsStores = (psl : ℕ) (d : Instruction) (r : List ℕ) (s : Space) (e : Effect) → outcome s (plan_of psl d r) ≡ Ok e → claims s (plan_of psl d r) ≡ bytes_of_stores e.writes

-- each byte of each store is among these
abbrev pub StoresAreClaimed : List ℕ → List Store → Type 0
StoresAreClaimed cs [] = Unit {0}
StoresAreClaimed cs (x ∷ xs) = AreAmong (addresses (size_of x.width) x.va) cs × StoresAreClaimed cs xs

-- what is stored was claimed for writing before
abbrev pub ClaimsItsStores : Type 0
ClaimsItsStores = (psl : ℕ) (d : Instruction) (r : List ℕ) (s : Space) (e : Effect) → outcome s (plan_of psl d r) ≡ Ok e → StoresAreClaimed (claims s (plan_of psl d r)) e.writes

-- Of two spaces the second answers wherever the first does.

-- the outcome depends on the space only at the bytes that are asked for, in order
abbrev pub IsPlanLocal : Type 0
IsPlanLocal = (psl : ℕ) (d : Instruction) (r : List ℕ) (s t : Space) → Below s t → AsFar s t (outcome s (plan_of psl d r)) (outcome t (plan_of psl d r))

-- the byte of a trouble over the first is among those that are asked for over the second
abbrev pub ReachesPlanTrouble : Type 0
ReachesPlanTrouble = (psl : ℕ) (d : Instruction) (r : List ℕ) (s t : Space) → Below s t → (intent : Intent) (va : ℕ) (cause : Cause) →
    outcome s (plan_of psl d r) ≡ Err (At cause intent va) → IsIn va (reached t (plan_of psl d r))

-- where the plan completes over the first, it claims the same over the second
abbrev pub ClaimsTheSame : Type 0
ClaimsTheSame = (psl : ℕ) (d : Instruction) (r : List ℕ) (s t : Space) (e : Effect) → Below s t → outcome s (plan_of psl d r) ≡ Ok e → claims t (plan_of psl d r) ≡ claims s (plan_of psl d r)

-- but for MOVPSL none depends on the PSL beyond its status word
abbrev pub DependsOnStatusWord : Type 0
DependsOnStatusWord = (psl : ℕ) (d : Instruction) (r : List ℕ) → is_planned (operation_of d.opcode) ≡ true → plan_of psl d r ≡ planned d r (psl % 2 ^ 8)

-- there are at most 20 stores
abbrev pub HasFewStores : Type 0
HasFewStores = (psl : ℕ) (d : Instruction) (r : List ℕ) (s : Space) (e : Effect) → outcome s (plan_of psl d r) ≡ Ok e → length e.writes ≤ 20

-- there are as many registers as before
abbrev pub KeepsRegisters : Type 0
KeepsRegisters = (psl : ℕ) (d : Instruction) (r : List ℕ) (s : Space) (e : Effect) → outcome s (plan_of psl d r) ≡ Ok e → length e.r ≡ length r
