-- The bytes that an interaction claims for writing, and what holds of them and the result wherever it ends.
use Rattle.std.specs.Prelude.{ℕ, zero, suc, ◌+◌, ◌%◌, ◌^◌, List, [], ◌∷◌, ◌++◌}
use Rattle.vv_base.specs.declared.width.Width.{Width}
use Rattle.vv_base.specs.Width.{size_of}
use Rattle.vax_arch.specs.declared.mode.Intent.{Intent}
use Rattle.vax_arch.specs.declared.mode.Intent.TheVariants as intents
use Rattle.vax_table.specs.declared.act.Dest.{Dest}
use Rattle.vax_table.specs.declared.act.Dest.TheVariants.{Nowhere, Register, Memory}
use Rattle.vax_table.specs.declared.forms.Access.{Access}
use Rattle.vax_table.specs.declared.forms.Access.TheVariants.{Read, Modify, Write, Address, Bits, Branch}
use Rattle.vax_table.specs.declared.forms.Form.{Form}
use Rattle.vax_table.specs.Interaction.{Space, Interaction, Done, Refuse, Touch, gathered, IsIn}

-- the addresses of k bytes
abbrev pub addresses : ℕ → ℕ → List ℕ
addresses zero a = []
addresses (suc k) a = a % 2 ^ 32 ∷ addresses k (a + 1)

abbrev pub if_write : Intent → List ℕ → List ℕ
if_write intents.Read xs = []
if_write intents.Write xs = xs

-- the bytes that are claimed for writing, in access order
abbrev pub claims : {A : Type 0} → Space → Interaction A → List ℕ
claims s m = gathered s (λ i a k. if_write i (addresses k a)) m

-- a relation between what was claimed so far and the result, at each end that an interaction can reach
abbrev pub Holds : {A : Type 0} → (List ℕ → A → Type 0) → List ℕ → Interaction A → Type 0
Holds P cs (Done a) = P cs a
Holds P cs (Refuse t) = Unit {0}
Holds P cs (Touch i a k f) = (v : ℕ) → Holds P (cs ++ if_write i (addresses k a)) (f v)

-- all of some bytes are among others
abbrev pub AreAmong : List ℕ → List ℕ → Type 0
AreAmong xs ys = (x : ℕ) → IsIn x xs → IsIn x ys

-- the bytes of a destination in memory, of a width
abbrev pub destination_addresses : Width → Dest → List ℕ
destination_addresses w Nowhere = []
destination_addresses w (Register n) = []
destination_addresses w (Memory at) = addresses (size_of w) at

-- what an operand claims: its bytes, where it is modified or written in memory
abbrev pub claims_by : Access → Width → Dest → List ℕ
claims_by Read w dest = []
claims_by Modify w dest = destination_addresses w dest
claims_by Write w dest = destination_addresses w dest
claims_by Address w dest = []
claims_by Bits w dest = []
claims_by Branch w dest = []

-- what operands claim, in their order
abbrev pub operand_claims : List Form → List Dest → List ℕ
operand_claims [] dests = []
operand_claims (f ∷ fs) [] = []
operand_claims (f ∷ fs) (d ∷ ds) = claims_by f.access f.width d ++ operand_claims fs ds
