-- What BBS and BBC of memory in normal form do.
use Rattle.std.specs.Prelude.{◌≡◌, ℕ, ◌%◌, ◌^◌, List, length, Ok}
use Rattle.vax_arch.specs.declared.mode.Intent.TheVariants.{Read}
use Rattle.vv_base.specs.Bits.{is_set}
use Rattle.vax_table.specs.Branches.{byte_of_bit, comes_out}
use Rattle.vax_table.specs.Interaction.{Done, Space, number_at, outcome}
use Rattle.vax_table.specs.Operand.{evaluated}
use Rattle.vax_table.specs.Plan.{planned}
use Rattle.vax_table.specs.Spelling.{Instruction}
use Rattle.vax_table.specs.declared.act.Dest.TheVariants.{Memory}
use Rattle.vax_operand.specs.Prepared.{operand_by}
use Rattle.vax_operand.specs.declared.prepared.Operand.{Operand}
use Rattle.vax_normal.specs.AtHand.{AreAlikeButPc, value_at_hand}
use Rattle.vax_normal.specs.Normal.{gone_on, number_by, quietly}
use Rattle.vax_normal.specs.declared.shape.Number.{Number}
use Rattle.vax_normal.specs.declared.bit_test.BitTest.{BitTest}

-- what is read of an operand is a number that is had at once
abbrev pub IsNumberOf : Number → Operand → Type 0
IsNumberOf n x = (r q : List ℕ) → AreAlikeButPc r q → value_at_hand x.kind x.form.width x.spec q % 2 ^ 32 ≡ number_by n r

-- an operand's bits are counted from an address that is had at once
abbrev pub IsBitBase : Number → Operand → Type 0
IsBitBase n x = (r q : List ℕ) → AreAlikeButPc r q → (at : ℕ) × (operand_by x.kind x.form.width x.spec q ≡ Done (evaluated 0 (Memory at) q)) × (at % 2 ^ 32 ≡ number_by n r)

-- the address of the byte that has the bit
abbrev pub bit_address : BitTest → List ℕ → ℕ
bit_address n r = byte_of_bit (number_by n.base r) (number_by n.position r)

-- the registers after it, where this is that byte
abbrev pub bit_tested_in : BitTest → (byte : ℕ) → List ℕ → List ℕ
bit_tested_in n byte r = gone_on (comes_out n.on (is_set byte (number_by n.position r % 8))) n.jump n.length r

-- it is what an instruction does, wherever the byte can be read; the codes stay
abbrev pub IsBitTest : BitTest → Instruction → Type 0
IsBitTest n d = (s : Space) (r : List ℕ) (psw byte : ℕ) → length r ≡ 16 → number_at s Read 1 (bit_address n r) ≡ Ok byte → outcome s (planned d r psw) ≡ Ok (quietly (bit_tested_in n byte r) psw)
