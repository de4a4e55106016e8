-- Operands that are constants, registers, branches, or addresses by registers alone: their values need no memory.
use Rattle.std.specs.Prelude.{◌≡◌, ℕ, ◌+◌, ◌<◌, ◌&&◌, Bool, true, false, List, [], ◌∷◌, length, slice_index, slice_set}
use Rattle.vv_base.specs.declared.width.Width.{Width}
use Rattle.vv_base.specs.Width.{size_of}
use Rattle.vax_table.specs.declared.act.Dest.{Dest}
use Rattle.vax_table.specs.declared.act.Dest.TheVariants.{Nowhere, Register}
use Rattle.vax_table.specs.declared.decoded.Spec.{Spec}
use Rattle.vax_table.specs.Effects.{Effect, put}
use Rattle.vax_table.specs.declared.evaluation.Operands.{Operands}
use Rattle.vax_table.specs.declared.meaning.Operation.{Operation}
use Rattle.vax_table.specs.Interaction.{Done}
use Rattle.vax_table.specs.Operand.{evaluated, indexed_by, place, plus, register_value}
use Rattle.vax_table.specs.AllOperands.{no_operands, past_own_bytes, with_operand}
use Rattle.vax_table.specs.Plan.{performed}
use Rattle.vax_operand.specs.declared.kind.Base.{Base}
use Rattle.vax_operand.specs.declared.kind.Base.TheVariants.{Deferred, Absolute, Displaced}
use Rattle.vax_operand.specs.declared.kind.Kind.{Kind}
use Rattle.vax_operand.specs.declared.kind.Kind.TheVariants.{Constant, ReadRegister, ModifyRegister, WriteRegister, BitsRegister, Branch, Address}
use Rattle.vax_operand.specs.declared.prepared.Operand.{Operand}
use Rattle.vax_normal.specs.declared.shape.Shape.{Shape}
use Rattle.vax_normal.specs.Normal.{done_by, with_result}

-- of registers all but PC are alike
abbrev pub AreAlikeButPc : List ℕ → List ℕ → Type 0
AreAlikeButPc r q = (i : ℕ) → i < 15 → slice_index q i ≡ slice_index r i

-- registers in which PC alone is set
abbrev pub IsMoved : List ℕ → List ℕ → Type 0
IsMoved r q = (v : ℕ) × (q ≡ slice_set r 15 v)

-- a base that needs the registers alone, and leaves them
abbrev pub is_base_at_hand : Base → Bool
is_base_at_hand Deferred = true
is_base_at_hand (Absolute a) = true
is_base_at_hand (Displaced d) = true
is_base_at_hand base = false

abbrev pub is_at_hand : Kind → Bool
is_at_hand Constant = true
is_at_hand ReadRegister = true
is_at_hand ModifyRegister = true
is_at_hand WriteRegister = true
is_at_hand BitsRegister = true
is_at_hand (Branch d) = true
is_at_hand (Address b) = is_base_at_hand b
is_at_hand kind = false

abbrev pub are_at_hand : List Operand → Bool
are_at_hand [] = true
are_at_hand (x ∷ xs) = is_at_hand x.kind && are_at_hand xs

-- what such a base gives by a register
abbrev pub base_at_hand : Base → ℕ → List ℕ → ℕ
base_at_hand (Absolute a) n r = a
base_at_hand (Displaced d) n r = plus (slice_index r n) d
base_at_hand base n r = slice_index r n

-- the value of such an operand, by the registers after its own bytes
abbrev pub value_at_hand : Kind → Width → Spec → List ℕ → ℕ
value_at_hand Constant w s r = s.value
value_at_hand ReadRegister w s r = register_value w r s.reg
value_at_hand ModifyRegister w s r = register_value w r s.reg
value_at_hand (Branch d) w s r = plus (slice_index r 15) d
value_at_hand (Address b) w s r = (indexed_by (size_of w) s.index (place (base_at_hand b s.reg r) r)).at
value_at_hand kind w s r = 0

-- and where its result goes, or its bits are
abbrev pub dest_at_hand : Kind → ℕ → Dest
dest_at_hand ModifyRegister n = Register n
dest_at_hand WriteRegister n = Register n
dest_at_hand BitsRegister n = Register n
dest_at_hand kind n = Nowhere

-- operands from a number on, put after those before
abbrev pub from_at_hand : ℕ → List Operand → Operands → Operands
from_at_hand i [] o = o
from_at_hand i (x ∷ xs) o =
    let q = past_own_bytes x.length o.r in
    from_at_hand (i + 1) xs (with_operand i o (evaluated (value_at_hand x.kind x.form.width x.spec q) (dest_at_hand x.kind x.spec.reg) q))

-- all, from registers after the opcode
abbrev pub all_at_hand : List Operand → List ℕ → Operands
all_at_hand xs q = from_at_hand 0 xs (no_operands q)

-- how many bytes operands have in an instruction, modulo 2 ^ 32
abbrev pub operands_length : List Operand → ℕ
operands_length [] = 0
operands_length (x ∷ xs) = plus x.length (operands_length xs)

-- registers before an instruction of k bytes, and those after its opcode
abbrev pub AreBefore : ℕ → List Operand → (r q : List ℕ) → Type 0
AreBefore k xs r q = (15 < length r) × AreAlikeButPc r q × ((all_at_hand xs q).r ≡ past_own_bytes k r)

-- a result goes to one of R0 to R14 of this number, or nowhere, where it is 15
abbrev pub IsPutBy : ℕ → Dest → Type 0
IsPutBy n dest = (w : Width) (v : ℕ) (e : Effect) → put dest w v e ≡ record e { r = with_result n w v e.r }

-- an operation after such operands, of an instruction of k bytes, does what a shape says
abbrev pub IsDoneBy : Shape → ℕ → Operation → List Operand → Type 0
IsDoneBy s k what xs = (r q : List ℕ) (psw : ℕ) → 15 < length r → AreAlikeButPc r q → (all_at_hand xs q).r ≡ past_own_bytes k r → performed what (all_at_hand xs q) psw ≡ Done (done_by s k r psw)
