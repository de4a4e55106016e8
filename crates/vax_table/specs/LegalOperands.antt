-- What holds of an operand of a well-formed instruction, beside its bytes: what its evaluation rests on.
use Rattle.std.specs.Prelude.{◌≡◌, ℕ, ◌<◌, ◌^◌, ◌⊎◌, List, [], ◌∷◌, Some, IfSome, slice_get, slice_index, slice_index_or}
use Rattle.vv_base.specs.declared.width.Width.{Width}
use Rattle.vv_base.specs.declared.width.Width.TheVariants.{Byte, Long}
use Rattle.vv_base.specs.Width.{size_of}
use Rattle.vax_table.specs.declared.act.Dest.{Dest}
use Rattle.vax_table.specs.declared.act.Dest.TheVariants.{Nowhere, Register, Memory}
use Rattle.vax_table.specs.declared.decoded.Spec.{Spec}
use Rattle.vax_table.specs.declared.evaluation.Operands.{Operands}
use Rattle.vax_table.specs.declared.forms.Access.{Access}
use Rattle.vax_table.specs.declared.forms.Access.TheVariants.{Read, Modify, Write, Address, Bits, Branch}
use Rattle.vax_table.specs.declared.forms.Form.{Form}
use Rattle.vax_table.specs.Reading.{displacement_size}

-- A specifier's registers, and its address or displacement within its bytes. PC is in no mode below 8.
pub record IsFormed (s : Spec) : Type 0 where
  pub register : s.reg < 16
  pub named : s.mode < 8 → s.reg < 15
  pub index : IfSome s.index (λ x. x < 15)
  pub address : s.mode ≡ 9 → s.value < 2 ^ 32
  pub displacement : 9 < s.mode → s.value < 256 ^ displacement_size s.mode

-- a literal, or an immediate within its bytes
pub record IsReadableOperand (w : Width) (s : Spec) : Type 0 where
  pub formed : IsFormed s
  pub mode : (s.mode ≡ 0) ⊎ (4 < s.mode)
  pub literal : s.mode ≡ 0 → s.value < 64
  pub immediate : s.mode ≡ 8 → s.reg ≡ 15 → s.value < 256 ^ size_of w

-- No literal is modified, written, or has its address or bits taken; no register has its address taken.
abbrev pub IsLegalOperand : Access → Width → Spec → Type 0
IsLegalOperand Read w s = IsReadableOperand w s
IsLegalOperand Modify w s = IsFormed s × (4 < s.mode)
IsLegalOperand Write w s = IsFormed s × (4 < s.mode)
IsLegalOperand Address w s = IsFormed s × (5 < s.mode)
IsLegalOperand Bits w s = IsFormed s × (4 < s.mode)
IsLegalOperand Branch w s = s.value < 256 ^ size_of w

-- operands that are sound, one for each form
abbrev pub AreLegalOperands : List Form → List Spec → Type 0
AreLegalOperands [] [] = Unit {0}
AreLegalOperands (f ∷ fs) (s ∷ ss) = IsLegalOperand f.access f.width s × AreLegalOperands fs ss
AreLegalOperands [] (s ∷ ss) = ⊥
AreLegalOperands (f ∷ fs) [] = ⊥

-- the width of an operand's value: an address and a branch's target are longwords, bits are counted from a byte
abbrev pub value_width : Access → Width → Width
value_width Read w = w
value_width Modify w = w
value_width Write w = w
value_width Address w = Long
value_width Bits w = Byte
value_width Branch w = Long

-- a register that is named is one of R0 to R14
abbrev pub IsRegister : Dest → Type 0
IsRegister Nowhere = Unit {0}
IsRegister (Register n) = n < 15
IsRegister (Memory at) = Unit {0}

-- a value within its width, and a register that exists
abbrev pub FitsForm : Form → ℕ → Dest → Type 0
FitsForm f value dest = (value < 256 ^ size_of (value_width f.access f.width)) × IsRegister dest

-- each operand of the forms has a value within its width, and a register that exists
abbrev pub AllFit : List Form → Operands → Type 0
AllFit forms o = (k : ℕ) (f : Form) → slice_get forms k ≡ Some f → FitsForm f (slice_index o.values k) (slice_index_or o.dests k Nowhere)
