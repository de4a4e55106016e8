-- The ranges in which the fields of a well-formed operand lie.
use Rattle.std.specs.Prelude.{◌≡◌, ◌<◌, List, [], ◌∷◌, false, IfSome}
use Rattle.vax_table.specs.declared.forms.Form.{Form}
use Rattle.vax_table.specs.declared.decoded.Spec.{Spec}
use Rattle.vax_table.specs.Reading.{is_branch}

-- A specifier's first byte is a literal or has two halves, and PC is no index.
pub record IsInRange (form : Form) (s : Spec) : Type 0 where
  pub mode : is_branch form.access ≡ false → s.mode < 16
  pub reg : is_branch form.access ≡ false → s.reg < 16
  pub literal : is_branch form.access ≡ false → s.mode ≡ 0 → s.value < 64
  pub index : IfSome s.index (λ x. x < 15)

-- as many operands as forms, each in range
abbrev pub AllInRange : List Form → List Spec → Type 0
AllInRange [] [] = Unit {0}
AllInRange (f ∷ fs) (s ∷ ss) = IsInRange f s × AllInRange fs ss
AllInRange [] (s ∷ ss) = ⊥
AllInRange (f ∷ fs) [] = ⊥
