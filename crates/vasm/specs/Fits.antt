-- The ranges in which the fields of what is read lie.
use Rattle.std.specs.Prelude.{◌≡◌, ◌≢◌, List, [], ◌∷◌, Some, None, false, IsSome}
use Rattle.vax_table.specs.declared.forms.Form.{Form}
use Rattle.vax_table.specs.Reading.{is_branch}
use Rattle.vax_decode.specs.Encoding.{IsInRange}
use Rattle.vasm_text.specs.Operands.{SourceOperand}
use Rattle.vasm_text.specs.Statements.{Statement, Field, Instruct, SourceLine, forms_of}

-- a specifier that can be spelled, and no name for a literal's value
pub record IsFit (form : Form) (o : SourceOperand) : Type 0 where
  pub range : IsInRange form o.spec
  pub named : is_branch form.access ≡ false → IsSome o.name → o.spec.mode ≢ 0

abbrev pub AreFit : List Form → List SourceOperand → Type 0
AreFit [] os = Unit {0}
AreFit (f ∷ fs) [] = Unit {0}
AreFit (f ∷ fs) (o ∷ os) = IsFit f o × AreFit fs os

abbrev pub IsStatementFit : Statement → Type 0
IsStatementFit (Field size o) = Unit {0}
IsStatementFit (Instruct opcode os) = AreFit (forms_of opcode) os

abbrev pub IsSourceLineFit : SourceLine → Type 0
IsSourceLineFit line = elim (line.statement) [ None ↦ Unit {0} | Some s ↦ IsStatementFit s ]
