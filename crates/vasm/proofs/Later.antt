-- Operands after others.
use Rattle.std.proofs.Common.{◌≡◌, ◌<◌, List, [], ◌∷◌, ◌++◌, length, Option, Some, None, refl, sym, ◌∙◌, arith}
use Rattle.vax_table.specs.declared.forms.Form.{Form}
use Rattle.vasm_text.specs.Operands.{SourceOperand, operands_in}

abbrev pub later : List SourceOperand → Option (List SourceOperand) → Option (List SourceOperand)
later front None = None
later front (Some os) = Some (front ++ os)

none_in : (front : List SourceOperand) (fs : List Form) → 0 < length fs → later front (operands_in fs None) ≡ None
none_in front [] some = absurd (omega arith)
none_in front (f ∷ fs) some = refl

-- a text ends before its operands do
pub none_left : (front : List SourceOperand) (fs : List Form) (all : Option (List SourceOperand)) → 0 < length fs → later front (operands_in fs None) ≡ all → None ≡ all
none_left front fs all some is = sym (none_in front fs some) ∙ is
