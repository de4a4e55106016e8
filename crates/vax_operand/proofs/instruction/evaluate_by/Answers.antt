use Rattle.std.proofs.Common.{List, ap, ◌∙◌, subst}
use Rattle.vax_table.specs.LegalOperands.{AllFit}
use Rattle.vax_table.specs.declared.forms.Form.{Form}
use Rattle.vax_operand.specs.Left.{operands_with_registers}
use Rattle.vax_operand.proofs.Steps.{forms_of}
use Rattle.vax_operand.proofs.instruction.evaluate_by.Goals as goal

pub returns-clause-fits : goal.returns-clause-fits
returns-clause-fits g c =
    let all = ap forms_of c.as_slice-2.ensures.value ∙ c.prepare-operands.ensures.forms in
    rw c.joined.ensures (subst (λ (fs : List Form). AllFit fs (operands_with_registers c.evaluate_all.new.v c.evaluate_all.new.r)) all c.in_ok-evaluate_all.ensures.fits)
