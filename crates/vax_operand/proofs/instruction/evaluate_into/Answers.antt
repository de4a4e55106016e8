use Rattle.std.proofs.Common.{arith, List, OnOk, ap, ◌∙◌, subst}
use Rattle.vax_table.specs.Spelling.{view}
use Rattle.vax_table.specs.LegalOperands.{AllFit}
use Rattle.vax_table.specs.declared.forms.Form.{Form}
use Rattle.vax_operand.specs.Left.{left, operands_with_registers}
use Rattle.vax_operand.proofs.Steps.{forms_of, specs_of, next_pc, of_forms}
use Rattle.vax_operand.proofs.instruction.evaluate_into.Goals as goal

pub returns-clause-fits : goal.returns-clause-fits
returns-clause-fits g c =
    let all = ap forms_of c.as_slice.ensures.value ∙ c.args.e.now.forms in
    subst (λ (fs : List Form). OnOk c.evaluate_all.result (AllFit fs (operands_with_registers c.evaluate_all.new.v c.evaluate_all.new.r))) all c.evaluate_all.ensures.fits

pub returns-clause-next_pc : goal.returns-clause-next_pc
returns-clause-next_pc g c =
    let e = c.args.e.now in
    let o = operands_with_registers c.evaluate_all.new.v c.evaluate_all.new.r in
    let space = g.S.Space.space c.args.s.now in
    let forms = ap forms_of c.as_slice.ensures.value ∙ e.forms in
    let specs = ap specs_of c.as_slice.ensures.value ∙ e.specs in
    next_pc space (view e.decoded) c.args.r.now c.evaluate_all.result o c.requires.formed (omega (arith, c.begin.ensures.registers))
    (of_forms space (view e.decoded) c.args.r.now _ _ (operands_with_registers c.begin.new.v c.begin.new.r) (left c.evaluate_all.result o) forms specs c.begin.ensures.value c.evaluate_all.ensures.outcome)
