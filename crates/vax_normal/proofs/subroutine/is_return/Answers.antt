use Rattle.std.proofs.Common.{◌≡◌, List, [], map, sym, ◌∙◌, subst, arith}
use Rattle.vax_table.specs.AllOperands.{forms_in}
use Rattle.vax_table.specs.Rows.{row_of}
use Rattle.vax_table.specs.Spelling.{view}
use Rattle.vax_operand.specs.declared.prepared.Operand.{Operand}
use Rattle.vax_normal.proofs.Subroutines.{is_return, none_of}
use Rattle.vax_normal.proofs.subroutine.is_return.Goals as goal

pub returns-in-LeaveSubroutine-empty : goal.returns-in-LeaveSubroutine-empty
returns-in-LeaveSubroutine-empty c = λ yes.
    let p = c.args.prepared.now in
    let d = view p.decoded in
    let ys = c.as_slice.result.now in
    let items : p.operands.items ≡ [] = sym c.as_slice.ensures.value ∙ none_of ys (omega (arith, c.in-LeaveSubroutine-empty.len_below)) in
    let forms = subst (λ (xs : List Operand). map (λ y. y.form) xs ≡ forms_in (row_of d.opcode)) items p.forms in
    let specs = subst (λ (xs : List Operand). map (λ y. y.spec) xs ≡ d.specs) items p.specs in
    is_return d (sym c.in-LeaveSubroutine-empty.is-0 ∙ p.does) forms specs c.requires
