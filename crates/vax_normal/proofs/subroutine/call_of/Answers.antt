use Rattle.std.proofs.Common.{◌≡◌, ◌∷◌, List, [], map, sym, ◌∙◌, subst, arith}
use Rattle.vax_table.specs.AllOperands.{forms_in}
use Rattle.vax_table.specs.Rows.{row_of}
use Rattle.vax_table.specs.Spelling.{view}
use Rattle.vax_operand.specs.declared.prepared.Operand.{Operand}
use Rattle.vax_normal.proofs.Taking.{one_of}
use Rattle.vax_normal.proofs.Subroutines.{is_call}
use Rattle.vax_normal.proofs.subroutine.call_of.Goals as goal

pub returns-in-Branch : goal.returns-in-Branch
returns-in-Branch c =
    let p = c.args.prepared.now in
    let d = view p.decoded in
    let x = c.x-item.result in
    let ys = c.as_slice.result.now in
    let all : ys ≡ x ∷ [] = one_of ys x (omega (arith, c.in-CallSubroutine-len1.len_at_least)) (omega (arith, c.in-CallSubroutine-len1.len_below)) c.x-item.is in
    let items : p.operands.items ≡ x ∷ [] = sym c.as_slice.ensures.value ∙ all in
    let forms = subst (λ (xs : List Operand). map (λ y. y.form) xs ≡ forms_in (row_of d.opcode)) items p.forms in
    let specs = subst (λ (xs : List Operand). map (λ y. y.spec) xs ≡ d.specs) items p.specs in
    is_call _ d x c.in-Branch.displacement (sym c.in-CallSubroutine-len1.is-0 ∙ p.does) forms specs c.requires c.in-Branch.is c.from-length.ensures c.jump_of.ensures
