use Rattle.std.proofs.Common.{◌≡◌, List, [], ◌∷◌, map, sym, ◌∙◌, subst, arith}
use Rattle.std.specs.Prelude.{IfSome}
use Rattle.vax_table.specs.AllOperands.{forms_in}
use Rattle.vax_table.specs.Rows.{row_of}
use Rattle.vax_table.specs.Spelling.{view}
use Rattle.vax_operand.specs.declared.prepared.Operand.{Operand}
use Rattle.vax_normal.specs.Touched.{AreTouched}
use Rattle.vax_normal.proofs.Moving.{quad_cleared, quad_copied}
use Rattle.vax_normal.proofs.Taking.{one_of, two_of}
use Rattle.vax_normal.proofs.quad.quad_move_of.Goals as goal

pub returns-in-ClearQuad-len1 : goal.returns-in-ClearQuad-len1
returns-in-ClearQuad-len1 c =
    let p = c.args.prepared.now in
    let d = view p.decoded in
    let x = c.x-item.result in
    let ys = c.as_slice-operands.result.now in
    let z = c.quad_to in
    let all : ys ≡ x ∷ [] = one_of ys x (omega (arith, c.in-ClearQuad-len1.len_at_least)) (omega (arith, c.in-ClearQuad-len1.len_below)) c.x-item.is in
    let items : p.operands.items ≡ x ∷ [] = sym c.as_slice-operands.ensures.value ∙ all in
    let forms = subst (λ (xs : List Operand). map (λ y. y.form) xs ≡ forms_in (row_of d.opcode)) items p.forms in
    let specs = subst (λ (xs : List Operand). map (λ y. y.spec) xs ≡ d.specs) items p.specs in
    let touched = subst (λ (xs : List Operand). IfSome z.result (λ n. AreTouched (record { reads = n.reads; writes = n.writes }) xs)) all z.ensures.touches in
    quad_cleared z.result d x c.from-length.result (sym c.in-ClearQuad-len1.is-0 ∙ p.does) forms specs c.requires c.from-length.ensures touched z.ensures.put z.ensures.source z.ensures.length

pub returns-in_ok-source_of-in-MoveQuad-len2 : goal.returns-in_ok-source_of-in-MoveQuad-len2
returns-in_ok-source_of-in-MoveQuad-len2 c =
    let p = c.args.prepared.now in
    let d = view p.decoded in
    let x = c.x-item-then-this-lt3.result in
    let y = c.y-item.result in
    let ys = c.as_slice-operands.result.now in
    let z = c.quad_to-in-MoveQuad-len2 in
    let all : ys ≡ x ∷ (y ∷ []) = two_of ys x y (omega (arith, c.in-MoveQuad-len2.len_at_least)) (omega (arith, c.in-MoveQuad-len2.len_below)) c.x-item-then-this-lt3.is c.y-item.is in
    let items : p.operands.items ≡ x ∷ (y ∷ []) = sym c.as_slice-operands.ensures.value ∙ all in
    let forms = subst (λ (xs : List Operand). map (λ y. y.form) xs ≡ forms_in (row_of d.opcode)) items p.forms in
    let specs = subst (λ (xs : List Operand). map (λ y. y.spec) xs ≡ d.specs) items p.specs in
    let touched = subst (λ (xs : List Operand). IfSome z.result (λ n. AreTouched (record { reads = n.reads; writes = n.writes }) xs)) all z.ensures.touches in
    quad_copied z.result d x y c.in_ok-source_of-in-MoveQuad-len2.field-0 c.from-length.result (sym c.in-MoveQuad-len2.is-0 ∙ p.does) forms specs c.requires c.from-length.ensures
    c.in_ok-source_of-in-MoveQuad-len2.ensures touched z.ensures.put z.ensures.source z.ensures.length
