use Rattle.std.proofs.Common.{◌≡◌, Bool, Option, ap, List, [], ◌∷◌, map, sym, ◌∙◌, subst, arith}
use Rattle.vax_table.specs.AllOperands.{forms_in}
use Rattle.vax_table.specs.Rows.{row_of}
use Rattle.vax_table.specs.Spelling.{view}
use Rattle.vax_table.specs.declared.meaning.Operation.TheVariants as does
use Rattle.vax_operand.specs.declared.prepared.Operand.{Operand}
use Rattle.vax_normal.proofs.Taking.{three_of}
use Rattle.vax_normal.specs.declared.bit_test.BitTest.{BitTest}
use Rattle.vax_normal.proofs.BitTests.{is_bit_test}
use Rattle.vax_normal.proofs.bit_test.bit_test_of.Goals as goal

pub returns-in_ok-base_of-in-None-Branch : goal.returns-in_ok-base_of-in-None-Branch
returns-in_ok-base_of-in-None-Branch c =
    let p = c.args.prepared.now in
    let d = view p.decoded in
    let x = c.x-item.result in
    let y = c.y-item.result in
    let z = c.z-item.result in
    let test = c.in-BranchOnBit-len3 in
    let ys = c.as_slice.result.now in
    let all : ys ≡ x ∷ (y ∷ (z ∷ [])) = three_of ys x y z (omega (arith, test.len_at_least)) (omega (arith, test.len_below)) c.x-item.is c.y-item.is c.z-item.is in
    let items : p.operands.items ≡ x ∷ (y ∷ (z ∷ [])) = sym c.as_slice.ensures.value ∙ all in
    let forms = subst (λ (xs : List Operand). map (λ y. y.form) xs ≡ forms_in (row_of d.opcode)) items p.forms in
    let specs = subst (λ (xs : List Operand). map (λ y. y.spec) xs ≡ d.specs) items p.specs in
    let n : BitTest = record { on = test.on; position = c.in_ok-position_of-in-None-Branch.field-0; base = c.in_ok-base_of-in-None-Branch.field-0; jump = c.jump_of.result; length = c.from-length.result } in
    is_bit_test n d x y z c.in-None-Branch.displacement (ap (λ (b : Option Bool). does.BranchOnBit test.on b) (sym c.in-None-Branch.is-0) ∙ sym test.is-0 ∙ p.does) forms specs c.requires c.in_ok-position_of-in-None-Branch.ensures.hand c.in_ok-position_of-in-None-Branch.ensures.number
    c.in_ok-base_of-in-None-Branch.ensures c.in-None-Branch.is-1 c.from-length.ensures c.jump_of.ensures
