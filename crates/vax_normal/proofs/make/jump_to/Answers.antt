use Rattle.std.proofs.Common.{◌≡◌, ◌%◌, ◌^◌, ◌∙◌, arith, slice_index}
use Rattle.vax_table.specs.Operand.{plus}
use Rattle.vax_normal.specs.AtHand.{value_at_hand}
use Rattle.vax_normal.specs.Normal.{number_by}
use Rattle.vax_normal.proofs.Doing.{leads}
use Rattle.vax_normal.proofs.Relative.{by_pc}
use Rattle.vax_normal.proofs.make.jump_to.Goals as goal

pub returns-in-Branch : goal.returns-in-Branch
returns-in-Branch c = λ r q here.
    let d = c.in-Branch.displacement in
    let to : value_at_hand c.args.x.now.kind c.args.x.now.form.width c.args.x.now.spec q ≡ plus (slice_index q 15) d = leads c.args.x.now d q c.in-Branch.is in
    omega (arith, to, here, c.jump_of.ensures)

pub returns-in_ok-relative_of-in_default : goal.returns-in_ok-relative_of-in_default
returns-in_ok-relative_of-in_default c = λ r q here.
    let n = c.in_ok-relative_of-in_default.field-0 in
    let by = c.in_ok-relative_of-in_default.ensures in
    let same : plus (slice_index q 15) 0 ≡ plus (slice_index r 15) c.args.length = omega (arith, here) in
    let is : number_by n r ≡ plus (slice_index r 15 % 2 ^ 32) n.offset = by_pc n r by.pc in
    by.value r q same ∙ is ∙ omega arith
