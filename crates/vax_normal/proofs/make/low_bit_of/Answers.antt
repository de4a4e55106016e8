use Rattle.std.proofs.Common.{◌≡◌, List, [], ◌∷◌, sym, subst, arith}
use Rattle.vax_table.specs.declared.meaning.Operation.TheVariants as does
use Rattle.vax_operand.specs.declared.prepared.Operand.{Operand}
use Rattle.vax_normal.specs.AtHand.{IsDoneBy}
use Rattle.vax_normal.specs.declared.shape.Shape.TheVariants.{BranchesOnBits}
use Rattle.vax_normal.proofs.Doing.{low_bit_done}
use Rattle.vax_normal.proofs.Taking.{two_of}
use Rattle.vax_normal.proofs.make.low_bit_of.Goals as goal

pub returns-in_ok-number_of-in-Branch : goal.returns-in_ok-number_of-in-Branch
returns-in_ok-number_of-in-Branch c =
    let x = c.x-item.result in
    let y = c.y-item.result in
    let xs = c.args.operands.now in
    let n = c.in_ok-number_of-in-Branch.field-0 in
    let all : xs ≡ x ∷ (y ∷ []) = two_of xs x y (omega (arith, c.in-len2.len_at_least)) (omega (arith, c.in-len2.len_below)) c.x-item.is c.y-item.is in
    subst (λ (ys : List Operand). IsDoneBy (BranchesOnBits c.args.on n 1 c.jump_of.result) c.args.length (does.BranchOnLowBit c.args.on) ys) (sym all)
    (low_bit_done c.args.on x y n c.in-Branch.displacement c.args.length c.jump_of.result c.in-Branch.is c.jump_of.ensures c.in_ok-number_of-in-Branch.ensures)
