use Rattle.std.proofs.Common.{◌≡◌, List, [], ◌∷◌, sym, subst, arith}
use Rattle.vax_table.specs.declared.meaning.Operation.TheVariants as does
use Rattle.vax_operand.specs.declared.prepared.Operand.{Operand}
use Rattle.vax_normal.specs.AtHand.{IsDoneBy}
use Rattle.vax_normal.specs.declared.shape.Shape.TheVariants.{Branches}
use Rattle.vax_normal.proofs.Doing.{branches_done}
use Rattle.vax_normal.proofs.Taking.{one_of}
use Rattle.vax_normal.proofs.make.branch_of.Goals as goal

pub returns : goal.returns
returns c =
    let x = c.x-item.result in
    let xs = c.args.operands.now in
    let jump = c.in_ok-jump.jump in
    let all : xs ≡ x ∷ [] = one_of xs x (omega (arith, c.in-len1.len_at_least)) (omega (arith, c.in-len1.len_below)) c.x-item.is in
    subst (λ (ys : List Operand). IsDoneBy (Branches c.args.condition jump) c.args.length (does.Branch c.args.condition) ys) (sym all) (branches_done c.args.condition x c.args.length jump c.in_ok-jump.ensures)
