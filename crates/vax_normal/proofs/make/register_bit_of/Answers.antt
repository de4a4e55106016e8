use Rattle.std.proofs.Common.{◌≡◌, ◌<◌, ℕ, List, [], ◌∷◌, None, sym, subst, arith}
use Rattle.vax_table.specs.declared.meaning.Operation.TheVariants as does
use Rattle.vax_operand.specs.Prepared.{RestsOn}
use Rattle.vax_operand.specs.declared.kind.Kind.{Kind}
use Rattle.vax_operand.specs.declared.prepared.Operand.{Operand}
use Rattle.vax_normal.specs.AtHand.{IsDoneBy}
use Rattle.vax_normal.specs.declared.shape.Shape.TheVariants.{BranchesOnBits}
use Rattle.vax_normal.proofs.Doing.{bit_done}
use Rattle.vax_normal.proofs.Taking.{three_of}
use Rattle.vax_normal.proofs.make.register_bit_of.Goals as goal

pub returns-in_ok-mask-in-Constant-BitsRegister-Branch : goal.returns-in_ok-mask-in-Constant-BitsRegister-Branch
returns-in_ok-mask-in-Constant-BitsRegister-Branch c =
    let x = c.x-item.result in
    let y = c.y-item.result in
    let z = c.z-item.result in
    let xs = c.args.operands.now in
    let arm = c.in-Constant-BitsRegister-Branch in
    let low : y.spec.reg < 15 = subst (λ (k : Kind). RestsOn k y.form.width y.spec) arm.is-1 y.rests in
    let n = c.longword-number.result in
    let all : xs ≡ x ∷ (y ∷ (z ∷ [])) = three_of xs x y z (omega (arith, c.in-len3.len_at_least)) (omega (arith, c.in-len3.len_below)) c.x-item.is c.y-item.is c.z-item.is in
    subst (λ (ys : List Operand). IsDoneBy (BranchesOnBits c.args.on n c.in_ok-mask-in-Constant-BitsRegister-Branch.mask c.jump_of.result) c.args.length (does.BranchOnBit c.args.on None) ys) (sym all)
    (subst (λ (m : ℕ). IsDoneBy (BranchesOnBits c.args.on n m c.jump_of.result) c.args.length (does.BranchOnBit c.args.on None) (x ∷ (y ∷ (z ∷ [])))) (sym c.in_ok-mask-in-Constant-BitsRegister-Branch.ensures.value)
    (bit_done c.args.on x y z n arm.displacement c.args.length c.jump_of.result arm.is-0 c.in_ok-mask-in-Constant-BitsRegister-Branch.ensures.few arm.is-1 low arm.is-2 c.jump_of.ensures c.longword-number.ensures))
