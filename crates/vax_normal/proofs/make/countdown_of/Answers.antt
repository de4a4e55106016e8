use Rattle.std.proofs.Common.{◌≡◌, ◌<◌, List, [], ◌∷◌, refl, sym, subst, arith}
use Rattle.vax_table.specs.declared.meaning.Operation.TheVariants as does
use Rattle.vax_operand.specs.Prepared.{RestsOn}
use Rattle.vax_operand.specs.declared.kind.Kind.{Kind}
use Rattle.vax_operand.specs.declared.prepared.Operand.{Operand}
use Rattle.vax_normal.specs.AtHand.{IsDoneBy}
use Rattle.vax_normal.specs.declared.shape.Countdown.{Countdown}
use Rattle.vax_normal.specs.declared.shape.Shape.TheVariants.{CountsDown}
use Rattle.vax_normal.proofs.Doing.{counts_done}
use Rattle.vax_normal.proofs.Taking.{two_of}
use Rattle.vax_normal.proofs.make.countdown_of.Goals as goal

pub returns-in-ModifyRegister-Long-Branch : goal.returns-in-ModifyRegister-Long-Branch
returns-in-ModifyRegister-Long-Branch c =
    let x = c.x-item.result in
    let y = c.y-item.result in
    let xs = c.args.operands.now in
    let arm = c.in-ModifyRegister-Long-Branch in
    let low : x.spec.reg < 15 = subst (λ (k : Kind). RestsOn k x.form.width x.spec) arm.is-0 x.rests in
    let index : Countdown = record { at_zero = c.args.at_zero; register = x.spec.reg; there = low } in
    let all : xs ≡ x ∷ (y ∷ []) = two_of xs x y (omega (arith, c.in-len2.len_at_least)) (omega (arith, c.in-len2.len_below)) c.x-item.is c.y-item.is in
    subst (λ (ys : List Operand). IsDoneBy (CountsDown index c.jump_of.result) c.args.length (does.SubtractOne c.args.at_zero) ys) (sym all)
    (counts_done index x y arm.displacement c.args.length c.jump_of.result arm.is-0 arm.is-1 refl arm.is-2 c.jump_of.ensures)
