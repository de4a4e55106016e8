use Rattle.std.proofs.Common.{◌<◌, refl, sym, ◌∙◌, subst, arith}
use Rattle.vax_table.specs.Spelling.{view}
use Rattle.vax_operand.specs.declared.kind.Kind.{Kind}
use Rattle.vax_operand.specs.Prepared.{RestsOn}
use Rattle.vax_normal.proofs.Taking.{one_of}
use Rattle.vax_normal.specs.declared.rarer_shape.StatusMove.{StatusMove}
use Rattle.vax_normal.proofs.StatusMoves.{is_status_move}
use Rattle.vax_normal.proofs.status.status_move_of.Goals as goal

pub returns-in-MoveStatus-WriteRegister : goal.returns-in-MoveStatus-WriteRegister
returns-in-MoveStatus-WriteRegister c =
    let p = c.args.prepared.now in
    let x = c.x-item.result in
    let arm = c.in-MoveStatus-WriteRegister in
    let low : x.spec.reg < 15 = subst (λ (k : Kind). RestsOn k x.form.width x.spec) arm.is-1 x.rests in
    let n : StatusMove = record { register = x.spec.reg; length = c.from.result; there = low } in
    let all = sym c.as_slice.ensures.value ∙ one_of c.as_slice.result.now x (omega (arith, c.in-len1.len_at_least)) (omega (arith, c.in-len1.len_below)) c.x-item.is in
    is_status_move n (view p.decoded) p.operands.items x p.operation p.does arm.is-0 p.forms p.specs all arm.is-1 c.requires c.from.ensures refl
