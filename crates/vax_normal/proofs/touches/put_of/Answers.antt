use Rattle.std.proofs.Common.{◌<◌, ap, subst}
use Rattle.vax_operand.specs.Prepared.{RestsOn}
use Rattle.vax_operand.specs.declared.kind.Kind.{Kind}
use Rattle.vax_normal.specs.Touched.{dest_had}
use Rattle.vax_normal.proofs.Sources.{claimed_put, hand_put}
use Rattle.vax_normal.proofs.touches.put_of.Goals as goal

pub returns-in-Modify-Some : goal.returns-in-Modify-Some
returns-in-Modify-Some c = λ r at claimed.
    let x = c.args.x.now in
    claimed_put x.kind x.spec.reg at _ c.args.writes.now r c.in-Modify-Some.is-1 claimed (ap (λ (k : Kind). dest_had at k x.spec.reg) c.in-Modify-Some.is-0)

pub returns-in-Write-Some : goal.returns-in-Write-Some
returns-in-Write-Some c = λ r at claimed.
    let x = c.args.x.now in
    claimed_put x.kind x.spec.reg at _ c.args.writes.now r c.in-Write-Some.is-1 claimed (ap (λ (k : Kind). dest_had at k x.spec.reg) c.in-Write-Some.is-0)

pub returns-in-ModifyRegister-None : goal.returns-in-ModifyRegister-None
returns-in-ModifyRegister-None c = λ r at claimed.
    let x = c.args.x.now in
    let low : x.spec.reg < 15 = subst (λ (k : Kind). RestsOn k x.form.width x.spec) c.in-ModifyRegister-None.is-0 x.rests in
    hand_put x.kind x.spec.reg at c.args.writes.now r c.in-ModifyRegister-None.is-1 low (ap (λ (k : Kind). dest_had at k x.spec.reg) c.in-ModifyRegister-None.is-0)

pub returns-in-WriteRegister-None : goal.returns-in-WriteRegister-None
returns-in-WriteRegister-None c = λ r at claimed.
    let x = c.args.x.now in
    let low : x.spec.reg < 15 = subst (λ (k : Kind). RestsOn k x.form.width x.spec) c.in-WriteRegister-None.is-0 x.rests in
    hand_put x.kind x.spec.reg at c.args.writes.now r c.in-WriteRegister-None.is-1 low (ap (λ (k : Kind). dest_had at k x.spec.reg) c.in-WriteRegister-None.is-0)
