use Rattle.std.proofs.Common.{◌∙◌, ◌≡◌, ◌-◌, length, arith, sym}
use Rattle.std.proofs.lemmas.List.{length_push}
use Rattle.std.proofs.lemmas.Result.{err_from_is_err_and}
use Rattle.sys_snap.proofs.Loops.{packets_fault, packets_more}
use Rattle.sys_snap.proofs.devices.packets_alone.Goals as goal

pub returns-in_err-packet-clause-err : goal.returns-in_err-packet-clause-err
returns-in_err-packet-clause-err c =
    let p = err_from_is_err_and c.from_residual.result c.from_residual.ensures.1 in
    let front = c.loop-left.packets.items in
    rw (p.1, p.2) (sym c.loop-left.invariant.left ∙ packets_fault c.args.size front c.loop-left._left (c.loop-left._left - 1) (8 - length front) (7 - length front) c.loop-left.r _ (omega arith) (omega arith) c.in_err-packet.ensures)

pub loop-left-preserved : goal.loop-left-preserved
loop-left-preserved c =
    let front = c.loop-left.packets.items in
    let x = c.in_ok-packet.field-0 in
    let long = length_push front x in
    let fewer : 8 - length c.push.new.self.items ≡ 7 - length front = rw c.push.ensures.items (omega (arith, long)) in
    record {
      many = rw c.push.ensures.items (omega (arith, long));
      left = rw (fewer, c.push.ensures.items) (sym (packets_more c.args.size front x c.loop-left._left (c.loop-left._left - 1) (8 - length front) (7 - length front) c.loop-left.r c.packet.new.r (omega arith) (omega arith) c.in_ok-packet.ensures) ∙ c.loop-left.invariant.left);
    }
