use Rattle.std.proofs.Common.{arith}
use Rattle.sys_flow.proofs.Numbers.{how_many}
use Rattle.sys_flow.proofs.objects.count.Goals as goal

pub returns : goal.returns
returns c =
    let all = how_many c.args.c.now in
    record { few = omega arith; value = omega (arith, all, c.audits.ensures.value) }
