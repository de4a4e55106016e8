use Rattle.std.proofs.Common.{arith}
use Rattle.vm_shadow.proofs.Remembering.{skips_groups}
use Rattle.vm_shadow.proofs.records.skip.Goals as goal

pub returns : goal.returns
returns c = record {
  skips = skips_groups c.args.groups.now c.args.row c.args.from c.next.result c.next.ensures c.if-from-ne0.false;
  few = omega (arith, c.next.ensures.within);
}
