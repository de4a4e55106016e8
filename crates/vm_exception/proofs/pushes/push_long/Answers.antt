use Rattle.std.proofs.Common.{refl}
use Rattle.vm_exception.proofs.Pushing.{pushed_four}
use Rattle.vm_exception.proofs.pushes.push_long.Goals as goal

pub returns-clause-bytes : goal.returns-clause-bytes
returns-clause-bytes c = pushed_four c.args.bytes.now.items _ _ _ _ _ _ _ _ c.to_le_bytes.result c.args.at c.args.long c.ranges.at.fits c.to_le_bytes.ensures c.push.ensures.items c.push-2.ensures.items c.push-3.ensures.items c.push-4.ensures.items refl refl refl refl
