use Rattle.std.proofs.Common.{refl}
use Rattle.vm_exception.proofs.Pushing.{placed_four}
use Rattle.vm_exception.proofs.pushes.push_homes.Goals as goal

pub returns-clause-homes : goal.returns-clause-homes
returns-clause-homes c = placed_four c.args.page c.args.entry c.args.homes.now.items _ _ _ _ _ _ _ _ c.to_le_bytes.result c.args.at c.args.long c.ranges.at.fits c.to_le_bytes.ensures c.push.ensures.items c.push-2.ensures.items c.push-3.ensures.items c.push-4.ensures.items refl refl refl refl
