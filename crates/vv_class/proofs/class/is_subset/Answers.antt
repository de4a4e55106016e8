use Rattle.vv_class.proofs.Bits.{subset_law}
use Rattle.vv_class.proofs.class.is_subset.Goals as goal

pub returns : goal.returns
returns c = subset_law c.args.a c.args.b c.ranges.a.fits
