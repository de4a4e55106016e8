use Rattle.std.proofs.Common.{ap, arith, bit_and}
use Rattle.std.proofs.lemmas.Nat.{and_le_r}
use Rattle.vax_normal.proofs.in_memory.low_bits.Goals as goal

pub returns : goal.returns
returns c = omega (arith, and_le_r c.args.number c.args.mask, ap (bit_and c.args.number) c.from.ensures, c.ranges.mask.fits)
