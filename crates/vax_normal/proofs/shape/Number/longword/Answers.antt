use Rattle.std.proofs.Common.{arith, slice_index}
use Rattle.std.proofs.lemmas.Nat.{and_mask}
use Rattle.vax_normal.proofs.shape.Number.longword.Goals as goal

pub returns : goal.returns
returns c = λ r. omega (arith, and_mask (slice_index r c.args.register) 32)
