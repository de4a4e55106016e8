use Rattle.std.proofs.Common.{length}
use Rattle.vax_decode.proofs.read.+number.Given as goal

abbrev pub decreases-number : goal.decreases-number
decreases-number l = length l.b.now
