use Rattle.std.proofs.Common.{length}
use Rattle.vax_normal.proofs.indexed.+indexed_among.Given as goal

abbrev pub decreases-indexed_among : goal.decreases-indexed_among
decreases-indexed_among l = length l.operands.now
