use Rattle.std.proofs.Common.{length}
use Rattle.vax_normal.proofs.make.+are_at_hand.Given as goal

abbrev pub decreases-are_at_hand : goal.decreases-are_at_hand
decreases-are_at_hand l = length l.operands.now
