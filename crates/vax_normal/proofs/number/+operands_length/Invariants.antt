use Rattle.std.proofs.Common.{length}
use Rattle.vax_normal.proofs.number.+operands_length.Given as goal

abbrev pub decreases-operands_length : goal.decreases-operands_length
decreases-operands_length l = length l.operands.now
