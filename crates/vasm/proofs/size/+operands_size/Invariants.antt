use Rattle.std.proofs.Common.{length}
use Rattle.vasm.proofs.size.+operands_size.Given as goal

abbrev pub decreases-operands_size : goal.decreases-operands_size
decreases-operands_size l = length l.forms.now
