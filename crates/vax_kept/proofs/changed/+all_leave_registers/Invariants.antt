use Rattle.std.proofs.Common.{length}
use Rattle.vax_kept.proofs.changed.+all_leave_registers.Given as goal

abbrev pub decreases-all_leave_registers : goal.decreases-all_leave_registers
decreases-all_leave_registers l = length l.operands.now
