use Rattle.std.proofs.Common.{◌≡◌, ◌-◌, length}
use Rattle.sys_trace.specs.TraceLine.{at_left}
use Rattle.sys_trace.proofs.step_line.put_blanks.Given as goal

abbrev pub invariant-loop-line : goal.invariant-loop-line
invariant-loop-line l = at_left l.column l.line ≡ at_left l.column l.fn.line

abbrev pub decreases-loop-line : goal.decreases-loop-line
decreases-loop-line l = l.column - length l.line
