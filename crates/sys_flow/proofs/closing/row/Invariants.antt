use Rattle.sys_flow.proofs.Rows.{IsFilled}
use Rattle.sys_flow.specs.Reach.{has_edge}
use Rattle.sys_flow.proofs.closing.row.Given as goal

abbrev pub invariant-loop-b : goal.invariant-loop-b
invariant-loop-b l = IsFilled (has_edge l.c l.a) l.b l.row
