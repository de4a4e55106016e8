use Rattle.sys_flow.proofs.Rows.{AreFilled}
use Rattle.sys_flow.specs.Reach.{has_edge}
use Rattle.sys_flow.proofs.closing.rows.Given as goal

abbrev pub invariant-loop-a : goal.invariant-loop-a
invariant-loop-a l = AreFilled (has_edge l.c) l.a l.rows.items
