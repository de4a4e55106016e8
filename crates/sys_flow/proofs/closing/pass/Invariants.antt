use Rattle.sys_flow.proofs.Rows.{ArePassed}
use Rattle.sys_flow.proofs.closing.pass.Given as goal

abbrev pub invariant-loop-row : goal.invariant-loop-row
invariant-loop-row l = ArePassed l.fn.rows l.k l.row-index l.rows
