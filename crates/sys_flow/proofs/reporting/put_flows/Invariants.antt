use Rattle.std.proofs.Common.{◌≡◌, ◌++◌}
use Rattle.sys_flow.specs.Relation.{reads}
use Rattle.sys_flow.specs.Report.{flows_of}
use Rattle.sys_flow.proofs.reporting.put_flows.Given as goal

abbrev pub invariant-loop-b : goal.invariant-loop-b
invariant-loop-b l = l.text.items ≡ l.fn.text.items ++ flows_of l.c (reads l.reached) l.a l.b
