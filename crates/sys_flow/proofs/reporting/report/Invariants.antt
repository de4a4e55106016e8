use Rattle.std.proofs.Common.{◌≡◌}
use Rattle.sys_flow.specs.Relation.{reads}
use Rattle.sys_flow.specs.Report.{flows_from}
use Rattle.sys_flow.proofs.reporting.report.Given as goal

abbrev pub invariant-loop-a : goal.invariant-loop-a
invariant-loop-a l = l.text.items ≡ flows_from l.c (reads l.reached) l.a
