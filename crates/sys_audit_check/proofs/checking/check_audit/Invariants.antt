use Rattle.std.proofs.Common.{length}
use Rattle.sys_audit_check.proofs.Reaching.{Reached}
use Rattle.sys_audit_check.proofs.checking.check_audit.Given as goal

abbrev pub invariant-loop-rest : goal.invariant-loop-rest
invariant-loop-rest l = Reached l.c l.b l.line l.replay l.rest

abbrev pub decreases-loop-rest : goal.decreases-loop-rest
decreases-loop-rest l = length l.rest
