use Rattle.sys_audit_check.proofs.Fronts.{ok_is_granted}
use Rattle.sys_audit_check.proofs.laws.what_says_ok_is_granted.Goals as goal

pub returns : goal.returns
returns c = ok_is_granted
