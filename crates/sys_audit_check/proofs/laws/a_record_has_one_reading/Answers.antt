use Rattle.sys_audit_check.proofs.Following.{one_reading}
use Rattle.sys_audit_check.proofs.laws.a_record_has_one_reading.Goals as goal

pub returns : goal.returns
returns c = one_reading
