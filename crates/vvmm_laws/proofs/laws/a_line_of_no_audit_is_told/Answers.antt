use Rattle.vvmm_laws.proofs.Audits.{tells_audit_line}
use Rattle.vvmm_laws.proofs.laws.a_line_of_no_audit_is_told.Goals as goal

pub returns : goal.returns
returns c = tells_audit_line
