use Rattle.vvmm_laws.proofs.Audits.{tells_audit_rule}
use Rattle.vvmm_laws.proofs.laws.a_broken_rule_of_an_audit_is_told.Goals as goal

pub returns : goal.returns
returns c = tells_audit_rule
