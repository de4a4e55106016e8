use Rattle.vvmm_laws.proofs.Audits.{completes_audit}
use Rattle.vvmm_laws.proofs.laws.an_audit_is_accepted.Goals as goal

pub returns : goal.returns
returns c = completes_audit
