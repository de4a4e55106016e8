use Rattle.vvmm_laws.proofs.Fit.{audits_runs}
use Rattle.vvmm_laws.proofs.accepted.the_audit_line_of_a_run_is_an_audit.Goals as goal

pub returns : goal.returns
returns c = audits_runs
