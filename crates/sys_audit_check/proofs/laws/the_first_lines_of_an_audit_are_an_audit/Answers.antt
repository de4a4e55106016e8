use Rattle.sys_audit_check.proofs.Fronts.{audits_fronts}
use Rattle.sys_audit_check.proofs.laws.the_first_lines_of_an_audit_are_an_audit.Goals as goal

pub returns : goal.returns
returns c = audits_fronts
