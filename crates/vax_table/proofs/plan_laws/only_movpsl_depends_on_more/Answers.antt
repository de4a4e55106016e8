use Rattle.vax_table.proofs.Plans.{plans_planned}
use Rattle.vax_table.proofs.plan_laws.only_movpsl_depends_on_more.Goals as goal

pub returns : goal.returns
returns c = plans_planned
