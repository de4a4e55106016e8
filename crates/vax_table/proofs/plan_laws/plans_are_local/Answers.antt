use Rattle.vax_table.specs.Plan.{plan_of}
use Rattle.vax_table.proofs.Scripts.{outcome_far}
use Rattle.vax_table.proofs.plan_laws.plans_are_local.Goals as goal

pub returns : goal.returns
returns c psl d r s t below = outcome_far s t below (plan_of psl d r)
