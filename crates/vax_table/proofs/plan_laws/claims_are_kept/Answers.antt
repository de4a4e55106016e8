use Rattle.vax_table.specs.Plan.{plan_of}
use Rattle.vax_table.proofs.Claims.{claims_same}
use Rattle.vax_table.proofs.plan_laws.claims_are_kept.Goals as goal

pub returns : goal.returns
returns c psl d r s t e below h = claims_same s t below (plan_of psl d r) e h
