use Rattle.vax_table.proofs.Plans.{outcome_sound}
use Rattle.vax_table.proofs.plan_laws.plans_claim_exactly.Goals as goal

pub returns : goal.returns
returns c psl d r s e h = (outcome_sound psl d r s e h).claimed
