use Rattle.vax_table.specs.Claims.{claims}
use Rattle.vax_table.specs.Plan.{plan_of}
use Rattle.vax_table.proofs.Plans.{outcome_sound}
use Rattle.vax_table.proofs.Wholes.{all_claimed}
use Rattle.vax_table.proofs.plan_laws.stores_are_claimed.Goals as goal

pub returns : goal.returns
returns c psl d r s e h = all_claimed (claims s (plan_of psl d r)) e.writes (outcome_sound psl d r s e h).claimed
