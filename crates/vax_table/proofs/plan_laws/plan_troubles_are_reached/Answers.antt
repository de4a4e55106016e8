use Rattle.vax_table.specs.Plan.{plan_of}
use Rattle.vax_table.proofs.Scripts.{trouble_reached}
use Rattle.vax_table.proofs.plan_laws.plan_troubles_are_reached.Goals as goal

pub returns : goal.returns
returns c psl d r s t below intent va cause e = trouble_reached s t below (plan_of psl d r) intent va cause e
