use Rattle.vax_table.specs.Whole.{instruction}
use Rattle.vax_table.proofs.Scripts.{trouble_reached}
use Rattle.vax_table.proofs.plan_laws.troubles_are_reached.Goals as goal

pub returns : goal.returns
returns c is_kernel psl r s t below intent va cause e = trouble_reached s t below (instruction is_kernel psl r) intent va cause e
