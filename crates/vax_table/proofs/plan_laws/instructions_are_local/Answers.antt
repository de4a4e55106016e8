use Rattle.vax_table.specs.Whole.{instruction}
use Rattle.vax_table.proofs.Scripts.{outcome_far}
use Rattle.vax_table.proofs.plan_laws.instructions_are_local.Goals as goal

pub returns : goal.returns
returns c is_kernel psl r s t below = outcome_far s t below (instruction is_kernel psl r)
