use Rattle.vax_table.specs.Whole.{instruction}
use Rattle.vax_table.proofs.Tries.{tried_far}
use Rattle.vax_table.proofs.plan_laws.tries_are_local.Goals as goal

pub returns : goal.returns
returns c is_kernel psl r s t below above under mark = tried_far s t below above (instruction is_kernel psl r) under mark
