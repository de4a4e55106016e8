use Rattle.vax_table.proofs.Wholes.{exactly_claimed}
use Rattle.vax_table.proofs.plan_laws.claims_are_stores.Goals as goal

pub returns : goal.returns
returns c is_kernel psl r s opcode e h = exactly_claimed is_kernel psl r s opcode e h
