use Rattle.vax_table.proofs.Wholes.{stores_claimed}
use Rattle.vax_table.proofs.plan_laws.instructions_claim_their_stores.Goals as goal

pub returns : goal.returns
returns c is_kernel psl r s opcode e h = stores_claimed is_kernel psl r s opcode e h
