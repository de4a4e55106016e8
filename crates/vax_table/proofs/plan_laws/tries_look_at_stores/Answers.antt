use Rattle.vax_table.proofs.Tries.{tries_stores}
use Rattle.vax_table.proofs.plan_laws.tries_look_at_stores.Goals as goal

pub returns : goal.returns
returns c is_kernel psl r s is_clear opcode e h = tries_stores is_kernel psl r s is_clear opcode e h
