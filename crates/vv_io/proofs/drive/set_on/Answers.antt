use Rattle.std.proofs.Common.{arith}
use Rattle.vv_io.proofs.OneOf.{one_of}
use Rattle.vv_io.specs.Blocks.{Sets}
use Rattle.vv_io.proofs.drive.set_on.Goals as goal

pub returns-clause-sets : goal.returns-clause-sets
returns-clause-sets g c = one_of _ (λ s t. Sets s t c.args.block c.args.from.now c.set_block.result) _ _ _ _ _ (omega arith) c.index_mut-drive.ensures.value c.set_block.ensures
