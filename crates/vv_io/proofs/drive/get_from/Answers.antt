use Rattle.std.proofs.Common.{arith}
use Rattle.vv_io.proofs.OneOf.{one_of}
use Rattle.vv_io.specs.Blocks.{Gets}
use Rattle.vv_io.proofs.drive.get_from.Goals as goal

pub returns-clause-gets : goal.returns-clause-gets
returns-clause-gets g c = one_of _ (λ s t. Gets s t c.args.block c.args.into.now c.get_block.new.into c.get_block.result) _ _ _ _ _ (omega arith) c.index_mut-drive.ensures.value c.get_block.ensures
