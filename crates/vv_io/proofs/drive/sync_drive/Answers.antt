use Rattle.std.proofs.Common.{arith}
use Rattle.vv_io.proofs.OneOf.{one_of}
use Rattle.vv_io.specs.Blocks.{SyncsDrive}
use Rattle.vv_io.proofs.drive.sync_drive.Goals as goal

pub returns-clause-syncs : goal.returns-clause-syncs
returns-clause-syncs g c = one_of _ (λ s t. SyncsDrive s t c.sync_one.result) _ _ _ _ _ (omega arith) c.index_mut-drive.ensures.value c.sync_one.ensures
